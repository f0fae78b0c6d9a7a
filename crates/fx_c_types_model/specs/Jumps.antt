-- Where `break` and `continue` stand.
use Rattle.std.specs.Prelude.{Bool, true, ◌&&◌}
use Rattle.fx_c_ast.specs.CheckedTrees.{TStmtTree, SEmpty, SBlock, SLocal, SEval, SAssign, SIf}
use Rattle.fx_c_ast.specs.CheckedTrees.{SWhile, SFor, SBreak, SContinue, SReturn, TStmtTrees}
use Rattle.fx_c_ast.specs.CheckedTrees.{NoTStmts, MoreTStmts, MaybeTStmt, NoTStmt, OneTStmt}

-- each `break` and `continue` stands in a loop, where the statement itself does or doesn't
abbrev mutual
  pub jumps_inside : Bool → TStmtTree → Bool
  jumps_inside loop SEmpty = true
  jumps_inside loop (SBlock all) = all_inside loop all
  jumps_inside loop (SLocal local init) = true
  jumps_inside loop (SEval e) = true
  jumps_inside loop (SAssign to e) = true
  jumps_inside loop (SIf test s other) = jumps_inside loop s && maybe_inside loop other
  jumps_inside loop (SWhile test s) = jumps_inside true s
  jumps_inside loop (SFor first test next s) = (maybe_inside loop first && maybe_inside loop next) && jumps_inside true s
  jumps_inside loop SBreak = loop
  jumps_inside loop SContinue = loop
  jumps_inside loop (SReturn e) = true

  pub maybe_inside : Bool → MaybeTStmt → Bool
  maybe_inside loop NoTStmt = true
  maybe_inside loop (OneTStmt s) = jumps_inside loop s

  pub all_inside : Bool → TStmtTrees → Bool
  all_inside loop NoTStmts = true
  all_inside loop (MoreTStmts s rest) = jumps_inside loop s && all_inside loop rest
