-- Trees made from their parts.
use Rattle.std.specs.Prelude.{◌≡◌, Option, Some, None, Result, Ok, Err}
use Rattle.fx_c_ast.specs.declared.parsed.Stmt.{Stmt}
use Rattle.fx_c_ast.specs.ParsedTrees.{ExprTree, ExprTrees, NoExprs, MoreExprs, StmtTree, StmtTrees, NoStmts, MoreStmts, MaybeStmt, Absent, Present, stmt_tree}
use Rattle.std.specs.Prelude.{Box}
use Rattle.std.specs.Global.{Global}
use Rattle.fx_c_parse.specs.declared.fault.Fault.{Fault}
use Rattle.fx_c_parse.specs.declared.fault.Fault.TheVariants.{OutOfMemory}

-- what a function returned, seen by view, is this tree, unless memory ran out
abbrev pub Makes : {X Y : Type 0} → (X → Y) → Result X Fault → Y → Type 0
Makes view (Ok x) tree = view x ≡ tree
Makes view (Err e) tree = e ≡ OutOfMemory

abbrev pub maybe_simple : Option (Box Stmt Global) → MaybeStmt
maybe_simple None = Absent
maybe_simple (Some s) = Present (stmt_tree s.value)

abbrev pub with_last : ExprTrees → ExprTree → ExprTrees
with_last NoExprs e = MoreExprs e NoExprs
with_last (MoreExprs x rest) e = MoreExprs x (with_last rest e)

abbrev pub with_last_stmt : StmtTrees → StmtTree → StmtTrees
with_last_stmt NoStmts s = MoreStmts s NoStmts
with_last_stmt (MoreStmts x rest) s = MoreStmts x (with_last_stmt rest s)
