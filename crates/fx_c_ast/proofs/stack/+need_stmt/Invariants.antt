use Rattle.std.proofs.Common.{◌≡◌, drop, max}
use Rattle.fx_c_ast.specs.CheckedTrees.{tstmt_trees}
use Rattle.fx_c_ast.specs.StackUse.{need_stmts}
use Rattle.fx_c_ast.proofs.stack.+need_stmt.Given as goal

abbrev pub invariant-need_stmts-loop-s : goal.invariant-need_stmts-loop-s
invariant-need_stmts-loop-s l = max l.greatest (need_stmts (tstmt_trees (drop l.s-index l.all))) ≡ need_stmts (tstmt_trees l.all)
