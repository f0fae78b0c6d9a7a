use Rattle.std.proofs.Common.{◌≡◌, drop, max}
use Rattle.fx_c_ast.specs.CheckedTrees.{texpr_trees}
use Rattle.fx_c_ast.specs.StackUse.{need_all}
use Rattle.fx_c_ast.proofs.stack.+need.Given as goal

abbrev pub invariant-need_all-loop-behind : goal.invariant-need_all-loop-behind
invariant-need_all-loop-behind l = max l.greatest (need_all l.behind (texpr_trees (drop l.behind l.all))) ≡ need_all 0 (texpr_trees l.all)
