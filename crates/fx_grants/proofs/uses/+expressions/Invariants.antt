use Rattle.std.proofs.Common.{◌≡◌, ◌++◌, drop}
use Rattle.fx_c_ast.specs.CheckedTrees.{texpr_trees}
use Rattle.fx_grants.specs.Uses.{uses_all}
use Rattle.fx_grants.proofs.uses.+expressions.Given as goal

abbrev pub invariant-arguments_uses-loop-e : goal.invariant-arguments_uses-loop-e
invariant-arguments_uses-loop-e l = l.out.items ++ uses_all (texpr_trees (drop l.e-index l.all)) ≡ l.fn.out.items ++ uses_all (texpr_trees l.all)
