use Rattle.std.proofs.Common.{◌≡◌, drop}
use Rattle.fx_c_ast.specs.CheckedTrees.{texpr_trees}
use Rattle.fx_c_types_rules.specs.Calls.{are_scalars}
use Rattle.fx_c_types_rules.proofs.calls.are_scalars.Given as goal

abbrev pub invariant-loop-e : goal.invariant-loop-e
invariant-loop-e l = are_scalars (texpr_trees (drop l.e-index l.args)) ≡ are_scalars (texpr_trees l.args)
