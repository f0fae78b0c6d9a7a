use Rattle.std.proofs.Common.{◌≡◌, drop}
use Rattle.fx_c_ast.specs.CheckedTrees.{texpr_trees}
use Rattle.fx_c_types_rules.specs.Calls.{are_passed}
use Rattle.fx_c_types_rules.specs.Locals.{local_trees}
use Rattle.fx_c_types_rules.proofs.calls.are_passed.Given as goal

abbrev pub invariant-loop-i : goal.invariant-loop-i
invariant-loop-i l = are_passed (local_trees (drop l.i l.params)) (texpr_trees (drop l.i l.args)) ≡ are_passed (local_trees l.params) (texpr_trees l.args)
