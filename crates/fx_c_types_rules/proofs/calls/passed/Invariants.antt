use Rattle.std.proofs.Common.{◌≡◌, drop}
use Rattle.std.specs.Vec.Iter.{into_iter_items}
use Rattle.fx_c_ast.specs.CheckedTrees.{texpr_trees}
use Rattle.fx_c_types_rules.specs.Calls.{passed, joined}
use Rattle.fx_c_types_rules.specs.Locals.{local_trees}
use Rattle.fx_c_types_rules.proofs.calls.passed.Given as goal

abbrev pub invariant-loop-e : goal.invariant-loop-e
invariant-loop-e l = joined (texpr_trees l.all.items) (passed (local_trees (drop l.place l.params)) (texpr_trees (into_iter_items l.e-iterator))) ≡ passed (local_trees l.params) (texpr_trees l.fn.args.items)
