use Rattle.std.proofs.Common.{◌≡◌, ◌+◌, drop}
use Rattle.fx_c_ast.specs.CheckedTrees.{texpr_trees}
use Rattle.fx_c_lower_model.specs.Lengths.{args_len}
use Rattle.fx_c_lower.specs.Views.{source}
use Rattle.fx_c_lower.proofs.lengths.+sizes.Given as goal

abbrev pub invariant-args_size-loop-e : goal.invariant-args_size-loop-e
invariant-args_size-loop-e l = l.size + args_len (source l.sizes)
    (texpr_trees (drop l.e-index l.all)) ≡ args_len (source l.sizes) (texpr_trees l.all)
