use Rattle.std.proofs.Common.{◌≡◌, ◌+◌, ◌++◌, drop}
use Rattle.fx_c_ast.specs.CheckedTrees.{texpr_trees}
use Rattle.fx_c_lower_model.specs.Lengths.{args_len}
use Rattle.fx_c_lower_model.specs.Code.{args_code}
use Rattle.fx_c_lower.specs.Views.{made, source, way_of, number_of}
use Rattle.fx_c_lower.proofs.expressions.+expressions.Given as goal

abbrev pub invariant-call-loop-e : goal.invariant-call-loop-e
invariant-call-loop-e l = record {
  place : l.out.at + args_len (source l.sizes) (texpr_trees (drop l.e-index l.all)) ≡ l.fn.out.at
      + args_len (source l.sizes) (texpr_trees l.all);
  code : made l.out ++ args_code (source l.sizes) l.out.at l.owing (way_of l.callee)
      (number_of l.callee) (texpr_trees (drop l.e-index l.all)) ≡ made l.fn.out
      ++ args_code (source l.sizes) l.fn.out.at l.owed (way_of l.callee) (number_of l.callee)
      (texpr_trees l.all);
}
