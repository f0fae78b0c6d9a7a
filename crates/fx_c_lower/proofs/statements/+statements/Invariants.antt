use Rattle.std.proofs.Common.{◌≡◌, ◌+◌, ◌++◌, drop}
use Rattle.fx_c_ast.specs.CheckedTrees.{ty_tree, tstmt_trees}
use Rattle.fx_c_lower_model.specs.Lengths.{stmts_len}
use Rattle.fx_c_lower_model.specs.Code.{stmts_code}
use Rattle.fx_c_lower.specs.Views.{made, source}
use Rattle.fx_c_lower.proofs.statements.+statements.Given as goal

abbrev pub invariant-stmts-loop-s : goal.invariant-stmts-loop-s
invariant-stmts-loop-s l = record {
  left : l.left ≡ stmts_len (source l.sizes) (ty_tree l.gives) (tstmt_trees (drop l.s-index l.all));
  place : l.out.at + stmts_len (source l.sizes) (ty_tree l.gives)
      (tstmt_trees (drop l.s-index l.all)) ≡ l.fn.out.at
      + stmts_len (source l.sizes) (ty_tree l.gives) (tstmt_trees l.all);
  code : made l.out ++ stmts_code (source l.sizes) (ty_tree l.gives) l.out.at l.to.exit l.to.leave
      l.to.again (tstmt_trees (drop l.s-index l.all)) ≡ made l.fn.out
      ++ stmts_code (source l.sizes) (ty_tree l.gives) l.fn.out.at l.to.exit l.to.leave l.to.again
      (tstmt_trees l.all);
}
