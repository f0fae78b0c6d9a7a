use Rattle.std.proofs.Common.{◌≡◌, ◌+◌, drop}
use Rattle.fx_c_ast.specs.CheckedTrees.{ty_tree, tstmt_trees}
use Rattle.fx_c_lower_model.specs.Lengths.{stmts_len}
use Rattle.fx_c_lower.specs.Views.{source}
use Rattle.fx_c_lower.proofs.lengths.+statement_sizes.Given as goal

abbrev pub invariant-stmts_size-loop-s : goal.invariant-stmts_size-loop-s
invariant-stmts_size-loop-s l = l.size + stmts_len (source l.sizes) (ty_tree l.gives)
    (tstmt_trees (drop l.s-index l.all)) ≡ stmts_len (source l.sizes) (ty_tree l.gives)
    (tstmt_trees l.all)
