use Rattle.std.proofs.Common.{◌≡◌, drop}
use Rattle.fx_c_types_heads.specs.Heads.{no_heads}
use Rattle.fx_c_types_heads.specs.HeadsView.{heads_tree}
use Rattle.fx_c_types.specs.Programs.{heads_of}
use Rattle.fx_c_types.specs.ProgramView.{placed_trees}
use Rattle.fx_c_types.proofs.program.heads_of.Given as goal

abbrev pub invariant-loop-placed : goal.invariant-loop-placed
invariant-loop-placed l = record {
  place : l.number ≡ l.placed-index;
  rest : heads_of l.number (heads_tree l.heads) (placed_trees (drop l.placed-index l.all)) ≡ heads_of 0 (no_heads l.fn.tags) (placed_trees l.all);
}
