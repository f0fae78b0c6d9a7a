use Rattle.std.proofs.Common.{◌≡◌, drop}
use Rattle.fx_c_types_heads.specs.HeadsView.{heads_tree}
use Rattle.fx_c_types.specs.Programs.{no_bodies, bodies_of}
use Rattle.fx_c_types.specs.ProgramView.{placed_trees, bodies_tree}
use Rattle.fx_c_types.proofs.program.bodies_of.Given as goal

abbrev pub invariant-loop-placed : goal.invariant-loop-placed
invariant-loop-placed l = record {
  place : l.number ≡ l.placed-index;
  rest : bodies_of l.number (heads_tree l.heads) (bodies_tree l.bodies) (placed_trees (drop l.placed-index l.all)) ≡ bodies_of 0 (heads_tree l.heads) no_bodies (placed_trees l.all);
}
