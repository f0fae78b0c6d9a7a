use Rattle.std.proofs.Common.{◌≡◌, drop, []}
use Rattle.fx_c_types.specs.Programs.{tags_of}
use Rattle.fx_c_types.specs.ProgramView.{placed_trees}
use Rattle.fx_c_types.proofs.program.tags_of.Given as goal

abbrev pub invariant-loop-placed : goal.invariant-loop-placed
invariant-loop-placed l = tags_of l.tags (placed_trees (drop l.placed-index l.all)) ≡ tags_of [] (placed_trees l.all)
