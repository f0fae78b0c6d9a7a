use Rattle.std.proofs.Common.{◌≡◌, ◌++◌, map, drop}
use Rattle.fx_c_mean_model.specs.Programs.{program_of, global_of, global_objects}
use Rattle.fx_c_mean.proofs.start.add_globals.Given as goal

abbrev pub invariant-loop-global : goal.invariant-loop-global
invariant-loop-global l = record {
  number : l.number ≡ l.global-index;
  made : l.memory ++ global_objects (program_of l.source.program.now) l.number (map global_of (drop l.global-index l.global-items)) ≡ l.fn.memory ++ global_objects (program_of l.source.program.now) 0 (map global_of l.global-items);
}
