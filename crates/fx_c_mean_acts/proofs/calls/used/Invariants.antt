use Rattle.std.proofs.Common.{◌≡◌, ◌+◌, ◌-◌, ◌^◌, ◌≤◌, min, drop}
use Rattle.fx_c_mean_model.specs.Programs.{program_of}
use Rattle.fx_c_mean_model.specs.Steps.{use_of}
use Rattle.fx_c_mean_control.specs.Views.{frames_of}
use Rattle.fx_c_mean_acts.proofs.calls.used.Given as goal

abbrev pub invariant-loop-i : goal.invariant-loop-i
invariant-loop-i l = record {
  total : min (l.sum + use_of (program_of l.source.program.now) l.source.rights l.stack (frames_of (drop l.i l.frames))) (2 ^ 64 - 1)
      ≡ min (use_of (program_of l.source.program.now) l.source.rights l.stack (frames_of l.frames)) (2 ^ 64 - 1);
  fits : l.sum ≤ 2 ^ 64 - 1;
}
