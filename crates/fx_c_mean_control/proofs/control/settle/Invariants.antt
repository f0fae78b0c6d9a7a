use Rattle.std.proofs.Common.{◌≡◌}
use Rattle.fx_c_mean_control.specs.Views.{spot_of, frames_of}
use Rattle.fx_c_mean_control.proofs.control.settle.Given as goal

abbrev pub invariant-loop : goal.invariant-loop
invariant-loop l = spot_of l.here (frames_of l.frames) ≡ spot_of l.initial.here (frames_of l.initial.frames)
