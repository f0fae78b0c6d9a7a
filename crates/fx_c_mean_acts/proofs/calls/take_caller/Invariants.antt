use Rattle.std.proofs.Common.{◌≡◌, length}
use Rattle.fx_c_mean_model.specs.States.{unwind}
use Rattle.fx_c_mean_control.specs.Views.{frames_of}
use Rattle.fx_c_mean_acts.proofs.calls.take_caller.Given as goal

abbrev pub invariant-loop-frame : goal.invariant-loop-frame
invariant-loop-frame l = unwind (frames_of l.frames) ≡ unwind (frames_of l.initial.frames)

abbrev pub decreases-loop-frame : goal.decreases-loop-frame
decreases-loop-frame l = length l.frames
