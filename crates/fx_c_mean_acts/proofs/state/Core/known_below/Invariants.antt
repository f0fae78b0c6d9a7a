use Rattle.std.proofs.Common.{◌≡◌, drop}
use Rattle.fx_c_mean_model.specs.States.{unwind}
use Rattle.fx_c_mean_control.specs.Views.{frames_of}
use Rattle.fx_c_mean_acts.proofs.state.Core.known_below.Given as goal

abbrev pub invariant-loop-i : goal.invariant-loop-i
invariant-loop-i l = unwind (frames_of (drop l.i l.self.frames)) ≡ unwind (frames_of l.self.frames)
