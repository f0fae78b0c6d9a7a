-- States in which the marks of callers are changed that tell whether they wait for a gate between compartments.
use Rattle.std.specs.Prelude.{Bool, false, map}
use Rattle.fx_c_mean_model.specs.States.{Frame, Caller, Spot, Does}
use Rattle.fx_c_mean_model.specs.Steps.{Thread, Waiting, State}

abbrev pub marked_frame : (Bool → Bool) → Frame → Frame
marked_frame mark (Caller call crosses) = Caller call (mark crosses)
marked_frame mark f = f

abbrev pub marked_spot : (Bool → Bool) → Spot → Spot
marked_spot mark (Does act rest) = Does act (map (marked_frame mark) rest)

abbrev pub marked_thread : (Bool → Bool) → Thread → Thread
marked_thread mark (Waiting spot call) = Waiting (marked_spot mark spot) call
marked_thread mark t = t

abbrev pub marked : (Bool → Bool) → State → State
marked mark s = record s { threads = map (marked_thread mark) s.threads; spot = marked_spot mark s.spot }

abbrev pub never : Bool → Bool
never crosses = false

-- no caller waits for a gate between compartments
abbrev pub uncrossed : State → State
uncrossed s = marked never s
