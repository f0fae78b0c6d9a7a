-- The runner's state as that of the meaning, and how a step of the one is a step of the other.
use Rattle.std.specs.Prelude.{◌≡◌, ℕ, Bool, false, List, [], ◌∷◌, map, Option, Some, None, if◌then◌else◌}
use Rattle.fx_outcomes.specs.Runs.{Goes, Stops}
use Rattle.fx_c_ast.specs.CheckedTrees.{TyTree}
use Rattle.fx_c_mean_blocks.specs.declared.block.Place.{Place}
use Rattle.fx_c_mean_blocks.specs.declared.block.Object.{Object}
use Rattle.fx_c_mean_blocks.specs.declared.value.Cell.{Cell}
use Rattle.fx_c_mean_blocks.specs.declared.value.Value.{Value}
use Rattle.fx_c_mean_blocks.specs.Blocks.{object_in, offset_in, cells_of}
use Rattle.fx_c_mean_model.specs.declared.end.End.{End}
use Rattle.fx_c_mean_model.specs.declared.end.End.TheVariants.{Denied}
use Rattle.fx_c_mean_model.specs.declared.rights.Rights.{Rights}
use Rattle.fx_c_mean_model.specs.Programs.{Program, size_in, zeros, live_object}
use Rattle.fx_c_mean_model.specs.Rights.{may}
use Rattle.fx_c_mean_model.specs.States.{Way, Plainly, ByGate, First, Call, Frame, Caller}
use Rattle.fx_c_mean_model.specs.Steps as steps
use Rattle.fx_c_mean_model.specs.Steps.{State, Outcome, crosses_by, taken}
use Rattle.fx_c_mean_control.specs.Views.{call_of, frames_of, spot_of}
use Rattle.fx_c_mean_control.specs.declared.frames.Act.{Act}
use Rattle.fx_c_mean_control.specs.declared.frames.Frame.{Frame as RunFrame}
use Rattle.fx_c_mean_control.specs.declared.frames.Frame.TheVariants as frame
use Rattle.fx_c_mean_control.specs.declared.frames.Call.{Call as RunCall}
use Rattle.fx_c_mean_control.specs.declared.frames.Act.TheVariants.{Ask, Tell, Load, Store, ReadByte, WriteByte}
use Rattle.fx_c_mean_acts.specs.declared.state.Thread.{Thread}
use Rattle.fx_c_mean_acts.specs.declared.state.Thread.TheVariants as thread
use Rattle.fx_c_mean_acts.specs.declared.state.Core.{Core}
use Rattle.fx_c_mean_acts.specs.declared.state.Moved.{Moved}
use Rattle.fx_c_mean_acts.specs.declared.state.Moved.TheVariants as moved

abbrev pub thread_of : Thread → steps.Thread
thread_of thread.Running = steps.Running
thread_of (thread.Waiting now frames call) = steps.Waiting (spot_of now (frames_of frames)) (call_of call)
thread_of thread.Ended = steps.Ended

abbrev pub state_of : Core → State
state_of c = record { memory = c.memory; threads = map thread_of c.threads.items; current = c.current; call = call_of c.call; spot = spot_of c.here (frames_of c.frames) }

-- an outcome of the meaning, and what the runner came to
abbrev pub Comes : Outcome → Moved → State → State → Type 0
Comes outcome moved.Went before after = outcome ≡ Goes [] after
Comes outcome (moved.Stopped e) before after = outcome ≡ Stops [] e
Comes outcome moved.OutOfMemory before after = after ≡ before

-- the end of the run where an access is not granted
abbrev pub denied : Program → Rights → State → Value → Bool → Place → Option End
denied p r s v write place = if may p r (steps.actor p r s) place write then None else Some (Denied (steps.actor p r s) (object_in v) (offset_in v) write)

-- Memory after a denial is memory before it, so that the declaration of its object can be read off it.
abbrev pub Keeps : End → List Object → List Object → Type 0
Keeps e before after = (compartment object offset : ℕ) (write : Bool) → e ≡ Denied compartment object offset write → after ≡ before

abbrev pub KeepsWhereDenied : Moved → List Object → List Object → Type 0
KeepsWhereDenied (moved.Stopped e) before after = Keeps e before after
KeepsWhereDenied _ before after = Unit {0}

-- the same of a step that accesses memory; no other is denied
abbrev pub KeepsByAccess : Act → Moved → List Object → List Object → Type 0
KeepsByAccess (Load ty v) m before after = KeepsWhereDenied m before after
KeepsByAccess (Store ty to v) m before after = KeepsWhereDenied m before after
KeepsByAccess (ReadByte ty to v done) m before after = KeepsWhereDenied m before after
KeepsByAccess (WriteByte ty to v done cell) m before after = KeepsWhereDenied m before after
KeepsByAccess _ m before after = Unit {0}

-- a step that makes no operation on a device
abbrev pub NeedsNoDevice : Act → Type 0
NeedsNoDevice (Ask device register) = ⊥
NeedsNoDevice (Tell device register v) = ⊥
NeedsNoDevice _ = Unit {0}

-- ---- calls

-- the caller that a frame is, with whether it waits for a gate between compartments
abbrev pub caller_of : RunFrame → Option (RunCall × Bool)
caller_of (frame.Caller call crosses) = Some (call, crosses)
caller_of _ = None

-- what a caller that waits takes of a stack
abbrev pub taken_of : Program → Rights → ℕ → Option (RunCall × Bool) → ℕ
taken_of p r stack None = 0
taken_of p r stack (Some c) = taken p r stack (call_of c.0) c.1

abbrev pub caller_in : Option RunFrame → Option (RunCall × Bool)
caller_in None = None
caller_in (Some f) = caller_of f

-- whether somebody waits for a call to return, and if so, whether it is one of a gate between compartments
abbrev pub waits_for : Program → Rights → Way → ℕ → ℕ → Option Bool
waits_for p r First from to = None
waits_for p r Plainly from to = Some false
waits_for p r ByGate from to = Some (crosses_by p r ByGate from to)

-- the frames of a thread with those of a caller that waits
abbrev pub with_caller : Option Bool → Call → List Frame → List Frame
with_caller None call rest = rest
with_caller (Some crosses) call rest = Caller call crosses ∷ rest

-- the cells of a parameter or local: its argument's value, or zeros
abbrev pub cells_for : ℕ → Option Value → List Cell
cells_for bytes None = zeros bytes
cells_for bytes (Some v) = cells_of bytes v

abbrev pub local_object : Program → Place → TyTree → Option Value → Object
local_object p place ty value = live_object place (size_in p ty) (cells_for (size_in p ty) value)
