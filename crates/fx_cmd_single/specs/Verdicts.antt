-- What the end of a run in one compartment is called, and its status.
use Rattle.std.specs.Prelude.{◌≡◌, ℕ}
use Rattle.fx_c_mean_model.specs.declared.end.End.{End}
use Rattle.fx_c_mean_model.specs.declared.end.End.TheVariants as end
use Rattle.fx_c_mean_model.specs.Laws.{IsNoDenial}
use Rattle.fx_cmd_single.specs.declared.outcome.Outcome.{Outcome}
use Rattle.fx_cmd_single.specs.declared.outcome.Outcome.TheVariants as outcomes
use Rattle.fx_cmd_single.specs.declared.verdict.Verdict.{Verdict}
use Rattle.fx_cmd_single.specs.declared.verdict.Verdict.TheVariants.{Exited, StackFull, Divide, BadThread, ThreadsFull, Undefined, Spent, DeviceFault, ReadFault, WriteFault, OutOfMemory}

-- No access was denied.
abbrev pub IsUndenied : Outcome → Type 0
IsUndenied (outcomes.Ended e) = IsNoDenial e
IsUndenied _ = Unit {0}

-- What an end after so much cost is called. In one compartment none is a denial.
abbrev pub Calls : End → ℕ → Verdict → Type 0
Calls (end.Exit value) cost verdict = verdict ≡ Exited value cost
Calls (end.Denied compartment object offset write) cost verdict = ⊥
Calls (end.StackFull thread stack) cost verdict = verdict ≡ StackFull thread
Calls end.Divide cost verdict = verdict ≡ Divide
Calls end.BadThread cost verdict = verdict ≡ BadThread
Calls end.ThreadsFull cost verdict = verdict ≡ ThreadsFull
Calls end.Undefined cost verdict = verdict ≡ Undefined

-- What the end of a run within a budget is called, where its steps cost so much.
abbrev pub IsCalled : Outcome → ℕ → ℕ → Verdict → Type 0
IsCalled (outcomes.Ended e) cost budget verdict = Calls e cost verdict
IsCalled outcomes.Spent cost budget verdict = verdict ≡ Spent budget
IsCalled (outcomes.Device device) cost budget verdict = verdict ≡ DeviceFault device
IsCalled outcomes.ReadFault cost budget verdict = verdict ≡ ReadFault
IsCalled outcomes.WriteFault cost budget verdict = verdict ≡ WriteFault
IsCalled outcomes.OutOfMemory cost budget verdict = verdict ≡ OutOfMemory

abbrev pub status_of : Verdict → ℕ
status_of (Exited value cost) = 0
status_of WriteFault = 5
status_of OutOfMemory = 6
status_of (StackFull thread) = 7
status_of (Spent budget) = 8
status_of Divide = 9
status_of BadThread = 9
status_of ThreadsFull = 9
status_of Undefined = 10
status_of (DeviceFault device) = 11
status_of ReadFault = 12
