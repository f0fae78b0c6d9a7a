-- What the end of a run is.
use Rattle.std.specs.Prelude.{ℕ, Bool, true, false, ◌&&◌, if◌then◌else◌}
use Rattle.fx_vm_pages.specs.declared.access.Access.{Access}
use Rattle.fx_vm_pages.specs.declared.access.Access.TheVariants.{Read, Write, Fetch}
use Rattle.fx_vm_pages.specs.declared.access.Refusal.{Refusal}
use Rattle.fx_vm_pages.specs.declared.access.Refusal.TheVariants.{Unmapped, Permission, Key}
use Rattle.fx_image.specs.Layout.{object_at}
use Rattle.fx_image.specs.declared.find.Found.{Found}
use Rattle.fx_image.specs.declared.find.Found.TheVariants.{Object, Nothing}
use Rattle.fx_image.specs.declared.forms.Image.{Image}
use Rattle.fx_machine_model.specs.Layout.{is_ept}
use Rattle.fx_machine_model.specs.declared.stop.Stop.{Stop}
use Rattle.fx_machine_model.specs.declared.stop.Stop.TheVariants as stops
use Rattle.fx_machine_model.specs.declared.outcome.Outcome.{Outcome}
use Rattle.fx_machine_model.specs.declared.outcome.Outcome.TheVariants as outcomes
use Rattle.fx_cmd_run.specs.declared.verdict.Verdict.{Verdict}
use Rattle.fx_cmd_run.specs.declared.verdict.Verdict.TheVariants.{Exited, Denied, StackFull, Divide}
use Rattle.fx_cmd_run.specs.declared.verdict.Verdict.TheVariants.{BadThread, ThreadsFull, Invalid}
use Rattle.fx_cmd_run.specs.declared.verdict.Verdict.TheVariants.{Protection, Aborted, Page, Spent}
use Rattle.fx_cmd_run.specs.declared.verdict.Verdict.TheVariants.{DeviceFault, ReadFault}
use Rattle.fx_cmd_run.specs.declared.verdict.Verdict.TheVariants.{WriteFault, OutOfMemory}

-- Whether a refused access was to an object.
abbrev pub is_object : Found → Bool
is_object (Object object offset) = true
is_object _ = false

-- Whether it was to an object or a stack.
abbrev pub is_data : Found → Bool
is_data Nothing = false
is_data _ = true

-- Whether a refusal of a read or a write is a denial: by key, or where each compartment has an address space
-- because it doesn't map the page, or because it may not write the object.
abbrev pub denies : Bool → Access → Refusal → Found → Bool
denies ept Fetch refusal place = false
denies ept access Key place = is_data place
denies ept access Unmapped place = ept && is_data place
denies ept Write Permission place = ept && is_object place
denies ept Read Permission place = false

abbrev pub is_write : Access → Bool
is_write Write = true
is_write _ = false

abbrev pub refused : Image → ℕ → ℕ → Access → Refusal → Found → Verdict
refused image domain address access refusal place =
    if denies (is_ept image) access refusal place then Denied domain place (is_write access) else Page address

abbrev pub stopped : Image → Stop → ℕ → Verdict
stopped image (stops.Exit value) turns = Exited value turns
stopped image (stops.Page vcpu domain address access refusal) turns = refused image domain address access refusal (object_at image address)
stopped image stops.Invalid turns = Invalid
stopped image stops.Protection turns = Protection
stopped image stops.Divide turns = Divide
stopped image (stops.StackFull thread stack) turns = StackFull thread stack
stopped image stops.BadThread turns = BadThread
stopped image stops.ThreadsFull turns = ThreadsFull
stopped image stops.Aborted turns = Aborted

abbrev pub verdict_of : Image → Outcome → ℕ → Verdict
verdict_of image (outcomes.Stopped stop) turns = stopped image stop turns
verdict_of image outcomes.Spent turns = Spent turns
verdict_of image (outcomes.Device device) turns = DeviceFault device
verdict_of image outcomes.ReadFault turns = ReadFault
verdict_of image outcomes.WriteFault turns = WriteFault
verdict_of image outcomes.OutOfMemory turns = OutOfMemory

abbrev pub status_of : Verdict → ℕ
status_of (Exited value turns) = 0
status_of (Denied domain place write) = 1
status_of WriteFault = 5
status_of OutOfMemory = 6
status_of (StackFull thread stack) = 7
status_of (Spent turns) = 8
status_of Divide = 9
status_of BadThread = 9
status_of ThreadsFull = 9
status_of Invalid = 10
status_of Protection = 10
status_of Aborted = 10
status_of (Page address) = 10
status_of (DeviceFault device) = 11
status_of ReadFault = 12
