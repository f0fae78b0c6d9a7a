-- Which stop of the machine corresponds to the end of a source's run.
use Rattle.std.specs.Prelude.{ℕ, ◌≡◌, ◌⊎◌, Bool, true, false, MatchBool}
use Rattle.fx_c_mean_model.specs.declared.end.End.{End}
use Rattle.fx_c_mean_model.specs.declared.end.End.TheVariants.{Exit, Denied, StackFull, Divide, BadThread, ThreadsFull, Undefined}
use Rattle.fx_vm_pages.specs.declared.access.Access.{Access}
use Rattle.fx_vm_pages.specs.declared.access.Access.TheVariants.{Read, Write}
use Rattle.fx_vm_pages.specs.declared.access.Refusal.{Refusal}
use Rattle.fx_vm_pages.specs.declared.access.Refusal.TheVariants.{Unmapped, Permission, Key}
use Rattle.fx_image.specs.Keys.{is_keyed}
use Rattle.fx_image.specs.Layout.{object_at}
use Rattle.fx_image.specs.declared.find.Found.{Found}
use Rattle.fx_image.specs.declared.find.Found.TheVariants as found
use Rattle.fx_image.specs.declared.forms.Image.{Image}
use Rattle.fx_machine_model.specs.Layout.{is_ept}
use Rattle.fx_machine_model.specs.declared.stop.Stop.{Stop}
use Rattle.fx_machine_model.specs.declared.stop.Stop.TheVariants as stops

-- The ends of a source's run are those of fx_c_mean_model; a denial names its object by the number that it has in the
-- source's memory.
abbrev pub IsUndefined : End → Type 0
IsUndefined Undefined = Unit {0}
IsUndefined _ = ⊥

abbrev pub IsObject : Found → Type 0
IsObject (found.Object object offset) = Unit {0}
IsObject _ = ⊥

abbrev pub kind_of : Bool → Access
kind_of true = Write
kind_of false = Read

-- The refusal of an access that isn't granted: by its key where keys part the compartments. Where each
-- has an address space the page isn't mapped, or it is that of an object that may only be read. Under
-- plain calls nothing is denied.
abbrev pub IsDenial : Image → ℕ → Bool → Refusal → Type 0
IsDenial image address write refusal =
    MatchBool (is_keyed image.mechanism) (refusal ≡ Key)
    (MatchBool (is_ept image) ((refusal ≡ Unmapped) ⊎ ((refusal ≡ Permission) × (write ≡ true) × IsObject (object_at image address))) ⊥)

-- The stop that an end corresponds to. `names` says what a place of the image stands for in the
-- source: an offset of one of its objects, as the run ends.
abbrev pub Corresponds : (Found → ℕ → ℕ → Type 0) → Image → End → Stop → Type 0
Corresponds names image (Exit value) (stops.Exit rdi) = value ≡ rdi
Corresponds names image (Denied compartment object offset write) (stops.Page vcpu domain address access refusal) =
    (domain ≡ compartment) × names (object_at image address) object offset × (access ≡ kind_of write) × IsDenial image address write refusal
Corresponds names image (StackFull thread stack) (stops.StackFull rdi rsi) = (thread ≡ rdi) × (stack ≡ rsi)
Corresponds names image Divide stops.Divide = Unit {0}
Corresponds names image BadThread stops.BadThread = Unit {0}
Corresponds names image ThreadsFull stops.ThreadsFull = Unit {0}
Corresponds names image _ _ = ⊥

-- Under plain calls no refusal is a denial.
abbrev pub NothingIsDenied : Type 0
NothingIsDenied = (image : Image) (address : ℕ) (write : Bool) (refusal : Refusal) → image.mechanism ≡ 0 → IsDenial image address write refusal → ⊥
