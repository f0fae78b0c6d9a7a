-- What a machine under `ept` can't change.
use Rattle.std.specs.Prelude.{◌≡◌, ℕ, List, true}
use Rattle.fx_outcomes.specs.Runs.{Goes}
use Rattle.fx_base.specs.declared.device_op.DeviceOp.{DeviceOp}
use Rattle.fx_vm_pages.specs.Access.{page_of}
use Rattle.fx_cpu.specs.declared.registers.Regs.{Regs}
use Rattle.fx_image.specs.Rules.{IsImage}
use Rattle.fx_image.specs.declared.forms.Image.{Image}
use Rattle.fx_machine_model.specs.Layout.{is_ept}
use Rattle.fx_machine_model.specs.Moves.{World, move}
use Rattle.fx_confined_model.specs.Grants.{MayWrite}

-- A turn of a machine leaves the bytes whose pages aren't granted to it for writing, whatever its code is.
abbrev pub UngrantedBytesStay : Type 0
UngrantedBytesStay =
    (image : Image) (vcpu : ℕ) (r q : Regs) (w y : World) (o : List DeviceOp) (k : ℕ) → IsImage image → is_ept image ≡ true → move image vcpu r w ≡ Goes o (q, y)
    → (MayWrite image vcpu (page_of k) → ⊥) → y.memory k ≡ w.memory k
