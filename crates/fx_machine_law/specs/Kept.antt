-- What a turn may touch, and what it leaves.
use Rattle.std.specs.Prelude.{◌≡◌, ◌⊎◌, ℕ, true, List, Some, None}
use Rattle.fx_outcomes.specs.Runs.{Goes}
use Rattle.fx_base.specs.declared.device_op.DeviceOp.{DeviceOp}
use Rattle.fx_x64_forms.specs.Numbers.{width_bytes}
use Rattle.fx_vm_pages.specs.Access.{access_check}
use Rattle.fx_vm_pages.specs.declared.access.Access.TheVariants.{Write}
use Rattle.fx_cpu.specs.Memory.{is_among}
use Rattle.fx_cpu.specs.declared.registers.Regs.{Regs}
use Rattle.fx_image.specs.declared.forms.Image.{Image}
use Rattle.fx_machine_model.specs.Layout.{page_entry}
use Rattle.fx_machine_model.specs.Moves.{World, move}
use Rattle.fx_machine_model.specs.Touches.{Touch, access_of, IsClosed}

-- Nothing refuses the data access of a turn that goes on.
abbrev pub AccessesArePermitted : Type 0
AccessesArePermitted =
    (image : Image) (vcpu : ℕ) (r q : Regs) (w y : World) (o : List DeviceOp) (t : Touch) → move image vcpu r w ≡ Goes o (q, y) → access_of image vcpu r w ≡ Some t
    → access_check (page_entry image vcpu) r.pkru t.access t.address (width_bytes t.width) ≡ None

-- A turn changes memory only where its access is a write.
abbrev pub OnlyWritesChange : Type 0
OnlyWritesChange =
    (image : Image) (vcpu : ℕ) (r q : Regs) (w y : World) (o : List DeviceOp) (k : ℕ) → move image vcpu r w ≡ Goes o (q, y)
    → (y.memory k ≡ w.memory k) ⊎ ((t : Touch) × (access_of image vcpu r w ≡ Some t) × (t.access ≡ Write) × (is_among t.address (width_bytes t.width) k ≡ true))

-- A turn leaves such bytes, whatever its instruction and registers are.
abbrev pub MoveKeepsByte : Type 0
MoveKeepsByte =
    (image : Image) (vcpu : ℕ) (r q : Regs) (w y : World) (o : List DeviceOp) (k : ℕ) → move image vcpu r w ≡ Goes o (q, y) → IsClosed image vcpu r.pkru k
    → y.memory k ≡ w.memory k
