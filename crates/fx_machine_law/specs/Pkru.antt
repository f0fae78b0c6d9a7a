-- What changes PKRU.
use Rattle.std.specs.Prelude.{◌≡◌, ◌⊎◌, ℕ, List}
use Rattle.fx_outcomes.specs.Runs.{Goes}
use Rattle.fx_base.specs.declared.device_op.DeviceOp.{DeviceOp}
use Rattle.fx_x64_forms.specs.declared.inst.Inst.TheVariants.{Wrpkru}
use Rattle.fx_cpu.specs.declared.registers.Regs.{Regs}
use Rattle.fx_image.specs.declared.forms.Image.{Image}
use Rattle.fx_machine_model.specs.Moves.{World, move}
use Rattle.fx_machine_model.specs.declared.fetched.Fetched.TheVariants.{Found}
use Rattle.fx_machine_model.specs.Touches.{found_at}

-- A turn keeps PKRU, or it executes WRPKRU.
abbrev pub PkruChangesByKeys : Type 0
PkruChangesByKeys =
    (image : Image) (vcpu : ℕ) (r q : Regs) (w y : World) (o : List DeviceOp) → move image vcpu r w ≡ Goes o (q, y)
    → (q.pkru ≡ r.pkru) ⊎ ((len : ℕ) × (found_at image vcpu r w ≡ Found Wrpkru len))
