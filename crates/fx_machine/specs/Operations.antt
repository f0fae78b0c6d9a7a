-- What comes of an operation on the bus.
use Rattle.std.specs.Prelude.{ℕ, ◌≡◌, true, false, [], ◌∷◌, Result, Ok, Err}
use Rattle.fx_base.specs.declared.device_op.DeviceOp.{DeviceOp}
use Rattle.fx_device.specs.Bus.{BusState, Carries}
use Rattle.fx_device.specs.declared.bus_error.BusError.TheVariants.{Device}
use Rattle.fx_machine_model.specs.Turns.{answer_to}
use Rattle.fx_machine_model.specs.declared.stop.Turn.{Turn}
use Rattle.fx_machine_model.specs.declared.stop.Turn.TheVariants as turns
use Rattle.fx_machine.specs.Turns.{Makes, asked, request_of}

-- It was made; a load waits for input; or the bus didn't carry it out.
abbrev pub Operated : DeviceOp → Result ℕ Turn → BusState → BusState → Type 0
Operated op (Ok value) old new =
    Makes (asked op value ∷ []) old new × (op.write ≡ true → value ≡ 0) × (answer_to (asked op value ∷ []) ≡ answer_to (op ∷ [])) × (answer_to (op ∷ []) ≡ turns.Input → ⊥)
Operated op (Err turns.Input) old new = (op.device ≡ 0) × (op.reg ≡ 0) × (op.write ≡ false) × (new ≡ old)
Operated op (Err (turns.DeviceFault i)) old new = (op.device ≡ i) × Carries i (request_of op) (Err (Device i)) old new
Operated op (Err turns.OutOfMemory) old new = new ≡ old
Operated op (Err _) old new = ⊥
