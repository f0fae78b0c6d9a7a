-- What the operations of a run say of its devices, none of which is unplugged.
use Rattle.std.specs.Prelude.{ℕ, ◌≡◌, ◌≢◌, ◌==◌, ◌&&◌, not, false, List, filter, Option, Some, None}
use Rattle.std.specs.List.{AllByRecursion}
use Rattle.fx_base.specs.declared.device_op.DeviceOp.{DeviceOp}
use Rattle.fx_device.specs.Rules.{Meaning}
use Rattle.fx_device.specs.Bus.{BusState, box_of, operations_of, Leads}
use Rattle.fx_cmd_single.specs.Streams.{all_ones}

-- loads that no box answers are all ones
abbrev pub AllOnes : List DeviceOp → Type 0
AllOnes ops = AllByRecursion (λ op. op.write ≡ false → op.value ≡ all_ones) ops

-- the operations on the console's other registers, which have no device
abbrev pub console_others : List DeviceOp → List DeviceOp
console_others ops = filter (λ (op : DeviceOp). (op.device == 0) && not (op.reg == 0)) ops

-- The operations of a device are a run of its rules from what it held when it was handed in; loads where no box
-- was handed in are all ones.
abbrev pub Part : Option Meaning → List DeviceOp → Type 0
Part None ops = AllOnes ops
Part (Some b) ops = (c : Meaning) × Leads b ops c

-- a device's box now, by its box at the start and its operations since
abbrev pub Served : Option Meaning → List DeviceOp → Option Meaning → Type 0
Served None ops now = (now ≡ None) × AllOnes ops
Served (Some b) ops (Some c) = Leads b ops c
Served (Some b) ops None = ⊥

-- all devices, from the boxes that were handed in
pub record Devices (boxes : List (Option Meaning)) (bus : BusState) : Type 0 where
  pub each : (device : ℕ) → device ≢ 0 → Served (box_of device boxes) (operations_of device bus.transcript) (box_of device bus.boxes)
  pub console : AllOnes (console_others bus.transcript)
