-- What one turn of a run comes to, with the input and the output.
use Rattle.std.specs.Prelude.{ℕ, ◌≡◌, ◌%◌, ◌⊎◌, List, [], ◌∷◌, ◌++◌, drop, Option, Err}
use Rattle.fx_base.specs.declared.device_op.DeviceOp.{DeviceOp}
use Rattle.fx_base.specs.Faults.{Rose}
use Rattle.fx_base.specs.Told.{Told}
use Rattle.fx_outcomes.specs.Runs.{Stops}
use Rattle.fx_device.specs.Bus.{BusState, Carries}
use Rattle.fx_device.specs.declared.bus_error.BusError.TheVariants as errors
use Rattle.fx_machine_model.specs.Boot.{vcpus}
use Rattle.fx_machine.specs.Turns.{Running, next_of, GoesOn, Makes, Asks, AsksInput, console_load, request_of}
use Rattle.fx_run_core.specs.Ran.{outputs, inputs, Gained, Reads}
use Rattle.fx_machine_model.specs.declared.outcome.Outcome.{Outcome}
use Rattle.fx_machine_model.specs.declared.outcome.Outcome.TheVariants.{Stopped, Spent, Device, ReadFault, WriteFault, OutOfMemory}

-- Operations came to the bus: it carried them out, or a byte of input was noted.
abbrev pub Notes : List DeviceOp → BusState → BusState → Type 0
Notes made old new = (answer : ℕ) × (made ≡ console_load answer ∷ []) × (new ≡ record old { transcript = old.transcript ++ console_load answer ∷ [] })

abbrev pub Reaches : List DeviceOp → BusState → BusState → Type 0
Reaches made old new = Makes made old new ⊎ Notes made old new

abbrev pub Same : List ℕ → List ℕ → Type 0
Same old new = new ≡ old

-- One byte was lost, if there was one.
abbrev pub LostOne : List ℕ → List ℕ → Type 0
LostOne old new = new ≡ drop 1 old

abbrev pub vcpu_of : Running → ℕ → ℕ
vcpu_of m v = v % vcpus m.image

-- The turn went on.
abbrev pub WentOn : Running → ℕ → Running → Option (List ℕ) → Option (List ℕ) → Option (List ℕ) → Option (List ℕ) → Type 0
WentOn old v new taken gained left lost =
    (made : List DeviceOp) × GoesOn old (vcpu_of old v) made new × Reaches made old.bus new.bus × Told (Gained (outputs made)) taken gained × Told (Reads (inputs made)) left lost

-- The turn ended the run. `taken` and `gained` are what the output took before and after, `left` and `lost`
-- what the input has, and then come their counts of faults.
abbrev pub EndsBy : Running → ℕ → Running → Option (List ℕ) → Option (List ℕ) → Option (List ℕ) → Option (List ℕ) → ℕ → ℕ → ℕ → ℕ → Outcome → Type 0
EndsBy old v new taken gained left lost input read out put (Stopped stop) =
    ((answers : List ℕ) → next_of old (vcpu_of old v) answers ≡ Stops [] stop) × (new.bus ≡ old.bus) × Told Same taken gained × Told Same left lost
EndsBy old v new taken gained left lost input read out put Spent = ⊥
EndsBy old v new taken gained left lost input read out put (Device i) =
    (op : DeviceOp) × Asks old (vcpu_of old v) op × (op.device ≡ i) × Carries i (request_of op) (Err (errors.Device i)) old.bus new.bus × Told Same taken gained × Told Same left lost
EndsBy old v new taken gained left lost input read out put ReadFault =
    AsksInput old (vcpu_of old v) × Rose input read × (new.bus ≡ old.bus) × Told Same taken gained × Told Same left lost
EndsBy old v new taken gained left lost input read out put WriteFault =
    (made : List DeviceOp) × GoesOn old (vcpu_of old v) made new × Reaches made old.bus new.bus
    × (inputs made ≡ []) × (byte : ℕ) × (outputs made ≡ byte ∷ []) × Rose out put
    × Told Same taken gained × Told Same left lost
EndsBy old v new taken gained left lost input read out put OutOfMemory =
    (new.bus ≡ old.bus) × Told Same taken gained × (Told Same left lost ⊎ Told LostOne left lost)
