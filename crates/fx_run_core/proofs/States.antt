-- The machine of a moment, as contracts see it, where its parts come first.
use Rattle.std.proofs.Common.{◌≡◌, List, [], Option, ap, sym, ◌∙◌, subst}
use Rattle.fx_base.specs.declared.device_op.DeviceOp.{DeviceOp}
use Rattle.fx_device.specs.Rules.{Meaning}
use Rattle.fx_device.specs.Bus.{BusState, bus_state}
use Rattle.fx_cpu.specs.declared.registers.Regs.{Regs}
use Rattle.fx_image.specs.declared.forms.Image.{Image}
use Rattle.fx_machine_model.specs.declared.stop.Stop.{Stop}
use Rattle.fx_machine.specs.Turns.{Running, running_of, booted}
use Rattle.fx_machine.specs.declared.memory.Memory.{Memory}

abbrev pub state_with : {A : Type 0} → Image → Memory → List Regs → List (Option A) → List DeviceOp → Option Stop → (A → Meaning) → Running
state_with image memory cpus boxes ops stop meaning = running_of image memory cpus (bus_state meaning boxes ops) stop

-- ---- a run from a machine that was booted

-- it is in its boot state
pub boots : (image : Image) (bus : BusState) (m : Running) → m ≡ booted image bus → bus.transcript ≡ [] → (m ≡ booted m.image m.bus) × (m.bus.transcript ≡ [])
boots image bus m is empty = (is ∙ sym (ap (λ (r : Running). booted r.image r.bus) is), ap (λ (r : Running). r.bus.transcript) is ∙ empty)

-- what holds of the machine's image, its boxes and its operations holds of those that it was booted with
pub from_boot : (P : Image → List (Option Meaning) → List DeviceOp → Type 0) (image : Image) (bus : BusState) (boxes : List (Option Meaning)) (m : Running) (made now : List DeviceOp) → m ≡ booted image bus → bus.boxes ≡ boxes → now ≡ made → P m.image m.bus.boxes made → P image boxes now
from_boot P image bus boxes m made now is same that h =
    subst (P image boxes) (sym that) (subst (λ b. P image b made) same (subst (λ (r : Running). P r.image r.bus.boxes made) is h))

-- a bus, where its parts come first
abbrev pub bus_with : {A : Type 0} → List (Option A) → List DeviceOp → (A → Meaning) → BusState
bus_with boxes ops meaning = bus_state meaning boxes ops
