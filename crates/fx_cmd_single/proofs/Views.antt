-- The run of a runner, as contracts see it, where its parts come first.
use Rattle.std.proofs.Common.{◌≡◌, ℕ, List, [], Option, ap, sym, ◌∙◌, subst}
use Rattle.fx_base.specs.declared.device_op.DeviceOp.{DeviceOp}
use Rattle.fx_device.specs.Rules.{Meaning}
use Rattle.fx_device.specs.Bus.{BusState, bus_state}
use Rattle.fx_c_mean_model.specs.declared.end.End.{End}
use Rattle.fx_c_mean_model.specs.declared.rights.Rights.{Rights}
use Rattle.fx_c_mean_model.specs.Programs.{Program}
use Rattle.fx_c_mean_acts.specs.declared.state.Core.{Core}
use Rattle.fx_c_mean_acts.specs.declared.source.Source.{Source}
use Rattle.fx_c_mean.specs.Walks.{Run, run_of, first_run}

abbrev pub run_with : {A : Type 0} → Source → Core → List (Option A) → List DeviceOp → ℕ → Option End → (A → Meaning) → Run
run_with source core boxes ops cost finish meaning = run_of source core (bus_state meaning boxes ops) cost finish

-- a bus, where its parts come first
abbrev pub bus_with : {A : Type 0} → List (Option A) → List DeviceOp → (A → Meaning) → BusState
bus_with boxes ops meaning = bus_state meaning boxes ops

-- ---- a runner that was made

-- it is at its start
pub starts : (p : Program) (r : Rights) (bus : BusState) (m : Run) → m ≡ first_run p r bus → bus.transcript ≡ [] → (m ≡ first_run m.program m.rights m.bus) × (m.bus.transcript ≡ [])
starts p r bus m is empty = (is ∙ sym (ap (λ (q : Run). first_run q.program q.rights q.bus) is), ap (λ (q : Run). q.bus.transcript) is ∙ empty)

-- what holds of its program, its rights, its boxes and its operations holds of those that it was made with
pub from_start : (P : Program → Rights → List (Option Meaning) → ℕ → List DeviceOp → Type 0) (p : Program) (r : Rights) (bus : BusState) (boxes : List (Option Meaning)) (m : Run) (cost dear : ℕ) (made now : List DeviceOp) → m ≡ first_run p r bus → bus.boxes ≡ boxes → dear ≡ cost → now ≡ made → P m.program m.rights m.bus.boxes cost made → P p r boxes dear now
from_start P p r bus boxes m cost dear made now is same as_dear that h =
    subst (P p r boxes dear) (sym that) (subst (λ c. P p r boxes c made) (sym as_dear) (subst (λ b. P p r b cost made) same (subst (λ (q : Run). P q.program q.rights q.bus.boxes cost made) is h)))
