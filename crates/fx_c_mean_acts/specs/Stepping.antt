-- What the next step is, or came to.
use Rattle.std.specs.Prelude.{◌≡◌, ℕ, List, []}
use Rattle.fx_outcomes.specs.Runs.{Goes, Stops}
use Rattle.fx_c_mean_blocks.specs.declared.value.Value.{Value}
use Rattle.fx_c_mean_blocks.specs.declared.value.Value.TheVariants.{Number}
use Rattle.fx_c_mean_model.specs.declared.end.End.TheVariants.{Undefined}
use Rattle.fx_c_mean_model.specs.declared.rights.Rights.{Rights}
use Rattle.fx_c_mean_model.specs.Programs.{Program}
use Rattle.fx_c_mean_model.specs.States.{Frame, Does, Ask, Tell}
use Rattle.fx_c_mean_model.specs.Steps.{State, step, extra}
use Rattle.fx_c_mean_acts.specs.Cores.{Keeps}
use Rattle.fx_c_mean_acts.specs.declared.steps.Step.{Step}
use Rattle.fx_c_mean_acts.specs.declared.steps.Step.TheVariants as made

-- It was made, whatever a device would answer; or it is an operation on a device, with these frames; or
-- memory was wanting. Only a step that was made changes the state, and one that is denied leaves memory as it is.
abbrev pub Steps : Program → Rights → State → List Frame → Step → State → Type 0
Steps p r before rest (made.Went more) after = ((answer : ℕ) → step p r answer before ≡ Goes [] after) × (more ≡ extra p before)
Steps p r before rest (made.Stopped e more) after = ((answer : ℕ) → step p r answer before ≡ Stops [] e) × (more ≡ extra p before) × Keeps e before.memory after.memory
Steps p r before rest (made.Loads device register) after = (before.spot ≡ Does (Ask device register) rest) × (after ≡ before)
Steps p r before rest (made.Stores device register value) after = (before.spot ≡ Does (Tell device register (Number value)) rest) × (after ≡ before)
Steps p r before rest made.OutOfMemory after = after ≡ before

-- what a store of a value to a register is
abbrev pub Tells : ℕ → ℕ → Value → Step → Type 0
Tells device register (Number w) result = result ≡ made.Stores device register w
Tells device register _ result = result ≡ made.Stopped Undefined 0
