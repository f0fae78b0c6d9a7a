-- What the runs of an image of constants come to.
use Rattle.std.specs.Prelude.{◌≡◌, ℕ, pos, ◌≤◌, ◌<◌, List, [], ◌∷◌, length, All, Option, None}
use Rattle.fx_base.specs.declared.device_op.DeviceOp.{DeviceOp}
use Rattle.fx_outcomes.specs.Keeping.{IsPrefix}
use Rattle.fx_device.specs.Rules.{Meaning}
use Rattle.fx_image.specs.declared.forms.Image.{Image}
use Rattle.fx_machine_model.specs.Moves.{all_ones}
use Rattle.fx_machine_model.specs.Running.{run_image, image_turns}
use Rattle.fx_machine_model.specs.declared.stop.Stop.{Stop}
use Rattle.fx_machine_model.specs.declared.stop.Stop.TheVariants.{Exit}
use Rattle.fx_early_image.specs.Layout.{early_image}
use Rattle.fx_machine_model.specs.declared.outcome.Outcome.{Outcome}
use Rattle.fx_machine_model.specs.declared.outcome.Outcome.TheVariants.{Stopped, Spent, WriteFault, OutOfMemory}
use Rattle.fx_run_core.specs.Ran.{names, outputs, RunsTo, HasCause}

-- The image is that of these constants, at most 1,000 of 8 bits.
pub record IsOf (constants : List ℕ) (image : Image) : Type 0 where
  pub value : image ≡ early_image constants
  pub few : length constants ≤ 1000
  pub bytes : All (λ constant. constant < 256) constants

-- What the loads are answered, of a run that makes none.
abbrev pub ones : List ℕ
ones = all_ones ∷ []

-- The stop of a run by a schedule, and behind it by one number after the other, of so many turns at most; and
-- how many turns it makes.
unfoldable pub stop_within : Image → List ℕ → ℕ → Option Stop
stop_within image schedule budget = (run_image image ones (names schedule budget)).finish

unfoldable pub turns_within : Image → List ℕ → ℕ → ℕ
turns_within image schedule budget = image_turns image ones (names schedule budget)

-- A run by this schedule and budget that ended so, after these turns and operations: it has put out all
-- constants and exits with 0, or it was cut off and has put out a front of them. No device and no input fails
-- it.
abbrev pub Plays : List ℕ → Image → List ℕ → ℕ → ℕ → List DeviceOp → Outcome → Type 0
Plays constants image schedule budget turns made (Stopped stop) =
    (stop ≡ Exit (pos 0)) × (turns ≡ turns_within image schedule budget) × (outputs made ≡ constants)
Plays constants image schedule budget turns made Spent =
    (turns ≡ budget) × (stop_within image schedule budget ≡ None) × IsPrefix (outputs made) constants
Plays constants image schedule budget turns made WriteFault = IsPrefix (outputs made) constants
Plays constants image schedule budget turns made OutOfMemory = IsPrefix (outputs made) constants
Plays constants image schedule budget turns made _ = ⊥

-- Each run of such an image does, whatever its schedule and its budget, its devices and the one that is
-- unplugged.
abbrev pub EarlyRunsPlay : Type 0
EarlyRunsPlay =
    (constants : List ℕ) (image : Image) → IsOf constants image
    → (schedule : List ℕ) (budget : ℕ) (unplug : Option (ℕ × ℕ)) (boxes : List (Option Meaning)) (turns : ℕ) (made : List DeviceOp) (input lost out failed : ℕ) (outcome : Outcome)
    → RunsTo image schedule budget unplug boxes outcome turns made → HasCause image schedule unplug boxes turns made input lost out failed outcome
    → Plays constants image schedule budget turns made outcome
