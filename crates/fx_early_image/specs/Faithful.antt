use Rattle.std.specs.Prelude.{ℕ, pos, ◌≡◌, ◌<◌, ◌≤◌, ◌^◌, List, length, map, All, Some}
use Rattle.fx_outcomes.specs.Keeping.{IsPrefix}
use Rattle.fx_machine_model.specs.Running.{run_image}
use Rattle.fx_machine_model.specs.declared.stop.Stop.{Stop}
use Rattle.fx_machine_model.specs.declared.stop.Stop.TheVariants.{Exit}
use Rattle.fx_image.specs.declared.find.Found.{Found}
use Rattle.fx_image.specs.declared.find.Found.TheVariants as found
use Rattle.fx_image.specs.declared.forms.Image.{Image}
use Rattle.fx_faithful.specs.Faith.{Faithful}
use Rattle.fx_early_image.specs.Source.{console_store, early_expected}
use Rattle.fx_early_image.specs.Layout.{early_image}

-- A place of the image stands for an offset of a global or a literal, at every moment of the run. Such a program has
-- none of either, and nothing is denied to it.
abbrev pub names : List ℕ → Found → ℕ → ℕ → Type 0
names answers (found.Object number place) object offset = (number ≡ object) × (place ≡ offset)
names answers _ object offset = ⊥

-- The image keeps to the program that writes these constants, for all answers and all schedules.
abbrev pub EarlyFaithful : List ℕ → Image → Type 0
EarlyFaithful constants image = Faithful names (early_expected constants) image

-- Of at most 1,000 constants of 8 bits.
abbrev pub ImagesAreFaithful : Type 0
ImagesAreFaithful = (constants : List ℕ) → length constants ≤ 1000 → All (λ c. c < 256) constants → EarlyFaithful constants (early_image constants)

-- So each run has stored a front of the constants to the console, and nothing else; and the only stop
-- is Exit 0, with all of them stored.
abbrev pub RunsWriteConstants : Type 0
RunsWriteConstants =
    (constants : List ℕ) → length constants ≤ 1000 → All (λ c. c < 256) constants → (answers : List ℕ) → All (λ answer. answer < 2 ^ 64) answers → (schedule : List ℕ) →
    IsPrefix (run_image (early_image constants) answers schedule).made (map console_store constants)
    × ((stop : Stop) → (run_image (early_image constants) answers schedule).finish ≡ Some stop
    → (stop ≡ Exit (pos 0))
    × ((run_image (early_image constants) answers schedule).made
    ≡ map console_store constants))
