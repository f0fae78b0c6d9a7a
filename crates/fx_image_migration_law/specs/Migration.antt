-- What two images' runs have in common.
use Rattle.std.specs.Prelude.{◌≡◌, ℕ, List}
use Rattle.fx_image.specs.declared.forms.Image.{Image}
use Rattle.fx_machine_model.specs.Boot.{vcpus}
use Rattle.fx_machine_model.specs.Running.{boot, run_image, image_after, image_turns}

-- Two images have as many vCPUs and the same state at boot, and by this schedule make the same
-- operations and come to the same stop, if to one, in the same number of turns, and to the same
-- state: registers, memory and the answers that are left.
pub record RunsAlike (i j : Image) (answers schedule : List ℕ) : Type 0 where
  pub vcpus : vcpus i ≡ vcpus j
  pub boot : boot i answers ≡ boot j answers
  pub outcome : run_image i answers schedule ≡ run_image j answers schedule
  pub turns : image_turns i answers schedule ≡ image_turns j answers schedule
  pub after : image_after i answers schedule ≡ image_after j answers schedule

-- What `migrate` gives of an image runs as that image, by all answers and schedules.
abbrev pub MigrationKeeps : Type 0
MigrationKeeps =
    (old new : Image) → new ≡ record old { version = 2 } → (answers schedule : List ℕ)
    → RunsAlike new old answers schedule
