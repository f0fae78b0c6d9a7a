-- The command `place`, seen from the top call.
use Rattle.std.specs.Prelude.{◌≡◌, ℕ, List, Option, Result}
use Rattle.fx_base.specs.Told.{Told}
use Rattle.fx_base.specs.Files.{SameFiles}
use Rattle.fx_cmd_base.specs.Streams.{Streams, TookNothing}
use Rattle.fx_cmd_base.specs.Ends.{ErrorStream}
use Rattle.fx_cmd_place.specs.Comes.{Comes, CameLeaves, PlacesProgram}
use Rattle.fx_cmd_place.specs.Reports.{Reports}
use Rattle.fx_cmd_place.specs.declared.failure.PlaceFailure.{PlaceFailure}

-- What `place` of a configuration came to, each answer with its cause, and the line and status of that. No file
-- is changed, and no input is taken.
pub record DoesPlace (config : List ℕ) (before after : Streams) (result : ℕ) (err : ErrorStream) : Type 0 where
  pub came : Result (Unit {0}) PlaceFailure
  pub comes : Comes config before.held before.file_faults after.file_faults before.taken after.taken before.output_faults after.output_faults came
  pub counted : CameLeaves before.held before.file_faults after.file_faults came
  pub keeps : Told SameFiles before.held after.held
  pub input : after.left ≡ before.left
  pub input_faults : after.input_faults ≡ before.input_faults
  pub reports : Reports came result err

-- The command `place` that ended with status 0: the output gained exactly the lines of the placement, and the
-- error stream nothing.
pub record DonePlace (config : List ℕ) (before after : Streams) (err : ErrorStream) : Type 0 where
  pub placed : PlacesProgram config before.held before.taken after.taken
  pub quiet : Told TookNothing err.told err.printed
