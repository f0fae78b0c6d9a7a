-- What the command `show IMAGE` comes to.
use Rattle.std.specs.Prelude.{◌≡◌, ℕ, List, [], ◌∷◌, ◌++◌, Option, Result, Ok, Err}
use Rattle.fx_base.specs.Faults.{Rose}
use Rattle.fx_base.specs.Told.{Told}
use Rattle.fx_base.specs.Files.{Held, SameFiles}
use Rattle.fx_image.specs.declared.forms.Image.{Image}
use Rattle.fx_cmd_load.specs.Reading.{LeavesCount}
use Rattle.fx_cmd_base.specs.Streams.{Streams, Gained, TookNothing}
use Rattle.fx_cmd_base.specs.Ends.{ErrorStream, GainedPart, EndedOrWanted}
use Rattle.fx_cmd_run.specs.Causes.{HasImage, ImageCause, UnbegunLeaves}
use Rattle.fx_cmd_show.specs.Text.{text_of}
use Rattle.fx_cmd_show.specs.Failures.{unshown_status, unshown_words}
use Rattle.fx_cmd_show.specs.declared.failure.Unshown.{Unshown}
use Rattle.fx_cmd_show.specs.declared.failure.Unshown.TheVariants.{NoImage, WriteFault, OutOfMemory}

-- the output gained exactly the text of the image whose bytes stand under the name
abbrev pub ShowsImage : List ℕ → Option Held → Option (List ℕ) → Option (List ℕ) → Type 0
ShowsImage name held taken gained =
    (image : Image) × HasImage held name image × Told (Gained (text_of image)) taken gained

-- Why the text of an image was not put: the output failed in it, or memory ran out, which puts
-- nothing. `fine` and `failed` are the output's counts of faults.
abbrev pub IsUnput : Image → Option (List ℕ) → Option (List ℕ) → ℕ → ℕ → Unshown → Type 0
IsUnput image taken gained fine failed (NoImage why) = ⊥
IsUnput image taken gained fine failed WriteFault =
    Rose fine failed × Told (GainedPart (text_of image)) taken gained
IsUnput image taken gained fine failed OutOfMemory = Told TookNothing taken gained

-- Why the command showed no image: there is none under the name, and the output took nothing; or
-- there is one, and its text was not put. `before` and `now` are the files' counts of faults.
abbrev pub UnshownCause : List ℕ → Option Held → ℕ → ℕ → Option (List ℕ) → Option (List ℕ)
    → ℕ → ℕ → Unshown → Type 0
UnshownCause name held before now taken gained fine failed (NoImage why) =
    ImageCause name held before now why × UnbegunLeaves held before now why
    × Told TookNothing taken gained
UnshownCause name held before now taken gained fine failed WriteFault =
    (image : Image) × HasImage held name image × LeavesCount held before now
    × IsUnput image taken gained fine failed WriteFault
UnshownCause name held before now taken gained fine failed OutOfMemory =
    (image : Image) × HasImage held name image × LeavesCount held before now
    × IsUnput image taken gained fine failed OutOfMemory

abbrev pub Comes : List ℕ → Option Held → ℕ → ℕ → Option (List ℕ) → Option (List ℕ) → ℕ → ℕ
    → Result (Unit {0}) Unshown → Type 0
Comes name held before now taken gained fine failed (Ok x) =
    ShowsImage name held taken gained × LeavesCount held before now
Comes name held before now taken gained fine failed (Err why) =
    UnshownCause name held before now taken gained fine failed why

-- Status 0 has no line. Each failure has its status and its line; or there was no memory for the
-- line.
abbrev pub Reports : List ℕ → Result (Unit {0}) Unshown → ℕ → ErrorStream → Type 0
Reports name (Ok x) result err = (result ≡ 0) × Told TookNothing err.told err.printed
Reports name (Err why) result err =
    EndedOrWanted (unshown_status why) (unshown_words name why ++ 10 ∷ []) result err

-- What the command came to, each answer with its cause, and the line and status of that. No file is
-- changed, and no input is taken.
pub record DoesShow
    (name : List ℕ) (before after : Streams) (result : ℕ) (err : ErrorStream) : Type 0 where
  pub came : Result (Unit {0}) Unshown
  pub comes : Comes name before.held before.file_faults after.file_faults before.taken after.taken
      before.output_faults after.output_faults came
  pub keeps : Told SameFiles before.held after.held
  pub input : after.left ≡ before.left
  pub input_faults : after.input_faults ≡ before.input_faults
  pub reports : Reports name came result err

-- The command that ended with status 0: the output gained exactly the image's text, and the error
-- stream nothing.
pub record DoneShow (name : List ℕ) (before after : Streams) (err : ErrorStream) : Type 0 where
  pub shown : ShowsImage name before.held before.taken after.taken
  pub quiet : Told TookNothing err.told err.printed
