-- What the command `migrate OLD NEW` comes to.
use Rattle.std.specs.Prelude.{◌≡◌, ℕ, List, [], ◌∷◌, ◌++◌, Option, Some, Result, Ok, Err}
use Rattle.fx_base.specs.Faults.{Rose}
use Rattle.fx_base.specs.Told.{Told}
use Rattle.fx_base.specs.Files.{Held, SameFiles, SameElsewhere}
use Rattle.fx_image.specs.ImageBytes.{ImageBytes}
use Rattle.fx_image.specs.declared.forms.Image.{Image}
use Rattle.fx_image_migration_law.specs.Migration.{RunsAlike}
use Rattle.fx_cmd_base.specs.Streams.{Streams, Untouched, TookNothing}
use Rattle.fx_cmd_base.specs.Ends.{ErrorStream, EndedOrWanted}
use Rattle.fx_cmd_run.specs.Causes.{HasImage, ImageCause, UnbegunLeaves}
use Rattle.fx_cmd_migrate.specs.Failures.{unmigrated_status, unmigrated_words}
use Rattle.fx_cmd_migrate.specs.declared.failure.Unmigrated.{Unmigrated}
use Rattle.fx_cmd_migrate.specs.declared.failure.Unmigrated.TheVariants.{NoImage, WriteFailed}
use Rattle.fx_cmd_migrate.specs.declared.failure.Unmigrated.TheVariants.{OutOfMemory}

-- the image in the version that is written today, with nothing else changed
abbrev pub current : Image → Image
current image = record image { version = 2 }

-- In that version it runs as it is, by all answers and schedules.
abbrev pub RunsAsItIs : Image → Type 0
RunsAsItIs image = (answers schedule : List ℕ) → RunsAlike (current image) image answers schedule

-- The bytes of the image in that version, which is an image again, stand under the name.
abbrev pub Writes : List ℕ → Image → Option Held → Option Held → Type 0
Writes name image held after =
    (bytes : List ℕ) × ImageBytes (current image) bytes
    × Told (λ files later. later name ≡ Some bytes) held after

-- Why it was not written: the files failed, or memory ran out. `before` and `now` are their counts
-- of faults.
abbrev pub WritingCause : ℕ → ℕ → Unmigrated → Type 0
WritingCause before now (NoImage why) = ⊥
WritingCause before now WriteFailed = Rose before now
WritingCause before now OutOfMemory = Unit {0}

-- The new file holds the image of the old one in today's version, which runs as the old one, and
-- every other file is as it was.
abbrev pub MigratesImage : (old new : List ℕ) → Option Held → Option Held → Type 0
MigratesImage old new held after =
    (image : Image) × HasImage held old image × Writes new image held after × RunsAsItIs image
    × Told (SameElsewhere new) held after

-- Why it does not: there is no image under the old name, and no file was written; or there is one,
-- and it was not written.
abbrev pub UnmigratedCause : (old new : List ℕ) → Option Held → Option Held → ℕ → ℕ → Unmigrated
    → Type 0
UnmigratedCause old new held after before now (NoImage why) =
    ImageCause old held before now why × UnbegunLeaves held before now why
    × Told SameFiles held after
UnmigratedCause old new held after before now WriteFailed =
    (image : Image) × HasImage held old image × WritingCause before now WriteFailed
    × Told (SameElsewhere new) held after
UnmigratedCause old new held after before now OutOfMemory =
    (image : Image) × HasImage held old image × WritingCause before now OutOfMemory
    × Told (SameElsewhere new) held after

abbrev pub Comes : (old new : List ℕ) → Option Held → Option Held → ℕ → ℕ
    → Result (Unit {0}) Unmigrated → Type 0
Comes old new held after before now (Ok x) = MigratesImage old new held after
Comes old new held after before now (Err why) = UnmigratedCause old new held after before now why

-- Status 0 has no line. Each failure has its status and its line; or there was no memory for the
-- line.
abbrev pub Reports : (old new : List ℕ) → Result (Unit {0}) Unmigrated → ℕ → ErrorStream → Type 0
Reports old new (Ok x) result err = (result ≡ 0) × Told TookNothing err.told err.printed
Reports old new (Err why) result err =
    EndedOrWanted (unmigrated_status why) (unmigrated_words old new why ++ 10 ∷ []) result err

-- What the command came to, each answer with its cause, and the line and status of that. Neither
-- input nor output is touched.
pub record DoesMigrate
    (old new : List ℕ) (before after : Streams) (result : ℕ) (err : ErrorStream) : Type 0 where
  pub came : Result (Unit {0}) Unmigrated
  pub comes : Comes old new before.held after.held before.file_faults after.file_faults came
  pub untouched : Untouched before after
  pub reports : Reports old new came result err

-- The command that ended with status 0: the image was migrated, and the error stream took nothing.
pub record DoneMigrate
    (old new : List ℕ) (before after : Streams) (err : ErrorStream) : Type 0 where
  pub migrated : MigratesImage old new before.held after.held
  pub untouched : Untouched before after
  pub quiet : Told TookNothing err.told err.printed
