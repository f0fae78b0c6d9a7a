-- What the command comes to for a program that isn't one of constant output.
use Rattle.std.specs.Prelude.{◌≢◌, ℕ, ℤ, List, Option, Result, ◌⊎◌}
use Rattle.fx_base.specs.Told.{Told}
use Rattle.fx_base.specs.Files.{Held, SameFiles}
use Rattle.fx_device.specs.Rules.{Meaning}
use Rattle.fx_image.specs.declared.forms.Image.{Image}
use Rattle.fx_early_source.specs.Grammar.{IsProgram}
use Rattle.fx_cmd_load.specs.Reading.{config_limit, source_limit, WasRead, HasContent, LeavesCount}
use Rattle.fx_cmd_base.specs.Words.{ExecGiven}
use Rattle.fx_cmd_base.specs.Streams.{Streams, Untouched, Gained}
use Rattle.fx_cmd_base.specs.Ends.{ErrorStream}
use Rattle.fx_cmd_build.specs.Builds.{BuildsImage, BuildCause}
use Rattle.fx_cmd_build.specs.Builds as build
use Rattle.fx_cmd_build.specs.declared.failure.BuildFailure.{BuildFailure}
use Rattle.fx_cmd_run.specs.VerdictLines.{line_of}
use Rattle.fx_cmd_run.specs.declared.verdict.Verdict.TheVariants.{Exited}
use Rattle.fx_cmd_run.specs.Comes.{RunsImage, ImageComes}
use Rattle.fx_cmd_run.specs.Reports.{Reports}
use Rattle.fx_cmd_run.specs.declared.command.Finished.{Finished}
use Rattle.fx_cmd_run.specs.declared.load.Unbegun.{Unbegun}
use Rattle.fx_cmd_exec.specs.Causes.{early_document}
use Rattle.fx_cmd_exec.specs.Lines.{source_name}
use Rattle.fx_cmd_exec.specs.Moments.{once_written}

-- The configuration isn't the one document of programs of constant output, or it is and the source
-- isn't of their form.
abbrev pub IsOther : List ℕ → Option Held → Type 0
IsOther config held =
    ((bytes : List ℕ) × WasRead config_limit held config bytes × (bytes ≢ early_document))
    ⊎ HasContent held config early_document
    × (text : List ℕ) × WasRead source_limit held source_name text
    × ((constants : List ℕ) → IsProgram text constants → ⊥)

-- The files when the program is read: none has changed since, and their count of faults hasn't.
pub record IsRead (before : Streams) (held : Option Held) (faults : ℕ) : Type 0 where
  pub same : Told SameFiles before.held held
  pub counted : LeavesCount before.held before.file_faults faults

-- The program's image was built and written; what its run came to, and the line and the status of
-- that.
pub record ExecutesAny
    (given : ExecGiven) (boxes : List (Option Meaning)) (before after : Streams)
    (held : Option Held) (result : ℕ) (err : ErrorStream) : Type 0 where
  pub image : Image
  pub builds : BuildsImage given.config given.run.image image held after.held
  pub came : Result Finished Unbegun
  pub comes : ImageComes given.run.options boxes (once_written before after) after image came
  pub reports : Reports given.run came result err

-- No image was written: why, that neither input nor output was touched, and the line and the status
-- of that.
pub record BuildsNoneAny
    (given : ExecGiven) (before after : Streams) (held : Option Held) (faults result : ℕ)
    (err : ErrorStream) : Type 0 where
  pub why : BuildFailure
  pub cause : BuildCause given.config given.run.image held after.held faults after.file_faults why
  pub untouched : Untouched before after
  pub reports : build.Reports given.run.image why result err

abbrev pub ComesAny : ExecGiven → List (Option Meaning) → Streams → Streams → Option Held → ℕ → ℕ
    → ErrorStream → Type 0
ComesAny given boxes before after held faults result err =
    ExecutesAny given boxes before after held result err
    ⊎ BuildsNoneAny given before after held faults result err

pub record DoesAny
    (given : ExecGiven) (boxes : List (Option Meaning)) (before after : Streams) (result : ℕ)
    (err : ErrorStream) : Type 0 where
  pub other : IsOther given.config before.held
  pub held : Option Held
  pub faults : ℕ
  pub read : IsRead before held faults
  pub does : ComesAny given boxes before after held faults result err

-- The command that ended with status 0: the image's spelling stands under the name, of the image of
-- the program read; it was run as the options say, and the run ended by Exit; the line tells its
-- value and its turns.
pub record DoneAny
    (given : ExecGiven) (boxes : List (Option Meaning)) (before after : Streams)
    (err : ErrorStream) : Type 0 where
  pub other : IsOther given.config before.held
  pub held : Option Held
  pub faults : ℕ
  pub read : IsRead before held faults
  pub image : Image
  pub builds : BuildsImage given.config given.run.image image held after.held
  pub value : ℤ
  pub turns : ℕ
  pub run : RunsImage given.run.options boxes (once_written before after) after image
      (Exited value turns)
  pub line : Told (Gained (line_of image (Exited value turns))) err.told err.printed
