-- What the command `exec` does.
use Rattle.std.specs.Prelude.{◌≡◌, ℕ, pos, List, Option, Result, ◌⊎◌}
use Rattle.fx_base.specs.Told.{Told}
use Rattle.fx_device.specs.Rules.{Meaning}
use Rattle.fx_image.specs.declared.forms.Image.{Image}
use Rattle.fx_early_law.specs.Plays.{turns_within}
use Rattle.fx_cmd_run.specs.VerdictLines.{line_of}
use Rattle.fx_cmd_run.specs.declared.verdict.Verdict.TheVariants.{Exited}
use Rattle.fx_cmd_base.specs.Words.{ExecGiven}
use Rattle.fx_cmd_base.specs.Streams.{Streams, Untouched, Gained}
use Rattle.fx_cmd_base.specs.Ends.{ErrorStream}
use Rattle.fx_cmd_run.specs.Comes.{budget_of, RunsImage}
use Rattle.fx_cmd_run.specs.Reports.{Reports}
use Rattle.fx_cmd_run.specs.declared.command.Finished.{Finished}
use Rattle.fx_cmd_run.specs.declared.load.Unbegun.{Unbegun}
use Rattle.fx_cmd_exec.specs.declared.unbuilt.Unbuilt.{Unbuilt}
use Rattle.fx_cmd_exec.specs.Builds.{Builds, Writes, WhyUnbuilt}
use Rattle.fx_cmd_exec.specs.Causes.{UnbuiltLeaves}
use Rattle.fx_cmd_exec.specs.Runs.{ConstantsCome}
use Rattle.fx_cmd_exec.specs.Reports.{ReportsUnbuilt}
use Rattle.fx_cmd_exec.specs.Moments.{once_written}
use Rattle.fx_cmd_exec.specs.Any.{DoesAny, DoneAny}

-- The image of a program of constant output was built and written; what its run came to, and the
-- line and the status of that.
pub record Executes (given : ExecGiven) (boxes : List (Option Meaning)) (before after : Streams) (result : ℕ) (err : ErrorStream) : Type 0 where
  pub constants : List ℕ
  pub image : Image
  pub builds : Builds given.config before.held constants image
  pub writes : Writes given.run.image image before.held after.held
  pub came : Result Finished Unbegun
  pub comes : ConstantsCome constants given.run.options boxes (once_written before after) after image came
  pub reports : Reports given.run came result err

-- No image of such a program was written, for a file's fault or want of memory; that neither input
-- nor output was touched, and the line and the status of that.
pub record BuildsNone (given : ExecGiven) (before after : Streams) (result : ℕ) (err : ErrorStream) : Type 0 where
  pub why : Unbuilt
  pub why_not : WhyUnbuilt given before.held after.held before.file_faults after.file_faults why
  pub counted : UnbuiltLeaves before.held before.file_faults after.file_faults why
  pub untouched : Untouched before after
  pub reports : ReportsUnbuilt given why result err

-- A program of constant output has an image of its own, which is proved to be faithful to it; any
-- other one has the image that `build` writes.
abbrev pub DoesExec : ExecGiven → List (Option Meaning) → Streams → Streams → ℕ → ErrorStream
    → Type 0
DoesExec given boxes before after result err =
    (Executes given boxes before after result err ⊎ BuildsNone given before after result err)
    ⊎ DoesAny given boxes before after result err

-- The command that ended with status 0, at a program of constant output: the image's spelling stands under the name, of an image that is
-- faithful to the source read; it was run as the options say; the output took the source's constants in order
-- and nothing else; and the line tells the turns that the run makes by that schedule within that budget.
pub record DoneConstant (given : ExecGiven) (boxes : List (Option Meaning)) (before after : Streams) (err : ErrorStream) : Type 0 where
  pub constants : List ℕ
  pub image : Image
  pub builds : Builds given.config before.held constants image
  pub writes : Writes given.run.image image before.held after.held
  pub turns : ℕ
  pub run : RunsImage given.run.options boxes (once_written before after) after image (Exited (pos 0) turns)
  pub turns_made : turns ≡ turns_within image run.schedule (budget_of given.run.options)
  pub took : Told (Gained constants) before.taken after.taken
  pub line : Told (Gained (line_of image (Exited (pos 0) turns))) err.told err.printed

abbrev pub DoneExec : ExecGiven → List (Option Meaning) → Streams → Streams → ErrorStream → Type 0
DoneExec given boxes before after err =
    DoneConstant given boxes before after err ⊎ DoneAny given boxes before after err
