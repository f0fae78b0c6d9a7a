-- What the command `run` does: what it came to, its status, and what the error stream took.
use Rattle.std.specs.Prelude.{ℕ, List, Option, Result}
use Rattle.fx_base.specs.Told.{Told}
use Rattle.fx_base.specs.Files.{SameFiles}
use Rattle.fx_device.specs.Rules.{Meaning}
use Rattle.fx_cmd_base.specs.Streams.{Streams}
use Rattle.fx_cmd_base.specs.Ends.{ErrorStream, EndedOrWanted}
use Rattle.fx_cmd_base.specs.Words.{RunGiven}
use Rattle.fx_cmd_run.specs.Comes.{Comes, CameLeaves}
use Rattle.fx_cmd_run.specs.Lines.{came_status, came_line}
use Rattle.fx_cmd_run.specs.declared.command.Finished.{Finished}
use Rattle.fx_cmd_run.specs.declared.load.Unbegun.{Unbegun}

-- The line and the status of what a run came to; or there was no memory for the line.
abbrev pub Reports : RunGiven → Result Finished Unbegun → ℕ → ErrorStream → Type 0
Reports given came result err = EndedOrWanted (came_status came) (came_line given came) result err

-- The command: what it came to, each answer with its cause, and the line and the status of that. No file is
-- changed.
pub record Does (given : RunGiven) (boxes : List (Option Meaning)) (before after : Streams) (result : ℕ) (err : ErrorStream) : Type 0 where
  pub came : Result Finished Unbegun
  pub comes : Comes given boxes before after came
  pub counted : CameLeaves before.held before.file_faults after.file_faults came
  pub keeps : Told SameFiles before.held after.held
  pub reports : Reports given came result err
