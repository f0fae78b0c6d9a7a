-- What the command `single` does: what it came to, its status, and what the error stream took.
use Rattle.std.specs.Prelude.{ℕ, List, Option, Result}
use Rattle.fx_base.specs.Told.{Told}
use Rattle.fx_base.specs.Files.{SameFiles}
use Rattle.fx_device.specs.Rules.{Meaning}
use Rattle.fx_cmd_load.specs.declared.program_error.ProgramError.{ProgramError}
use Rattle.fx_cmd_base.specs.Streams.{Streams}
use Rattle.fx_cmd_base.specs.Ends.{ErrorStream, EndedOrWanted}
use Rattle.fx_cmd_single.specs.Comes.{Comes}
use Rattle.fx_cmd_single.specs.Lines.{came_status, came_line}
use Rattle.fx_cmd_single.specs.Words.{SingleGiven}
use Rattle.fx_cmd_single.specs.declared.verdict.Verdict.{Verdict}

-- The line and the status of what the command came to; or there was no memory for the line.
abbrev pub Reports : Result Verdict ProgramError → ℕ → ErrorStream → Type 0
Reports came result err = EndedOrWanted (came_status came) (came_line came) result err

-- The command: what it came to, each answer with its cause, and the line and the status of that. No file is
-- changed.
pub record DoesSingle (given : SingleGiven) (boxes : List (Option Meaning)) (before after : Streams) (result : ℕ) (err : ErrorStream) : Type 0 where
  pub came : Result Verdict ProgramError
  pub comes : Comes given boxes before after came
  pub keeps : Told SameFiles before.held after.held
  pub reports : Reports came result err
