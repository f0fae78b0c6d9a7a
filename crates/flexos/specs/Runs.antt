-- A run that ended well.
use Rattle.std.specs.Prelude.{ℕ, ℤ, List, Option}
use Rattle.fx_base.specs.Told.{Told}
use Rattle.fx_device.specs.Rules.{Meaning}
use Rattle.fx_image.specs.declared.forms.Image.{Image}
use Rattle.fx_cmd_base.specs.Streams.{Streams, Gained}
use Rattle.fx_cmd_base.specs.Ends.{ErrorStream}
use Rattle.fx_cmd_base.specs.Words.{RunGiven}
use Rattle.fx_cmd_run.specs.VerdictLines.{line_of}
use Rattle.fx_cmd_run.specs.declared.verdict.Verdict.TheVariants.{Exited}
use Rattle.fx_cmd_run.specs.Comes.{Ran}

-- The command `run` that ended with status 0: the run of the image read ended by Exit, and the line tells its
-- value and its turns.
pub record DoneRun (given : RunGiven) (boxes : List (Option Meaning)) (before after : Streams) (err : ErrorStream) : Type 0 where
  pub image : Image
  pub value : ℤ
  pub turns : ℕ
  pub ran : Ran given boxes before after image (Exited value turns)
  pub line : Told (Gained (line_of image (Exited value turns))) err.told err.printed
