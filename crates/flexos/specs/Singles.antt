-- The command `single` that ended well.
use Rattle.std.specs.Prelude.{ℕ, ℤ, List, [], ◌∷◌, ◌++◌, Option}
use Rattle.fx_base.specs.Told.{Told}
use Rattle.fx_device.specs.Rules.{Meaning}
use Rattle.fx_cmd_base.specs.Streams.{Streams, Gained}
use Rattle.fx_cmd_base.specs.Ends.{ErrorStream}
use Rattle.fx_cmd_single.specs.Words.{SingleGiven}
use Rattle.fx_cmd_single.specs.Comes.{RunsProgram}
use Rattle.fx_cmd_single.specs.Lines.{verdict_words}
use Rattle.fx_cmd_single.specs.declared.verdict.Verdict.TheVariants.{Exited}

-- The command `single` that ended with status 0: the run of the program in one compartment came to an end by
-- Exit, and the line tells its value and its cost.
pub record DoneSingle (given : SingleGiven) (boxes : List (Option Meaning)) (before after : Streams) (err : ErrorStream) : Type 0 where
  pub value : ℤ
  pub cost : ℕ
  pub ran : RunsProgram given boxes before after (Exited value cost)
  pub line : Told (Gained (verdict_words (Exited value cost) ++ 10 ∷ [])) err.told err.printed
