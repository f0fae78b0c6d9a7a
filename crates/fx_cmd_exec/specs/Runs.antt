-- What running an image of constants comes to.
use Rattle.std.specs.Prelude.{◌≡◌, ℕ, pos, List, ◌++◌, Option, None, Result, Ok, Err}
use Rattle.fx_base.specs.Faults.{Rose}
use Rattle.fx_base.specs.Told.{Told}
use Rattle.fx_outcomes.specs.Keeping.{IsPrefix}
use Rattle.fx_device.specs.Rules.{Meaning}
use Rattle.fx_image.specs.declared.forms.Image.{Image}
use Rattle.fx_early_law.specs.Plays.{stop_within, turns_within}
use Rattle.fx_cmd_run.specs.declared.verdict.Verdict.{Verdict}
use Rattle.fx_cmd_run.specs.declared.verdict.Verdict.TheVariants.{Exited, Spent, WriteFault, OutOfMemory}
use Rattle.fx_cmd_base.specs.Words.{Given}
use Rattle.fx_cmd_base.specs.Streams.{Streams, Gained}
use Rattle.fx_cmd_run.specs.Comes.{budget_of, RunsImage, NotRun}
use Rattle.fx_cmd_run.specs.declared.command.Finished.{Finished}
use Rattle.fx_cmd_run.specs.declared.load.Unbegun.{Unbegun}

-- A sink gained a front of these bytes.
abbrev pub GainedFront : List ℕ → List ℕ → List ℕ → Type 0
GainedFront bytes start now = (front : List ℕ) × IsPrefix front bytes × (now ≡ start ++ front)

-- What the output gained of the constants, by what the run of their image was called: it exits with 0 after
-- all of them, or it was cut off. By the schedule and the budget it makes these turns.
abbrev pub PutsOut : List ℕ → Image → List ℕ → ℕ → Streams → Streams → Verdict → Type 0
PutsOut constants image schedule budget before after (Exited value turns) =
    (value ≡ pos 0) × (turns ≡ turns_within image schedule budget) × Told (Gained constants) before.taken after.taken
PutsOut constants image schedule budget before after (Spent turns) =
    (turns ≡ budget) × (stop_within image schedule budget ≡ None) × Told (GainedFront constants) before.taken after.taken
PutsOut constants image schedule budget before after WriteFault =
    Rose before.output_faults after.output_faults × Told (GainedFront constants) before.taken after.taken
PutsOut constants image schedule budget before after OutOfMemory = Told (GainedFront constants) before.taken after.taken
PutsOut constants image schedule budget before after _ = ⊥

-- The image of these constants was run, and put them out.
pub record RunsConstants (constants : List ℕ) (options : Given) (boxes : List (Option Meaning)) (before after : Streams) (image : Image) (verdict : Verdict) : Type 0 where
  pub run : RunsImage options boxes before after image verdict
  pub puts : PutsOut constants image run.schedule (budget_of options) before after verdict

-- What its run came to.
abbrev pub ConstantsCome : List ℕ → Given → List (Option Meaning) → Streams → Streams → Image → Result Finished Unbegun → Type 0
ConstantsCome constants options boxes before after image (Ok done) = (done.image ≡ image) × RunsConstants constants options boxes before after image done.verdict
ConstantsCome constants options boxes before after image (Err why) = NotRun options before after why
