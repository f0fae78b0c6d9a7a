-- What the command came to, from its stages.
use Rattle.std.proofs.Common.{◌≡◌, ℕ, ◌≤◌, ◌<◌, List, [], ◌∷◌, ◌++◌, Option, Result, Ok, Err, refl, ap, sym, ◌∙◌, subst, append_assoc}
use Rattle.std.proofs.lemmas.List.Elements.{All-from_recursion}
use Rattle.fx_base.specs.declared.device_op.DeviceOp.{DeviceOp}
use Rattle.fx_base.specs.Told.{Told}
use Rattle.fx_base.specs.Files.{Held, SameFiles}
use Rattle.fx_device.specs.Rules.{Meaning}
use Rattle.fx_image.specs.declared.forms.Image.{Image}
use Rattle.fx_early_law.specs.Plays.{IsOf, Plays, EarlyRunsPlay}
use Rattle.fx_machine_model.specs.declared.outcome.Outcome as outcomes
use Rattle.fx_machine_model.specs.declared.outcome.Outcome.TheVariants.{Stopped, Spent, Device, ReadFault, WriteFault, OutOfMemory}
use Rattle.fx_run_core.specs.Ran.{outputs, Gained, GainedButLast, HasCause, Output}
use Rattle.fx_run_core.proofs.Telling.{told_map}
use Rattle.fx_cmd_run.specs.Verdicts.{verdict_of, stopped}
use Rattle.fx_cmd_run.specs.declared.verdict.Verdict.{Verdict}
use Rattle.fx_cmd_base.specs.Words.{Given, ExecGiven}
use Rattle.fx_cmd_base.specs.Streams.{Streams}
use Rattle.fx_cmd_base.specs.Ends.{ErrorStream}
use Rattle.fx_cmd_run.specs.Comes.{budget_of, RunsImage, ImageComes}
use Rattle.fx_cmd_run.specs.Reports.{Reports}
use Rattle.fx_cmd_run.specs.declared.command.Finished.{Finished}
use Rattle.fx_cmd_run.specs.declared.load.Unbegun.{Unbegun}
use Rattle.fx_cmd_run.proofs.Late.{image_before}
use Rattle.fx_cmd_exec.specs.Builds.{Builds, Writes}
use Rattle.fx_cmd_exec.specs.Runs.{GainedFront, PutsOut, ConstantsCome}
use Rattle.fx_cmd_exec.specs.Moments.{once_written}
use Rattle.fx_cmd_exec.specs.Does.{Executes}
use Rattle.fx_cmd_exec.proofs.Holding.{writes_after, same_back}

-- what was built is the image of its constants
is_of : (config : List ℕ) (held : Option Held) (constants : List ℕ) (image : Image) → Builds config held constants image → IsOf constants image
is_of config held constants image b =
    let p = b.program.2 in
    record { value = b.value; few = p.few; bytes = All-from_recursion (λ constant. constant < 256) constants p.bytes }

module _ (constants : List ℕ) (image : Image) (schedule : List ℕ) (budget : ℕ) (unplug : Option (ℕ × ℕ)) (boxes : List (Option Meaning)) (before after : Streams) (turns : ℕ) (made : List DeviceOp) where
  abbrev Put : Verdict → Type 0
  Put verdict = PutsOut constants image schedule budget before after verdict

  -- an output that the run cut off
  part : Told (Gained (outputs made)) before.taken after.taken → (more : List ℕ) → constants ≡ outputs made ++ more → Told (GainedFront constants) before.taken after.taken
  part put more is = told_map (Gained (outputs made)) (GainedFront constants) (λ x y q. (outputs made, (more, is), q)) before.taken after.taken put

  last_of : (front : List ℕ) (last : ℕ) (more : List ℕ) → constants ≡ outputs made ++ more → outputs made ≡ front ++ last ∷ [] → constants ≡ front ++ last ∷ more
  last_of front last more is parts = is ∙ ap (λ l. l ++ more) parts ∙ append_assoc front (last ∷ []) more

  puts_by : (outcome : outcomes.Outcome) → Plays constants image schedule budget turns made outcome → Told (Output outcome made) before.taken after.taken
      → HasCause image schedule unplug boxes turns made before.input_faults after.input_faults before.output_faults after.output_faults outcome → Put (verdict_of image outcome turns)
  puts_by (Stopped stop) plays put cause =
      subst (λ s. Put (stopped image s turns)) (sym plays.0)
      (refl, plays.1, told_map (Gained (outputs made)) (Gained constants) (λ x y q. q ∙ ap (λ l. x ++ l) plays.2) before.taken after.taken put)
  puts_by Spent plays put cause = (plays.0, plays.1, part put plays.2.0 plays.2.1)
  puts_by (Device i) plays put cause = absurd plays
  puts_by ReadFault plays put cause = absurd plays
  puts_by WriteFault plays put cause = (
    cause.1,
    told_map (GainedButLast (outputs made)) (GainedFront constants) (λ x y q. (q.0, (q.1 ∷ plays.0, last_of q.0 q.1 plays.0 plays.1 q.2), q.3)) before.taken after.taken put,
  )
  puts_by OutOfMemory plays put cause = part put plays.0 plays.1

puts : EarlyRunsPlay → (constants : List ℕ) (options : Given) (boxes : List (Option Meaning)) (before after : Streams) (image : Image) (verdict : Verdict) → IsOf constants image → (r : RunsImage options boxes before after image verdict)
    → PutsOut constants image r.schedule (budget_of options) before after verdict
puts law constants options boxes before after image verdict is r =
    subst (PutsOut constants image r.schedule (budget_of options) before after) (sym r.called)
    (puts_by constants image r.schedule (budget_of options) options.unplug boxes before after r.turns r.transcript r.outcome
    (law constants image is r.schedule (budget_of options) options.unplug boxes r.turns r.transcript before.input_faults after.input_faults before.output_faults after.output_faults r.outcome r.ran r.cause)
    r.output r.cause)

constants_come : EarlyRunsPlay → (constants : List ℕ) (options : Given) (boxes : List (Option Meaning)) (before after : Streams) (image : Image) (came : Result Finished Unbegun) → IsOf constants image
    → ImageComes options boxes before after image came → ConstantsCome constants options boxes before after image came
constants_come law constants options boxes before after image (Ok done) is came = (came.0, record { run = came.1; puts = puts law constants options boxes before after image done.verdict is came.1 })
constants_come law constants options boxes before after image (Err why) is came = came

-- the image that was built was run, from the moment at which it was written
pub executes : EarlyRunsPlay → (given : ExecGiven) (boxes : List (Option Meaning)) (before after : Streams) (mid : Option Held) (middle result : ℕ) (err : ErrorStream) (constants : List ℕ) (image : Image) (came : Result Finished Unbegun)
    → Builds given.config before.held constants image → Writes given.run.image image before.held mid → before.file_faults ≤ middle → Told SameFiles mid after.held
    → ImageComes given.run.options boxes (record before { held = mid; file_faults = middle }) after image came → Reports given.run came result err
    → Executes given boxes before after result err
executes law given boxes before after mid middle result err constants image came b w later same comes reports = record {
  constants = constants;
  image = image;
  builds = b;
  writes = writes_after given.run.image image before.held mid after.held w same;
  came = came;
  comes = constants_come law constants given.run.options boxes (once_written before after) after image came (is_of given.config before.held constants image b)
      (image_before given.run.options boxes (once_written before after) after mid middle image came later (same_back mid after.held same) comes);
  reports = reports;
}
