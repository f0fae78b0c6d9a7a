-- What an image's run comes to, and what the command `run` does.
use Rattle.std.specs.Prelude.{◌≡◌, ℕ, List, Option, Result, Ok, Err, unwrap_or}
use Rattle.fx_base.specs.Told.{Told}
use Rattle.fx_base.specs.Files.{Held}
use Rattle.fx_base.specs.declared.device_op.DeviceOp.{DeviceOp}
use Rattle.fx_device.specs.Rules.{Meaning}
use Rattle.fx_image.specs.declared.forms.Image.{Image}
use Rattle.fx_machine_model.specs.declared.outcome.Outcome.{Outcome}
use Rattle.fx_run_core.specs.Ran.{RunsTo, HasCause, Output, Input}
use Rattle.fx_cmd_run.specs.Verdicts.{verdict_of}
use Rattle.fx_cmd_run.specs.declared.verdict.Verdict.{Verdict}
use Rattle.fx_cmd_load.specs.Reading.{LeavesCount}
use Rattle.fx_cmd_base.specs.Streams.{Streams, Untouched}
use Rattle.fx_cmd_base.specs.Words.{Given, RunGiven}
use Rattle.fx_cmd_run.specs.Causes.{HasImage, HasSchedule, ScheduleCause, WhyUnbegun, UnbegunLeaves}
use Rattle.fx_cmd_run.specs.declared.command.Finished.{Finished}
use Rattle.fx_cmd_run.specs.declared.load.Unbegun.{Unbegun}

-- The turns of a run for which none are given.
abbrev pub default_budget : ℕ
default_budget = 50_000_000

abbrev pub budget_of : Given → ℕ
budget_of options = unwrap_or options.steps default_budget

-- An image was run by the schedule read, as long as its run goes or until the budget is spent, with these
-- devices in their boxes. What it came to is the verdict.
pub record RunsImage (options : Given) (boxes : List (Option Meaning)) (before after : Streams) (image : Image) (verdict : Verdict) : Type 0 where
  pub schedule : List ℕ
  pub outcome : Outcome
  pub turns : ℕ
  pub transcript : List DeviceOp
  pub schedule_read : HasSchedule before.held options.schedule schedule
  pub ran : RunsTo image schedule (budget_of options) options.unplug boxes outcome turns transcript
  pub output : Told (Output outcome transcript) before.taken after.taken
  pub input : Told (Input outcome transcript) before.left after.left
  pub cause : HasCause image schedule options.unplug boxes turns transcript before.input_faults after.input_faults before.output_faults after.output_faults outcome
  pub called : verdict ≡ verdict_of image outcome turns

-- No run of the image was begun: why, and that neither input nor output was touched.
pub record NotRun (options : Given) (before after : Streams) (why : Unbegun) : Type 0 where
  pub why_not : ScheduleCause options.schedule before.held before.file_faults after.file_faults why
  pub untouched : Untouched before after

-- What an image's run came to.
abbrev pub ImageComes : Given → List (Option Meaning) → Streams → Streams → Image → Result Finished Unbegun → Type 0
ImageComes options boxes before after image (Ok done) = (done.image ≡ image) × RunsImage options boxes before after image done.verdict
ImageComes options boxes before after image (Err why) = NotRun options before after why

-- Nothing but a file that failed changes the files' count of faults: none is read again, and nothing is asked
-- behind a fault.
abbrev pub CameLeaves : Option Held → ℕ → ℕ → Result Finished Unbegun → Type 0
CameLeaves held before now (Ok done) = LeavesCount held before now
CameLeaves held before now (Err why) = UnbegunLeaves held before now why

-- ---- the command `run`

-- The image read was run.
pub record Ran (given : RunGiven) (boxes : List (Option Meaning)) (before after : Streams) (image : Image) (verdict : Verdict) : Type 0 where
  pub image_read : HasImage before.held given.image image
  pub run : RunsImage given.options boxes before after image verdict

-- No run was begun: why, and that neither input nor output was touched.
pub record NotBegun (given : RunGiven) (before after : Streams) (why : Unbegun) : Type 0 where
  pub why_not : WhyUnbegun given before.held before.file_faults after.file_faults why
  pub untouched : Untouched before after

-- What the command came to.
abbrev pub Comes : RunGiven → List (Option Meaning) → Streams → Streams → Result Finished Unbegun → Type 0
Comes given boxes before after (Ok done) = Ran given boxes before after done.image done.verdict
Comes given boxes before after (Err why) = NotBegun given before after why
