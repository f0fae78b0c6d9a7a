-- What was read and run, seen from an earlier moment.
use Rattle.std.proofs.Common.{◌≡◌, ℕ, ◌≤◌, List, Option, Some, None, Result, Ok, Err, arith, sym, refl, ◌∙◌, subst}
use Rattle.fx_base.specs.Told.{Told}
use Rattle.fx_base.specs.Files.{Held, SameFiles}
use Rattle.fx_device.specs.Rules.{Meaning}
use Rattle.fx_image.specs.declared.forms.Image.{Image}
use Rattle.fx_cmd_run.specs.declared.verdict.Verdict.{Verdict}
use Rattle.fx_cmd_base.specs.Words.{Given, RunGiven}
use Rattle.fx_cmd_load.specs.Reading.{LeavesCount}
use Rattle.fx_cmd_load.proofs.Stages.{was_before, fault_before, counted_twice, fault_leaves}
use Rattle.fx_cmd_base.specs.Streams.{Streams}
use Rattle.fx_cmd_run.specs.Causes.{file_limit, HasImage, ImageCause, HasSchedule, ScheduleCause, WhyUnbegun, UnbegunLeaves}
use Rattle.fx_cmd_run.specs.Comes.{RunsImage, ImageComes, Comes, CameLeaves}
use Rattle.fx_cmd_run.specs.declared.command.Finished.{Finished}
use Rattle.fx_cmd_run.specs.declared.load.Unbegun.{Unbegun}
use Rattle.fx_cmd_run.specs.declared.load.Unbegun.TheVariants.{Unread, Refused, OutOfMemory}
use Rattle.fx_cmd_run.specs.declared.load.Which.TheVariants as which

-- the cause of a schedule that wasn't taken, behind an image that was
late_by : (given : RunGiven) (schedule : Option (List ℕ)) (held mid : Option Held) (before middle now : ℕ) (image : Image) (why : Unbegun) → given.options.schedule ≡ schedule → before ≤ middle → Told SameFiles held mid
    → HasImage held given.image image → ScheduleCause schedule mid middle now why → WhyUnbegun given held before now why
late_by given (Some name) held mid before middle now image (Unread which.Schedule error) is later same taken cause =
    (image, taken, name, is, fault_before file_limit name held mid before middle now error same later cause)
late_by given (Some name) held mid before middle now image (Unread which.Image error) is later same taken cause = absurd cause
late_by given (Some name) held mid before middle now image (Refused error) is later same taken cause = absurd cause
late_by given (Some name) held mid before middle now image OutOfMemory is later same taken cause = tt
late_by given None held mid before middle now image (Unread file error) is later same taken cause = absurd cause
late_by given None held mid before middle now image (Refused error) is later same taken cause = absurd cause
late_by given None held mid before middle now image OutOfMemory is later same taken cause = tt

pub late : (given : RunGiven) (held mid : Option Held) (before middle now : ℕ) (image : Image) (why : Unbegun) → before ≤ middle → Told SameFiles held mid
    → HasImage held given.image image → ScheduleCause given.options.schedule mid middle now why → WhyUnbegun given held before now why
late given held mid before middle now image why later same taken cause = late_by given given.options.schedule held mid before middle now image why refl later same taken cause

-- ---- an image's run

schedule_before : (name : Option (List ℕ)) (a b : Option Held) (bytes : List ℕ) → Told SameFiles a b → HasSchedule b name bytes → HasSchedule a name bytes
schedule_before None a b bytes same read = read
schedule_before (Some name) a b bytes same read = was_before file_limit a b name bytes same read

cause_before : (schedule : Option (List ℕ)) (held mid : Option Held) (before middle now : ℕ) (why : Unbegun) → before ≤ middle → Told SameFiles held mid → ScheduleCause schedule mid middle now why → ScheduleCause schedule held before now why
cause_before (Some name) held mid before middle now (Unread which.Schedule error) later same cause = fault_before file_limit name held mid before middle now error same later cause
cause_before (Some name) held mid before middle now (Unread which.Image error) later same cause = absurd cause
cause_before (Some name) held mid before middle now (Refused error) later same cause = absurd cause
cause_before (Some name) held mid before middle now OutOfMemory later same cause = tt
cause_before None held mid before middle now (Unread file error) later same cause = absurd cause
cause_before None held mid before middle now (Refused error) later same cause = absurd cause
cause_before None held mid before middle now OutOfMemory later same cause = tt

ran_before : (options : Given) (boxes : List (Option Meaning)) (s after : Streams) (mid : Option Held) (middle : ℕ) (image : Image) (verdict : Verdict) → Told SameFiles s.held mid
    → RunsImage options boxes (record s { held = mid; file_faults = middle }) after image verdict → RunsImage options boxes s after image verdict
ran_before options boxes s after mid middle image verdict same r = record {
  schedule = r.schedule;
  outcome = r.outcome;
  turns = r.turns;
  transcript = r.transcript;
  schedule_read = schedule_before options.schedule s.held mid r.schedule same r.schedule_read;
  ran = r.ran;
  output = r.output;
  input = r.input;
  cause = r.cause;
  called = r.called;
}

-- what it came to, from a moment at which the files were the same
pub image_before : (options : Given) (boxes : List (Option Meaning)) (s after : Streams) (mid : Option Held) (middle : ℕ) (image : Image) (came : Result Finished Unbegun) → s.file_faults ≤ middle → Told SameFiles s.held mid
    → ImageComes options boxes (record s { held = mid; file_faults = middle }) after image came → ImageComes options boxes s after image came
image_before options boxes s after mid middle image (Ok done) later same came = (came.0, ran_before options boxes s after mid middle image done.verdict same came.1)
image_before options boxes s after mid middle image (Err why) later same came = record {
  why_not = cause_before options.schedule s.held mid s.file_faults middle after.file_faults why later same came.why_not;
  untouched = record {
    input = came.untouched.input;
    input_faults = came.untouched.input_faults;
    output = came.untouched.output;
    output_faults = came.untouched.output_faults;
  };
}

-- ---- the count of faults

unbegun_leaves : (a b : Option Held) (first before now : ℕ) (why : Unbegun) → Told SameFiles a b → LeavesCount a first before → UnbegunLeaves b before now why → UnbegunLeaves a first now why
unbegun_leaves a b first before now (Unread file error) same p q = fault_leaves error a b first before now same p q
unbegun_leaves a b first before now (Refused error) same p q = counted_twice a b first before now same p q
unbegun_leaves a b first before now OutOfMemory same p q = counted_twice a b first before now same p q

pub came_leaves : (a b : Option Held) (first before now : ℕ) (came : Result Finished Unbegun) → Told SameFiles a b → LeavesCount a first before → CameLeaves b before now came → CameLeaves a first now came
came_leaves a b first before now (Ok done) same p q = counted_twice a b first before now same p q
came_leaves a b first before now (Err why) same p q = unbegun_leaves a b first before now why same p q

-- ---- the command `run`

pub image_unread : (given : RunGiven) (held : Option Held) (before now : ℕ) (why : Unbegun) → ImageCause given.image held before now why → WhyUnbegun given held before now why
image_unread given held before now (Unread which.Image error) cause = cause
image_unread given held before now (Unread which.Schedule error) cause = absurd cause
image_unread given held before now (Refused error) cause = cause
image_unread given held before now OutOfMemory cause = tt

-- an image that was read was run
pub came_late : (given : RunGiven) (boxes : List (Option Meaning)) (s after : Streams) (mid : Option Held) (middle : ℕ) (image : Image) (came : Result Finished Unbegun) → s.file_faults ≤ middle → Told SameFiles s.held mid
    → HasImage s.held given.image image → ImageComes given.options boxes (record s { held = mid; file_faults = middle }) after image came → Comes given boxes s after came
came_late given boxes s after mid middle image (Ok done) later same read came = record {
  image_read = subst (HasImage s.held given.image) (sym came.0) read;
  run = subst (λ (i : Image). RunsImage given.options boxes s after i done.verdict) (sym came.0) (ran_before given.options boxes s after mid middle image done.verdict same came.1);
}
came_late given boxes s after mid middle image (Err why) later same read came = record {
  why_not = late given s.held mid s.file_faults middle after.file_faults image why later same read came.why_not;
  untouched = record {
    input = came.untouched.input;
    input_faults = came.untouched.input_faults;
    output = came.untouched.output;
    output_faults = came.untouched.output_faults;
  };
}
