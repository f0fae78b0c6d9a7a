-- What the command's status says of a program that isn't one of constant output.
use Rattle.std.proofs.Common.{◌≡◌, ℕ, ℤ, ◌<◌, List, Option, Result, Ok, Err, inl, inr, refl, sym, ◌∙◌, subst, arith}
use Rattle.fx_base.specs.Told.{Told}
use Rattle.fx_base.specs.Files.{Held}
use Rattle.fx_device.specs.Rules.{Meaning}
use Rattle.fx_image.specs.declared.forms.Image.{Image}
use Rattle.fx_cmd_load.specs.declared.program_error.ProgramError.TheVariants as program
use Rattle.fx_cmd_base.specs.Words.{ExecGiven}
use Rattle.fx_cmd_base.specs.Streams.{Streams, Gained}
use Rattle.fx_cmd_base.specs.Ends.{ErrorStream}
use Rattle.fx_cmd_build.specs.Failures.{failure_status}
use Rattle.fx_cmd_build.specs.declared.building.Unbuilt.TheVariants as unbuilt
use Rattle.fx_cmd_build.specs.declared.failure.BuildFailure.{BuildFailure}
use Rattle.fx_cmd_build.specs.declared.failure.BuildFailure.TheVariants.{Program, Mechanism, Image as NoImage}
use Rattle.fx_cmd_build.specs.declared.failure.BuildFailure.TheVariants.{WriteFailed, OutOfMemory as NoMemory}
use Rattle.fx_cmd_build.specs.Builds as build
use Rattle.fx_cmd_run.specs.VerdictLines.{line_of}
use Rattle.fx_cmd_run.specs.Verdicts.{status_of}
use Rattle.fx_cmd_run.specs.declared.verdict.Verdict.{Verdict}
use Rattle.fx_cmd_run.specs.declared.verdict.Verdict.TheVariants.{Exited, Denied, StackFull, Divide}
use Rattle.fx_cmd_run.specs.declared.verdict.Verdict.TheVariants.{BadThread, ThreadsFull, Invalid}
use Rattle.fx_cmd_run.specs.declared.verdict.Verdict.TheVariants.{Protection, Aborted, Page, Spent}
use Rattle.fx_cmd_run.specs.declared.verdict.Verdict.TheVariants.{DeviceFault, ReadFault, WriteFault}
use Rattle.fx_cmd_run.specs.declared.verdict.Verdict.TheVariants.{OutOfMemory}
use Rattle.fx_cmd_run.specs.Comes.{RunsImage, ImageComes}
use Rattle.fx_cmd_run.specs.Reports.{Reports}
use Rattle.fx_cmd_run.specs.declared.command.Finished.{Finished}
use Rattle.fx_cmd_run.specs.declared.load.Unbegun.{Unbegun}
use Rattle.fx_cmd_run.proofs.Statuses.{reports_usage}
use Rattle.fx_cmd_exec.specs.Moments.{once_written}
use Rattle.fx_cmd_exec.specs.Any.{ComesAny, DoesAny, DoneAny}
use Rattle.fx_cmd_exec.proofs.Statuses.{apart, unbegun_some}

-- the status of a failure is neither that of usage nor 0
failure_more : (why : BuildFailure) → 2 < failure_status why
failure_more (Program (program.File name error)) = omega arith
failure_more (Program (program.Config error)) = omega arith
failure_more (Program (program.Parse file error)) = omega arith
failure_more (Program (program.Types kind declaration)) = omega arith
failure_more (Program program.OutOfMemory) = omega arith
failure_more Mechanism = omega arith
failure_more (NoImage (unbuilt.Grants error)) = omega arith
failure_more (NoImage (unbuilt.Place error)) = omega arith
failure_more (NoImage (unbuilt.CodeTooLong bytes)) = omega arith
failure_more (NoImage unbuilt.OutOfMemory) = omega arith
failure_more WriteFailed = omega arith
failure_more NoMemory = omega arith

none_more : (image : List ℕ) (why : BuildFailure) (result : ℕ) (err : ErrorStream)
    → build.Reports image why result err → 2 < result
none_more image why result err (inl (inl own)) = subst (λ s. 2 < s) (sym own.0) (failure_more why)
none_more image why result err (inl (inr fault)) = omega (arith, fault.0)
none_more image why result err (inr (inl memory)) = omega (arith, memory.0)
none_more image why result err (inr (inr fault)) = omega (arith, fault.0)

pub any_usage : (given : ExecGiven) (boxes : List (Option Meaning)) (before after : Streams)
    (held : Option Held) (faults result : ℕ) (err : ErrorStream)
    → ComesAny given boxes before after held faults result err → result ≡ 2 → ⊥
any_usage given boxes before after held faults result err (inl e) two =
    reports_usage given.run e.came result err e.reports two
any_usage given boxes before after held faults result err (inr n) two =
    omega (arith, none_more given.run.image n.why result err n.reports, two)

module _ (given : ExecGiven) (boxes : List (Option Meaning)) (before after : Streams)
    (err : ErrorStream) (image : Image) (P : Type 0)
    (give : (value : ℤ) (turns : ℕ)
    → RunsImage given.run.options boxes (once_written before after) after image
    (Exited value turns)
    → Told (Gained (line_of image (Exited value turns))) err.told err.printed → P) where
  abbrev Ran : Verdict → Type 0
  Ran verdict = RunsImage given.run.options boxes (once_written before after) after image verdict

  abbrev Line : Verdict → Type 0
  Line verdict = Told (Gained (line_of image verdict)) err.told err.printed

  by_verdict : (verdict : Verdict) → Ran verdict → Line verdict → status_of verdict ≡ 0 → P
  by_verdict (Exited value turns) ran line status = give value turns ran line
  by_verdict (Denied domain place write) ran line status = apart 1 1 0 refl status (omega arith)
  by_verdict (StackFull thread stack) ran line status = apart 7 7 0 refl status (omega arith)
  by_verdict Divide ran line status = apart 9 9 0 refl status (omega arith)
  by_verdict BadThread ran line status = apart 9 9 0 refl status (omega arith)
  by_verdict ThreadsFull ran line status = apart 9 9 0 refl status (omega arith)
  by_verdict Invalid ran line status = apart 10 10 0 refl status (omega arith)
  by_verdict Protection ran line status = apart 10 10 0 refl status (omega arith)
  by_verdict Aborted ran line status = apart 10 10 0 refl status (omega arith)
  by_verdict (Page address) ran line status = apart 10 10 0 refl status (omega arith)
  by_verdict (Spent turns) ran line status = apart 8 8 0 refl status (omega arith)
  by_verdict (DeviceFault device) ran line status = apart 11 11 0 refl status (omega arith)
  by_verdict ReadFault ran line status = apart 12 12 0 refl status (omega arith)
  by_verdict WriteFault ran line status = apart 5 5 0 refl status (omega arith)
  by_verdict OutOfMemory ran line status = apart 6 6 0 refl status (omega arith)

  by_came : (came : Result Finished Unbegun) (result : ℕ)
      → ImageComes given.run.options boxes (once_written before after) after image came
      → Reports given.run came result err → result ≡ 0 → P
  by_came (Ok done) result comes (inl (inl own)) none =
      by_verdict done.verdict comes.1
      (subst (λ (i : Image). Told (Gained (line_of i done.verdict)) err.told err.printed) comes.0
      own.1)
      (sym own.0 ∙ none)
  by_came (Err why) result comes (inl (inl own)) none = unbegun_some why (sym own.0 ∙ none)
  by_came came result comes (inl (inr fault)) none = apart 5 result 0 fault.0 none (omega arith)
  by_came came result comes (inr (inl memory)) none = apart 6 result 0 memory.0 none (omega arith)
  by_came came result comes (inr (inr fault)) none = apart 5 result 0 fault.0 none (omega arith)

done_by : (given : ExecGiven) (boxes : List (Option Meaning)) (before after : Streams) (result : ℕ)
    (err : ErrorStream) → (any : DoesAny given boxes before after result err)
    → ComesAny given boxes before after any.held any.faults result err → result ≡ 0
    → DoneAny given boxes before after err
done_by given boxes before after result err any (inl e) none =
    by_came given boxes before after err e.image (DoneAny given boxes before after err)
    (λ value turns ran line. record {
      other = any.other;
      held = any.held;
      faults = any.faults;
      read = any.read;
      image = e.image;
      builds = e.builds;
      value = value;
      turns = turns;
      run = ran;
      line = line;
    })
    e.came result e.comes e.reports none
done_by given boxes before after result err any (inr n) none =
    absurd (omega (arith, none_more given.run.image n.why result err n.reports, none))

pub any_done : (given : ExecGiven) (boxes : List (Option Meaning)) (before after : Streams)
    (result : ℕ) (err : ErrorStream) → DoesAny given boxes before after result err → result ≡ 0
    → DoneAny given boxes before after err
any_done given boxes before after result err any none =
    done_by given boxes before after result err any any.does none
