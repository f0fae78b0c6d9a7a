-- What the command's status says.
use Rattle.std.proofs.Common.{◌≡◌, ℕ, pos, List, Option, Result, Ok, Err, inl, inr, refl, sym, ◌∙◌, subst, arith}
use Rattle.fx_base.specs.Told.{Told}
use Rattle.fx_device.specs.Rules.{Meaning}
use Rattle.fx_image.specs.declared.forms.Image.{Image}
use Rattle.fx_cmd_run.specs.VerdictLines.{line_of}
use Rattle.fx_cmd_run.specs.Verdicts.{status_of}
use Rattle.fx_cmd_run.specs.declared.verdict.Verdict.{Verdict}
use Rattle.fx_cmd_run.specs.declared.verdict.Verdict.TheVariants.{Exited, Denied, StackFull, Divide, BadThread, ThreadsFull, Invalid, Protection, Aborted, Page, Spent, DeviceFault, ReadFault, WriteFault, OutOfMemory}
use Rattle.fx_cmd_base.specs.Words.{ExecGiven}
use Rattle.fx_cmd_base.specs.Streams.{Streams, Gained}
use Rattle.fx_cmd_base.specs.Ends.{ErrorStream}
use Rattle.fx_cmd_run.specs.Reports.{Reports}
use Rattle.fx_cmd_run.specs.declared.command.Finished.{Finished}
use Rattle.fx_cmd_run.specs.declared.load.Unbegun.{Unbegun}
use Rattle.fx_cmd_run.proofs.Statuses.{reports_usage}
use Rattle.fx_cmd_exec.specs.declared.unbuilt.Unbuilt.{Unbuilt}
use Rattle.fx_cmd_exec.specs.declared.unbuilt.Unbuilt.TheVariants as unbuilt
use Rattle.fx_cmd_exec.specs.Builds.{Builds, Writes}
use Rattle.fx_cmd_exec.specs.Runs.{RunsConstants, ConstantsCome}
use Rattle.fx_cmd_exec.specs.Reports.{ReportsUnbuilt}
use Rattle.fx_cmd_exec.specs.Moments.{once_written}
use Rattle.fx_cmd_exec.specs.Does.{DoesExec, DoneConstant, DoneExec}
use Rattle.fx_cmd_exec.proofs.Statuses.{apart, unbegun_some}
use Rattle.fx_cmd_exec.proofs.AnyEnding.{any_usage, any_done}

-- ---- usage

none_usage : (given : ExecGiven) (why : Unbuilt) (result : ℕ) (err : ErrorStream) → ReportsUnbuilt given why result err → result ≡ 2 → ⊥
none_usage given (unbuilt.Other form) result err said two = absurd said
none_usage given (unbuilt.FileFault which error) result err (inl (inl own)) two = omega (arith, own.0)
none_usage given (unbuilt.FileFault which error) result err (inl (inr fault)) two = omega (arith, fault.0)
none_usage given (unbuilt.FileFault which error) result err (inr (inl memory)) two = omega (arith, memory.0)
none_usage given (unbuilt.FileFault which error) result err (inr (inr fault)) two = omega (arith, fault.0)
none_usage given unbuilt.OutOfMemory result err (inl own) two = omega (arith, own.0)
none_usage given unbuilt.OutOfMemory result err (inr fault) two = omega (arith, fault.0)

pub not_usage : (given : ExecGiven) (boxes : List (Option Meaning)) (before after : Streams) (result : ℕ) (err : ErrorStream) → DoesExec given boxes before after result err → result ≡ 2 → ⊥
not_usage given boxes before after result err (inl (inl e)) two = reports_usage given.run e.came result err e.reports two
not_usage given boxes before after result err (inl (inr n)) two = none_usage given n.why result err n.reports two
not_usage given boxes before after result err (inr any) two = any_usage given boxes before after any.held any.faults result err any.does two

-- ---- status 0

none_done : {P : Type 0} (given : ExecGiven) (why : Unbuilt) (result : ℕ) (err : ErrorStream) → ReportsUnbuilt given why result err → result ≡ 0 → P
none_done given (unbuilt.Other form) result err said none = absurd said
none_done given (unbuilt.FileFault which error) result err (inl (inl own)) none = apart 4 result 0 own.0 none (omega arith)
none_done given (unbuilt.FileFault which error) result err (inl (inr fault)) none = apart 5 result 0 fault.0 none (omega arith)
none_done given (unbuilt.FileFault which error) result err (inr (inl memory)) none = apart 6 result 0 memory.0 none (omega arith)
none_done given (unbuilt.FileFault which error) result err (inr (inr fault)) none = apart 5 result 0 fault.0 none (omega arith)
none_done given unbuilt.OutOfMemory result err (inl own) none = apart 6 result 0 own.0 none (omega arith)
none_done given unbuilt.OutOfMemory result err (inr fault) none = apart 5 result 0 fault.0 none (omega arith)

module _ (given : ExecGiven) (boxes : List (Option Meaning)) (before after : Streams) (err : ErrorStream) (constants : List ℕ) (image : Image) (b : Builds given.config before.held constants image) (w : Writes given.run.image image before.held after.held) where
  abbrev Ran : Verdict → Type 0
  Ran verdict = RunsConstants constants given.run.options boxes (once_written before after) after image verdict

  abbrev Line : Verdict → Type 0
  Line verdict = Told (Gained (line_of image verdict)) err.told err.printed

  abbrev Whole : Type 0
  Whole = DoneConstant given boxes before after err

  exited : (turns : ℕ) → Ran (Exited (pos 0) turns) × Line (Exited (pos 0) turns) → Whole
  exited turns (ran, line) = record {
    constants = constants;
    image = image;
    builds = b;
    writes = w;
    turns = turns;
    run = ran.run;
    turns_made = ran.puts.1;
    took = ran.puts.2;
    line = line;
  }

  by_verdict : (verdict : Verdict) → Ran verdict → Line verdict → status_of verdict ≡ 0 → Whole
  by_verdict (Exited value turns) ran line status = exited turns (subst (λ v. Ran (Exited v turns) × Line (Exited v turns)) ran.puts.0 (ran, line))
  by_verdict (Denied domain place write) ran line status = absurd ran.puts
  by_verdict (StackFull thread stack) ran line status = absurd ran.puts
  by_verdict Divide ran line status = absurd ran.puts
  by_verdict BadThread ran line status = absurd ran.puts
  by_verdict ThreadsFull ran line status = absurd ran.puts
  by_verdict Invalid ran line status = absurd ran.puts
  by_verdict Protection ran line status = absurd ran.puts
  by_verdict Aborted ran line status = absurd ran.puts
  by_verdict (Page address) ran line status = absurd ran.puts
  by_verdict (Spent turns) ran line status = apart 8 8 0 refl status (omega arith)
  by_verdict (DeviceFault device) ran line status = absurd ran.puts
  by_verdict ReadFault ran line status = absurd ran.puts
  by_verdict WriteFault ran line status = apart 5 5 0 refl status (omega arith)
  by_verdict OutOfMemory ran line status = apart 6 6 0 refl status (omega arith)

  by_came : (came : Result Finished Unbegun) (result : ℕ) → ConstantsCome constants given.run.options boxes (once_written before after) after image came → Reports given.run came result err → result ≡ 0 → Whole
  by_came (Ok done) result comes (inl (inl own)) none =
      by_verdict done.verdict comes.1 (subst (λ (i : Image). Told (Gained (line_of i done.verdict)) err.told err.printed) comes.0 own.1) (sym own.0 ∙ none)
  by_came (Err why) result comes (inl (inl own)) none = unbegun_some why (sym own.0 ∙ none)
  by_came came result comes (inl (inr fault)) none = apart 5 result 0 fault.0 none (omega arith)
  by_came came result comes (inr (inl memory)) none = apart 6 result 0 memory.0 none (omega arith)
  by_came came result comes (inr (inr fault)) none = apart 5 result 0 fault.0 none (omega arith)

pub done : (given : ExecGiven) (boxes : List (Option Meaning)) (before after : Streams) (result : ℕ) (err : ErrorStream) → DoesExec given boxes before after result err → result ≡ 0
    → DoneExec given boxes before after err
done given boxes before after result err (inl (inl e)) none = inl (by_came given boxes before after err e.constants e.image e.builds e.writes e.came result e.comes e.reports none)
done given boxes before after result err (inl (inr n)) none = none_done given n.why result err n.reports none
done given boxes before after result err (inr any) none = inr (any_done given boxes before after result err any none)
