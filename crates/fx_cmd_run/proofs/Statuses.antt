-- What the status of a run says.
use Rattle.std.proofs.Common.{◌≡◌, ℕ, Result, Ok, Err, inl, inr, sym, ◌∙◌, arith}
use Rattle.fx_cmd_run.specs.Verdicts.{status_of}
use Rattle.fx_cmd_run.specs.declared.verdict.Verdict.{Verdict}
use Rattle.fx_cmd_run.specs.declared.verdict.Verdict.TheVariants.{Exited, Denied, StackFull, Divide, BadThread, ThreadsFull, Invalid, Protection, Aborted, Page, Spent, DeviceFault, ReadFault, WriteFault, OutOfMemory}
use Rattle.fx_cmd_base.specs.Ends.{ErrorStream}
use Rattle.fx_cmd_base.specs.Words.{RunGiven}
use Rattle.fx_cmd_run.specs.Lines.{came_status, unbegun_status}
use Rattle.fx_cmd_run.specs.Reports.{Reports}
use Rattle.fx_cmd_run.specs.declared.command.Finished.{Finished}
use Rattle.fx_cmd_run.specs.declared.load.Unbegun.{Unbegun}
use Rattle.fx_cmd_run.specs.declared.load.Unbegun.TheVariants as unbegun

-- a run isn't usage
verdict_usage : (verdict : Verdict) → status_of verdict ≡ 2 → ⊥
verdict_usage (Exited value turns) status = omega arith
verdict_usage (Denied domain place write) status = omega arith
verdict_usage (StackFull thread stack) status = omega arith
verdict_usage Divide status = omega arith
verdict_usage BadThread status = omega arith
verdict_usage ThreadsFull status = omega arith
verdict_usage Invalid status = omega arith
verdict_usage Protection status = omega arith
verdict_usage Aborted status = omega arith
verdict_usage (Page address) status = omega arith
verdict_usage (Spent turns) status = omega arith
verdict_usage (DeviceFault device) status = omega arith
verdict_usage ReadFault status = omega arith
verdict_usage WriteFault status = omega arith
verdict_usage OutOfMemory status = omega arith

unbegun_usage : (why : Unbegun) → unbegun_status why ≡ 2 → ⊥
unbegun_usage (unbegun.Unread file error) status = omega arith
unbegun_usage (unbegun.Refused error) status = omega arith
unbegun_usage unbegun.OutOfMemory status = omega arith

came_usage : (came : Result Finished Unbegun) → came_status came ≡ 2 → ⊥
came_usage (Ok done) status = verdict_usage done.verdict status
came_usage (Err why) status = unbegun_usage why status

pub reports_usage : (given : RunGiven) (came : Result Finished Unbegun) (result : ℕ) (err : ErrorStream) → Reports given came result err → result ≡ 2 → ⊥
reports_usage given came result err (inl (inl own)) two = came_usage came (sym own.0 ∙ two)
reports_usage given came result err (inl (inr fault)) two = omega (arith, fault.0)
reports_usage given came result err (inr (inl memory)) two = omega (arith, memory.0)
reports_usage given came result err (inr (inr fault)) two = omega (arith, fault.0)
