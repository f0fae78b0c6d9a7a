-- What the status of the command says.
use Rattle.std.proofs.Common.{◌≡◌, ℕ, Result, Ok, Err, inl, inr, sym, ◌∙◌, arith}
use Rattle.fx_cmd_load.specs.declared.program_error.ProgramError.{ProgramError}
use Rattle.fx_cmd_load.specs.declared.program_error.ProgramError.TheVariants as program
use Rattle.fx_cmd_base.specs.ProgramWords.{program_status}
use Rattle.fx_cmd_base.specs.Ends.{ErrorStream}
use Rattle.fx_cmd_single.specs.Lines.{came_status}
use Rattle.fx_cmd_single.specs.Reports.{Reports}
use Rattle.fx_cmd_single.specs.Verdicts.{status_of}
use Rattle.fx_cmd_single.specs.declared.verdict.Verdict.{Verdict}
use Rattle.fx_cmd_single.specs.declared.verdict.Verdict.TheVariants.{Exited, StackFull, Divide, BadThread, ThreadsFull, Undefined, Spent, DeviceFault, ReadFault, WriteFault, OutOfMemory}

-- a run isn't usage
verdict_usage : (verdict : Verdict) → status_of verdict ≡ 2 → ⊥
verdict_usage (Exited value cost) status = omega arith
verdict_usage (StackFull thread) status = omega arith
verdict_usage Divide status = omega arith
verdict_usage BadThread status = omega arith
verdict_usage ThreadsFull status = omega arith
verdict_usage Undefined status = omega arith
verdict_usage (Spent budget) status = omega arith
verdict_usage (DeviceFault device) status = omega arith
verdict_usage ReadFault status = omega arith
verdict_usage WriteFault status = omega arith
verdict_usage OutOfMemory status = omega arith

program_usage : (error : ProgramError) → program_status error ≡ 2 → ⊥
program_usage (program.File name error) status = omega arith
program_usage (program.Config error) status = omega arith
program_usage (program.Parse file error) status = omega arith
program_usage (program.Types kind declaration) status = omega arith
program_usage program.OutOfMemory status = omega arith

came_usage : (came : Result Verdict ProgramError) → came_status came ≡ 2 → ⊥
came_usage (Ok verdict) status = verdict_usage verdict status
came_usage (Err error) status = program_usage error status

pub reports_usage : (came : Result Verdict ProgramError) (result : ℕ) (err : ErrorStream) → Reports came result err → result ≡ 2 → ⊥
reports_usage came result err (inl (inl own)) two = came_usage came (sym own.0 ∙ two)
reports_usage came result err (inl (inr fault)) two = omega (arith, fault.0)
reports_usage came result err (inr (inl memory)) two = omega (arith, memory.0)
reports_usage came result err (inr (inr fault)) two = omega (arith, fault.0)
