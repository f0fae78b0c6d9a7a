-- What the command `single` came to, seen from the top call.
use Rattle.std.proofs.Common.{◌≡◌, ℕ, List, [], ◌∷◌, ◌++◌, Option, Result, Ok, Err, inl, inr, sym, ◌∙◌, arith}
use Rattle.fx_base.specs.Told.{Told}
use Rattle.fx_device.specs.Rules.{Meaning}
use Rattle.fx_cmd_load.specs.declared.program_error.ProgramError.{ProgramError}
use Rattle.fx_cmd_load.specs.declared.program_error.ProgramError.TheVariants as program
use Rattle.fx_cmd_base.specs.Streams.{Streams, Gained}
use Rattle.fx_cmd_base.specs.Ends.{ErrorStream}
use Rattle.fx_cmd_base.specs.ProgramWords.{program_status}
use Rattle.fx_cmd_single.specs.Words.{SingleGiven}
use Rattle.fx_cmd_single.specs.Comes.{RunsProgram, Comes}
use Rattle.fx_cmd_single.specs.Lines.{verdict_words}
use Rattle.fx_cmd_single.specs.Reports.{Reports, DoesSingle}
use Rattle.fx_cmd_single.specs.Verdicts.{status_of}
use Rattle.fx_cmd_single.specs.declared.verdict.Verdict.{Verdict}
use Rattle.fx_cmd_single.specs.declared.verdict.Verdict.TheVariants.{Exited, StackFull, Divide, BadThread, ThreadsFull, Undefined, Spent, DeviceFault, ReadFault, WriteFault, OutOfMemory}
use Rattle.fx_cmd_single.proofs.Statuses.{reports_usage}
use Rattle.flexos.specs.Singles.{DoneSingle}
use Rattle.flexos.proofs.Running.{no_status}

-- a verdict of status 0 is an exit
exited : (given : SingleGiven) (boxes : List (Option Meaning)) (before after : Streams) (err : ErrorStream) (verdict : Verdict)
    → RunsProgram given boxes before after verdict → status_of verdict ≡ 0 → Told (Gained (verdict_words verdict ++ 10 ∷ [])) err.told err.printed → DoneSingle given boxes before after err
exited given boxes before after err (Exited value cost) ran status line =
    record { value = value; cost = cost; ran = ran; line = line }
exited given boxes before after err (StackFull thread) ran status line = no_status 7 0 status (omega arith)
exited given boxes before after err Divide ran status line = no_status 9 0 status (omega arith)
exited given boxes before after err BadThread ran status line = no_status 9 0 status (omega arith)
exited given boxes before after err ThreadsFull ran status line = no_status 9 0 status (omega arith)
exited given boxes before after err Undefined ran status line = no_status 10 0 status (omega arith)
exited given boxes before after err (Spent budget) ran status line = no_status 8 0 status (omega arith)
exited given boxes before after err (DeviceFault device) ran status line = no_status 11 0 status (omega arith)
exited given boxes before after err ReadFault ran status line = no_status 12 0 status (omega arith)
exited given boxes before after err WriteFault ran status line = no_status 5 0 status (omega arith)
exited given boxes before after err OutOfMemory ran status line = no_status 6 0 status (omega arith)

-- where there is no checked program the status is another
loaded : {P : Type 0} (error : ProgramError) → program_status error ≡ 0 → P
loaded (program.File name error) status = no_status 4 0 status (omega arith)
loaded (program.Config error) status = no_status 3 0 status (omega arith)
loaded (program.Parse file error) status = no_status 3 0 status (omega arith)
loaded (program.Types kind declaration) status = no_status 3 0 status (omega arith)
loaded program.OutOfMemory status = no_status 6 0 status (omega arith)

came_done : (given : SingleGiven) (boxes : List (Option Meaning)) (before after : Streams) (result : ℕ) (err : ErrorStream) (came : Result Verdict ProgramError)
    → Comes given boxes before after came → Reports came result err → result ≡ 0 → DoneSingle given boxes before after err
came_done given boxes before after result err (Ok verdict) comes (inl (inl own)) zero_status =
    exited given boxes before after err verdict comes (sym own.0 ∙ zero_status) own.1
came_done given boxes before after result err (Err error) comes (inl (inl own)) zero_status = loaded error (sym own.0 ∙ zero_status)
came_done given boxes before after result err came comes (inl (inr fault)) zero_status = no_status 5 0 (sym fault.0 ∙ zero_status) (omega arith)
came_done given boxes before after result err came comes (inr (inl memory)) zero_status = no_status 6 0 (sym memory.0 ∙ zero_status) (omega arith)
came_done given boxes before after result err came comes (inr (inr fault)) zero_status = no_status 5 0 (sym fault.0 ∙ zero_status) (omega arith)

pub done_single : (given : SingleGiven) (boxes : List (Option Meaning)) (before after : Streams) (result : ℕ) (err : ErrorStream)
    → DoesSingle given boxes before after result err → result ≡ 0 → DoneSingle given boxes before after err
done_single given boxes before after result err does zero_status =
    came_done given boxes before after result err does.came does.comes does.reports zero_status

-- such a run isn't usage
pub single_is_no_usage : (given : SingleGiven) (boxes : List (Option Meaning)) (before after : Streams) (result : ℕ) (err : ErrorStream)
    → DoesSingle given boxes before after result err → result ≡ 2 → ⊥
single_is_no_usage given boxes before after result err does two = reports_usage does.came result err does.reports two
