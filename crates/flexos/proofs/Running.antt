-- What the command `run` came to, seen from the top call.
use Rattle.std.proofs.Common.{◌≡◌, ℕ, ◌<◌, List, Option, Result, Ok, Err, inl, inr, sym, ◌∙◌, arith}
use Rattle.fx_base.specs.Told.{Told}
use Rattle.fx_device.specs.Rules.{Meaning}
use Rattle.fx_image.specs.declared.forms.Image.{Image}
use Rattle.fx_cmd_base.specs.Streams.{Streams, Gained}
use Rattle.fx_cmd_base.specs.Ends.{ErrorStream}
use Rattle.fx_cmd_base.specs.Words.{RunGiven}
use Rattle.fx_cmd_run.specs.VerdictLines.{line_of}
use Rattle.fx_cmd_run.specs.Verdicts.{status_of}
use Rattle.fx_cmd_run.specs.declared.verdict.Verdict.{Verdict}
use Rattle.fx_cmd_run.specs.declared.verdict.Verdict.TheVariants.{Exited, Denied, StackFull, Divide, BadThread, ThreadsFull, Invalid, Protection, Aborted, Page, Spent, DeviceFault, ReadFault, WriteFault, OutOfMemory}
use Rattle.fx_cmd_run.proofs.Statuses.{reports_usage}
use Rattle.fx_cmd_run.specs.Comes.{Ran, Comes}
use Rattle.fx_cmd_run.specs.Lines.{unbegun_status}
use Rattle.fx_cmd_run.specs.Reports.{Reports, Does}
use Rattle.fx_cmd_run.specs.declared.command.Finished.{Finished}
use Rattle.fx_cmd_run.specs.declared.load.Unbegun.{Unbegun}
use Rattle.fx_cmd_run.specs.declared.load.Unbegun.TheVariants as unbegun
use Rattle.flexos.specs.Runs.{DoneRun}

-- a status that is another number
pub no_status : {P : Type 0} (status wanted : ℕ) → status ≡ wanted → wanted < status → P
no_status status wanted is less = absurd (omega arith)

-- a verdict of status 0 is an exit
exited : (given : RunGiven) (boxes : List (Option Meaning)) (before after : Streams) (err : ErrorStream) (image : Image) (verdict : Verdict)
    → Ran given boxes before after image verdict → status_of verdict ≡ 0 → Told (Gained (line_of image verdict)) err.told err.printed → DoneRun given boxes before after err
exited given boxes before after err image (Exited value turns) ran status line =
    record { image = image; value = value; turns = turns; ran = ran; line = line }
exited given boxes before after err image (Denied domain place write) ran status line = no_status 1 0 status (omega arith)
exited given boxes before after err image (StackFull thread stack) ran status line = no_status 7 0 status (omega arith)
exited given boxes before after err image Divide ran status line = no_status 9 0 status (omega arith)
exited given boxes before after err image BadThread ran status line = no_status 9 0 status (omega arith)
exited given boxes before after err image ThreadsFull ran status line = no_status 9 0 status (omega arith)
exited given boxes before after err image Invalid ran status line = no_status 10 0 status (omega arith)
exited given boxes before after err image Protection ran status line = no_status 10 0 status (omega arith)
exited given boxes before after err image Aborted ran status line = no_status 10 0 status (omega arith)
exited given boxes before after err image (Page address) ran status line = no_status 10 0 status (omega arith)
exited given boxes before after err image (Spent turns) ran status line = no_status 8 0 status (omega arith)
exited given boxes before after err image (DeviceFault device) ran status line = no_status 11 0 status (omega arith)
exited given boxes before after err image ReadFault ran status line = no_status 12 0 status (omega arith)
exited given boxes before after err image WriteFault ran status line = no_status 5 0 status (omega arith)
exited given boxes before after err image OutOfMemory ran status line = no_status 6 0 status (omega arith)

-- what isn't begun has another status
begun : {P : Type 0} (why : Unbegun) → unbegun_status why ≡ 0 → P
begun (unbegun.Unread file error) status = no_status 4 0 status (omega arith)
begun (unbegun.Refused error) status = no_status 3 0 status (omega arith)
begun unbegun.OutOfMemory status = no_status 6 0 status (omega arith)

came_done : (given : RunGiven) (boxes : List (Option Meaning)) (before after : Streams) (result : ℕ) (err : ErrorStream) (came : Result Finished Unbegun)
    → Comes given boxes before after came → Reports given came result err → result ≡ 0 → DoneRun given boxes before after err
came_done given boxes before after result err (Ok done) comes (inl (inl own)) zero_status =
    exited given boxes before after err done.image done.verdict comes (sym own.0 ∙ zero_status) own.1
came_done given boxes before after result err (Err why) comes (inl (inl own)) zero_status = begun why (sym own.0 ∙ zero_status)
came_done given boxes before after result err came comes (inl (inr fault)) zero_status = no_status 5 0 (sym fault.0 ∙ zero_status) (omega arith)
came_done given boxes before after result err came comes (inr (inl memory)) zero_status = no_status 6 0 (sym memory.0 ∙ zero_status) (omega arith)
came_done given boxes before after result err came comes (inr (inr fault)) zero_status = no_status 5 0 (sym fault.0 ∙ zero_status) (omega arith)

pub done_run : (given : RunGiven) (boxes : List (Option Meaning)) (before after : Streams) (result : ℕ) (err : ErrorStream)
    → Does given boxes before after result err → result ≡ 0 → DoneRun given boxes before after err
done_run given boxes before after result err does zero_status =
    came_done given boxes before after result err does.came does.comes does.reports zero_status

-- a run isn't usage
pub run_is_no_usage : (given : RunGiven) (boxes : List (Option Meaning)) (before after : Streams) (result : ℕ) (err : ErrorStream)
    → Does given boxes before after result err → result ≡ 2 → ⊥
run_is_no_usage given boxes before after result err does two = reports_usage given does.came result err does.reports two
