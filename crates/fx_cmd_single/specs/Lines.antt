-- The line and the status that the command `single` ends with.
use Rattle.std.specs.Prelude.{ℕ, List, [], ◌∷◌, ◌++◌, Result, Ok, Err, codes}
use Rattle.std.specs.Fmt.{decimal, signed_decimal}
use Rattle.fx_cmd_load.specs.declared.program_error.ProgramError.{ProgramError}
use Rattle.fx_cmd_base.specs.ProgramWords.{program_status, program_words}
use Rattle.fx_cmd_single.specs.declared.verdict.Verdict.{Verdict}
use Rattle.fx_cmd_single.specs.declared.verdict.Verdict.TheVariants.{Exited, StackFull, Divide, BadThread, ThreadsFull, Undefined, Spent, DeviceFault, ReadFault, WriteFault, OutOfMemory}
use Rattle.fx_cmd_single.specs.Verdicts.{status_of}

-- In one compartment a thread has one stack, which is common to all libraries.
abbrev pub verdict_words : Verdict → List ℕ
verdict_words (Exited value cost) = codes "exit " ++ (signed_decimal value ++ (codes " in " ++ (decimal cost ++ codes " steps")))
verdict_words (StackFull thread) = codes "stack full: thread " ++ (decimal thread ++ codes " stack common")
verdict_words Divide = codes "divide"
verdict_words BadThread = codes "bad thread"
verdict_words ThreadsFull = codes "threads full"
verdict_words Undefined = codes "broken: undefined"
verdict_words (Spent budget) = codes "steps spent: " ++ decimal budget
verdict_words (DeviceFault device) = codes "device fault: " ++ decimal device
verdict_words ReadFault = codes "read fault"
verdict_words WriteFault = codes "write fault"
verdict_words OutOfMemory = codes "out of memory"

abbrev pub came_status : Result Verdict ProgramError → ℕ
came_status (Ok verdict) = status_of verdict
came_status (Err error) = program_status error

abbrev pub came_words : Result Verdict ProgramError → List ℕ
came_words (Ok verdict) = verdict_words verdict
came_words (Err error) = program_words error

-- The line, ended by a line feed.
abbrev pub came_line : Result Verdict ProgramError → List ℕ
came_line came = came_words came ++ 10 ∷ []
