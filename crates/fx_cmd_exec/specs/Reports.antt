-- How the command ends where no image of constant output was built: its status, and what the error
-- stream took.
use Rattle.std.specs.Prelude.{ℕ, [], ◌∷◌, ◌++◌, codes}
use Rattle.fx_cmd_base.specs.Ends.{ErrorStream, Ended, EndedOrWanted}
use Rattle.fx_cmd_base.specs.RefusalWords.{file_fault}
use Rattle.fx_cmd_base.specs.Words.{ExecGiven}
use Rattle.fx_cmd_exec.specs.declared.unbuilt.Unbuilt.{Unbuilt}
use Rattle.fx_cmd_exec.specs.declared.unbuilt.Unbuilt.TheVariants.{Other, FileFault, OutOfMemory}
use Rattle.fx_cmd_exec.specs.Lines.{name_of}

-- The line of a file's fault and its status, or there was no memory for the line; or that of want
-- of memory. Another program is built.
abbrev pub ReportsUnbuilt : ExecGiven → Unbuilt → ℕ → ErrorStream → Type 0
ReportsUnbuilt given (Other form) result err = ⊥
ReportsUnbuilt given (FileFault which error) result err =
    EndedOrWanted 4 (file_fault (name_of given which) error ++ 10 ∷ []) result err
ReportsUnbuilt given OutOfMemory result err = Ended 6 (codes "out of memory\n") result err
