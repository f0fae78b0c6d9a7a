-- When a file of the building is at fault.
use Rattle.std.specs.Prelude.{◌≢◌, ℕ, List, Option}
use Rattle.fx_base.specs.Faults.{Rose}
use Rattle.fx_base.specs.Files.{Held}
use Rattle.fx_base.specs.declared.files.FileError.{FileError}
use Rattle.fx_base.specs.declared.files.FileError.TheVariants as errors
use Rattle.fx_early_source.specs.Grammar.{IsProgram}
use Rattle.fx_cmd_load.specs.Reading.{config_limit, source_limit, WasRead, LeavesCount, FaultLeaves, ReadingFault}
use Rattle.fx_cmd_exec.specs.declared.inputs.TheConstants.{EARLY_DOCUMENT}
use Rattle.fx_cmd_exec.specs.declared.unbuilt.Unbuilt.{Unbuilt}
use Rattle.fx_cmd_exec.specs.declared.unbuilt.Unbuilt.TheVariants.{Other, FileFault, OutOfMemory}
use Rattle.fx_cmd_exec.specs.declared.unbuilt.Other.TheVariants as other
use Rattle.fx_cmd_exec.specs.declared.unbuilt.Which.TheVariants as which
use Rattle.fx_cmd_exec.specs.Lines.{source_name}

-- The cause of a file's fault at writing.
abbrev pub WritingFault : ℕ → ℕ → FileError → Type 0
WritingFault before now errors.Failed = Rose before now
WritingFault before now errors.Missing = ⊥
WritingFault before now errors.TooLong = ⊥
WritingFault before now errors.OutOfMemory = ⊥

-- The configuration of programs of constant output: one library and one compartment of one file, and plain calls.
abbrev pub early_document : List ℕ
early_document = EARLY_DOCUMENT.now

-- Why the configuration isn't that of a program of constant output, by what is held and the count of faults before and after.
abbrev pub ConfigCause : List ℕ → Option Held → ℕ → ℕ → Unbuilt → Type 0
ConfigCause config held before now (Other other.Config) = (bytes : List ℕ) × WasRead config_limit held config bytes × (bytes ≢ early_document)
ConfigCause config held before now (FileFault which.Config error) = ReadingFault config_limit config held before now error
ConfigCause config held before now OutOfMemory = Unit {0}
ConfigCause config held before now _ = ⊥

-- Why the source isn't of constant output.
abbrev pub SourceCause : Option Held → ℕ → ℕ → Unbuilt → Type 0
SourceCause held before now (Other other.Source) =
    (bytes : List ℕ) × WasRead source_limit held source_name bytes × ((constants : List ℕ) → IsProgram bytes constants → ⊥)
SourceCause held before now (FileFault which.Source error) = ReadingFault source_limit source_name held before now error
SourceCause held before now OutOfMemory = Unit {0}
SourceCause held before now _ = ⊥

-- The source was read, and is a program of these constants.
abbrev pub HasProgram : Option Held → List ℕ → Type 0
HasProgram held constants = (text : List ℕ) × WasRead source_limit held source_name text × IsProgram text constants

-- A text isn't of the form, or memory ran out.
abbrev pub IsOtherSource : List ℕ → Unbuilt → Type 0
IsOtherSource text (Other other.Source) = ((constants : List ℕ) → IsProgram text constants → ⊥)
IsOtherSource text OutOfMemory = Unit {0}
IsOtherSource text _ = ⊥

-- Nothing but a file that failed changes the count of faults, as far as nothing was written.
abbrev pub UnbuiltLeaves : Option Held → ℕ → ℕ → Unbuilt → Type 0
UnbuiltLeaves held before now (Other form) = LeavesCount held before now
UnbuiltLeaves held before now (FileFault which.Image error) = Unit {0}
UnbuiltLeaves held before now (FileFault file error) = FaultLeaves error held before now
UnbuiltLeaves held before now OutOfMemory = Unit {0}

-- Why the image wasn't written.
abbrev pub ImageCause : ℕ → ℕ → Unbuilt → Type 0
ImageCause before now (FileFault which.Image error) = WritingFault before now error
ImageCause before now OutOfMemory = Unit {0}
ImageCause before now _ = ⊥
