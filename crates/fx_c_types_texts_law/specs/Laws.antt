-- What later stages need of a checked program whose files are the trees of texts.
use Rattle.std.specs.Prelude.{ℕ, ◌≤◌, List, length, All}
use Rattle.fx_c_ast.specs.declared.checked.TStruct.{TStruct}
use Rattle.fx_c_ast.specs.declared.checked.TFunction.{TFunction}
use Rattle.fx_c_ast.specs.declared.checked.TProgram.{TProgram}
use Rattle.fx_c_ast.specs.CheckedTrees.{tstmt_trees, struct_types}
use Rattle.fx_c_types.specs.declared.program.SourceFile.{SourceFile}
use Rattle.fx_c_types.specs.WellTyped.{WellTyped}
use Rattle.fx_c_types_model.specs.Tables.{tables}
use Rattle.fx_c_types_model.specs.Trees.{AreRight}
use Rattle.fx_c_types_model.specs.Each.{EachInAll}
use Rattle.fx_c_types_model.specs.Fits.{DeviceFits, ElementFits}
use Rattle.fx_c_types_texts_law.specs.Texts.{AreFilesOf, bytes_of}

-- each device is one of 16, and each register one of its 512
abbrev pub CheckedDevicesFit : Type 0
CheckedDevicesFit = (texts : List (List ℕ)) (files : List SourceFile) (p : TProgram) → AreFilesOf texts files → WellTyped files p
    → All (λ (f : TFunction). EachInAll DeviceFits (tstmt_trees f.body.items)) p.functions

-- a program has no more strings, and no struct of it more members, than its texts have bytes
abbrev pub CheckedNumbersAreFew : Type 0
CheckedNumbersAreFew = (texts : List (List ℕ)) (files : List SourceFile) (p : TProgram) → AreFilesOf texts files → WellTyped files p
    → (length p.literals ≤ bytes_of texts) × All (λ (s : TStruct). length s.members ≤ bytes_of texts) p.structs

-- so in a program of at most 64 MiB of texts all numbers are there and all types are right
abbrev pub WrittenProgramsAreRight : Type 0
WrittenProgramsAreRight = (texts : List (List ℕ)) (files : List SourceFile) (p : TProgram) → AreFilesOf texts files → bytes_of texts ≤ 67108864 → WellTyped files p
    → All (λ (f : TFunction). AreRight (tables p f) (tstmt_trees f.body.items)) p.functions

-- elements that are counted have from 1 byte to 64 MiB each
abbrev pub CheckedElementsFit : Type 0
CheckedElementsFit = (texts : List (List ℕ)) (files : List SourceFile) (p : TProgram) → AreFilesOf texts files → WellTyped files p
    → All (λ (f : TFunction). EachInAll (ElementFits (struct_types p.structs)) (tstmt_trees f.body.items)) p.functions
