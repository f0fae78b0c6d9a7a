-- What lowering may take from a program that the checker accepts: all of `IsLowerable`.
use Rattle.std.specs.Prelude.{ℕ, ◌≤◌, List}
use Rattle.fx_c_ast.specs.declared.checked.TProgram.{TProgram}
use Rattle.fx_c_types.specs.declared.program.SourceFile.{SourceFile}
use Rattle.fx_c_types.specs.WellTyped.{WellTyped}
use Rattle.fx_c_types_model.specs.Lowerable.{IsLowerable}
use Rattle.fx_c_types_texts_law.specs.Texts.{AreFilesOf, bytes_of}

-- a checked program whose files are the trees of at most 64 MiB of texts is lowerable
abbrev pub CheckedProgramsAreLowerable : Type 0
CheckedProgramsAreLowerable = (texts : List (List ℕ)) (files : List SourceFile) (p : TProgram) → AreFilesOf texts files → bytes_of texts ≤ 67108864 → WellTyped files p → IsLowerable p
