-- How many strings a text and a checked program have.
use Rattle.std.specs.Prelude.{◌≡◌, ℕ, ◌≤◌, List, length}
use Rattle.fx_c_ast.specs.declared.checked.TProgram.{TProgram}
use Rattle.fx_c_ast.specs.ParsedTrees.{DeclTree}
use Rattle.fx_c_parse.specs.Exact.{IsTextOf}
use Rattle.fx_c_types.specs.declared.program.SourceFile.{SourceFile}
use Rattle.fx_c_types.specs.WellTyped.{WellTyped}
use Rattle.fx_c_types.specs.ProgramView.{declarations}
use Rattle.fx_c_types_texts_law.specs.Strings.{unit_strings, program_strings}

-- each string of a file's tree takes a byte of its text
abbrev pub StringsTakeBytes : Type 0
StringsTakeBytes = (text : List ℕ) (ds : List DeclTree) → IsTextOf text ds → unit_strings ds ≤ length text

-- each string that stands in the trees of its files is an object of a checked program, and there are no others
abbrev pub CheckedStringsAreWritten : Type 0
CheckedStringsAreWritten = (files : List SourceFile) (p : TProgram) → WellTyped files p
    → length p.literals ≡ program_strings (declarations files)
