-- Programs that keep all rules, and the first rule that a program breaks.
use Rattle.std.specs.Prelude.{◌≡◌, ℕ, List, Ok, Err}
use Rattle.fx_c_ast.specs.declared.checked.TProgram.{TProgram}
use Rattle.fx_c_types_rules.specs.declared.fault.TypeKind.{TypeKind}
use Rattle.fx_c_types.specs.declared.fault.TypeError.TheVariants.{Rule}
use Rattle.fx_c_types.specs.declared.program.SourceFile.{SourceFile}
use Rattle.fx_c_types.specs.Programs.{ProgramTree, well_typed}
use Rattle.fx_c_types.specs.ProgramView.{declarations, program_tree}

-- the files keep all rules, and mean the program
abbrev pub Means : List SourceFile → ProgramTree → Type 0
Means files t = well_typed (declarations files) ≡ Ok t

abbrev pub WellTyped : List SourceFile → TProgram → Type 0
WellTyped files p = Means files (program_tree p)

-- the files break a rule first in the declaration with a number
abbrev pub BreaksRule : List SourceFile → TypeKind → ℕ → Type 0
BreaksRule files kind declaration = well_typed (declarations files) ≡ Err (Rule kind declaration)
