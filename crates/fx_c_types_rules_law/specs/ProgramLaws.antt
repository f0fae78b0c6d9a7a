-- What the judgements derive of a program is what the check gives.
use Rattle.std.specs.Prelude.{◌≡◌, ◌↔◌, List, Ok}
use Rattle.fx_c_types.specs.declared.program.SourceFile.{SourceFile}
use Rattle.fx_c_types.specs.Programs.{ProgramTree, well_typed}
use Rattle.fx_c_types.specs.ProgramView.{declarations}
use Rattle.fx_c_types_rules_law.specs.WholePrograms.{MeansProgram}

-- files mean a program by the judgements exactly where the check gives that program
abbrev pub ProgramsAreJudged : Type 0
ProgramsAreJudged = (files : List SourceFile) (p : ProgramTree) → MeansProgram (declarations files) p ↔ (well_typed (declarations files) ≡ Ok p)

-- files mean at most one program
abbrev pub ProgramsAreDetermined : Type 0
ProgramsAreDetermined = (files : List SourceFile) (p q : ProgramTree) → MeansProgram (declarations files) p → MeansProgram (declarations files) q → p ≡ q
