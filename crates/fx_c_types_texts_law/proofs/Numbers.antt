-- The numbers of strings and members of a program, by its texts.
use Rattle.std.proofs.Common.{ℕ, ◌≤◌, ◌^◌, List, [], ◌∷◌, length, arith}
use Rattle.std.specs.Prelude.{All}
use Rattle.fx_c_ast.specs.declared.checked.TStruct.{TStruct}
use Rattle.fx_c_ast.specs.declared.checked.TFunction.{TFunction}
use Rattle.fx_c_ast.specs.declared.checked.TProgram.{TProgram}
use Rattle.fx_c_ast.specs.ParsedTrees.{decl_trees}
use Rattle.fx_c_ast.specs.CheckedTrees.{tstmt_trees}
use Rattle.fx_c_types.specs.declared.program.SourceFile.{SourceFile}
use Rattle.fx_c_types.specs.ProgramView.{placed_in, declarations}
use Rattle.fx_c_types.specs.WellTyped.{WellTyped}
use Rattle.fx_c_types_texts_law.specs.Strings.{program_strings}
use Rattle.fx_c_types_texts_law.proofs.Checked.{literals_written}
use Rattle.fx_c_types_texts_law.proofs.Written.{few_strings, strings-append, strings-placed}
use Rattle.fx_c_types_model.specs.Tables.{tables}
use Rattle.fx_c_types_model.specs.Trees.{AreRight}
use Rattle.fx_c_types_trees_law.specs.Laws.{NumbersFit}
use Rattle.fx_c_types_trees_law.proofs.Facts.{right_program, bodies_are_right}
use Rattle.fx_c_types_texts_law.specs.Texts.{AreFilesOf, bytes_of}
use Rattle.fx_c_types_texts_law.proofs.Members.{members_few}

-- each string takes a byte of its text
strings_few : (texts : List (List ℕ)) (files : List SourceFile) → AreFilesOf texts files → program_strings (declarations files) ≤ bytes_of texts
strings_few [] [] are = omega arith
strings_few [] (f ∷ fs) are = absurd are
strings_few (t ∷ ts) [] are = absurd are
strings_few (t ∷ ts) (f ∷ fs) are =
    omega (arith, strings-append (placed_in f.library f.unit.decls) (declarations fs), strings-placed f.library f.unit.decls, few_strings t (decl_trees f.unit.decls) are.0, strings_few ts fs are.1)

pub literals_few : (texts : List (List ℕ)) (files : List SourceFile) (p : TProgram) → AreFilesOf texts files → WellTyped files p → length p.literals ≤ bytes_of texts
literals_few texts files p are is = omega (arith, literals_written files p is, strings_few texts files are)

pub numbers_few : (texts : List (List ℕ)) (files : List SourceFile) (p : TProgram) → AreFilesOf texts files → WellTyped files p → (length p.literals ≤ bytes_of texts) × All (λ (s : TStruct). length s.members ≤ bytes_of texts) p.structs
numbers_few texts files p are is = (literals_few texts files p are is, members_few (bytes_of texts) texts files p are (omega arith) is)

numbers_fit : (texts : List (List ℕ)) (files : List SourceFile) (p : TProgram) → AreFilesOf texts files → bytes_of texts ≤ 67108864 → WellTyped files p → NumbersFit p
numbers_fit texts files p are small is = (omega (arith, literals_few texts files p are is, small), members_few (2 ^ 32) texts files p are (omega (arith, small)) is)

pub bodies_right : (texts : List (List ℕ)) (files : List SourceFile) (p : TProgram) → AreFilesOf texts files → bytes_of texts ≤ 67108864 → WellTyped files p → All (λ (f : TFunction). AreRight (tables p f) (tstmt_trees f.body.items)) p.functions
bodies_right texts files p are small is = bodies_are_right p (right_program files p is) (numbers_fit texts files p are small is)
