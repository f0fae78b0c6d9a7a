-- How many declarations a file has.
use Rattle.std.proofs.Common.{◌≡◌, ℕ, suc, refl, ap, ◌∙◌, List, [], ◌∷◌, length}
use Rattle.std.proofs.lemmas.List.{append-nil}
use Rattle.fx_c_ast.specs.declared.parsed.Decl.{Decl}
use Rattle.fx_c_types.specs.declared.program.SourceFile.{SourceFile}
use Rattle.fx_c_types.specs.ProgramView.{placed_in, declarations}

length-placed_in : (library : ℕ) (ds : List Decl) → length (placed_in library ds) ≡ length ds
length-placed_in library [] = refl
length-placed_in library (d ∷ ds) = ap suc (length-placed_in library ds)

pub one_file : (f : SourceFile) → length (declarations (f ∷ [])) ≡ length f.unit.decls
one_file f = ap length (append-nil (placed_in f.library f.unit.decls)) ∙ length-placed_in f.library f.unit.decls
