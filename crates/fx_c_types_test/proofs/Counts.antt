-- How many declarations files have.
use Rattle.std.proofs.Common.{◌≡◌, ℕ, suc, ◌+◌, ◌<◌, refl, ap, ◌∙◌, List, [], ◌∷◌, length, drop, get_or, length-append}
use Rattle.fx_c_ast.specs.declared.parsed.Decl.{Decl}
use Rattle.fx_c_types.specs.declared.program.SourceFile.{SourceFile}
use Rattle.fx_c_types.specs.ProgramView.{placed_in, declarations}
use Rattle.fx_c_types.proofs.Lists.{split}

length-placed_in : (library : ℕ) (ds : List Decl) → length (placed_in library ds) ≡ length ds
length-placed_in library [] = refl
length-placed_in library (d ∷ ds) = ap suc (length-placed_in library ds)

-- the declarations of a file, and those of the files behind it
pub next_file : (fs : List SourceFile) (i : ℕ) (f : SourceFile) → i < length fs → f ≡ get_or fs i f → length (declarations (drop i fs)) ≡ length f.unit.decls + length (declarations (drop (i + 1) fs))
next_file fs i f less is =
    ap (λ gs. length (declarations gs)) (split fs i f less is)
    ∙ length-append (placed_in f.library f.unit.decls) (declarations (drop (i + 1) fs))
    ∙ ap (λ n. n + length (declarations (drop (i + 1) fs))) (length-placed_in f.library f.unit.decls)
