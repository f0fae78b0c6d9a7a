-- The texts of a program's files.
use Rattle.std.specs.Prelude.{ℕ, ◌+◌, List, [], ◌∷◌, length}
use Rattle.fx_c_ast.specs.ParsedTrees.{decl_trees}
use Rattle.fx_c_parse.specs.Exact.{IsTextOf}
use Rattle.fx_c_types.specs.declared.program.SourceFile.{SourceFile}

-- each file is the tree of its text
abbrev pub AreFilesOf : List (List ℕ) → List SourceFile → Type 0
AreFilesOf [] [] = Unit {0}
AreFilesOf [] (f ∷ fs) = ⊥
AreFilesOf (t ∷ ts) [] = ⊥
AreFilesOf (t ∷ ts) (f ∷ fs) = IsTextOf t (decl_trees f.unit.decls) × AreFilesOf ts fs

-- the bytes of all texts
abbrev pub bytes_of : List (List ℕ) → ℕ
bytes_of [] = 0
bytes_of (t ∷ ts) = length t + bytes_of ts
