-- A table of the layouts of a program's structs.
use Rattle.std.specs.Prelude.{ℕ, ◌+◌, List, [], ◌∷◌, slice_index_or}
use Rattle.fx_c_ast.specs.declared.layout.Layout.{Layout}
use Rattle.fx_c_ast.specs.CheckedTrees.{TyTree}
use Rattle.fx_c_ast.specs.Layout.{known_layouts}

-- the layouts of structs from a number on
abbrev pub table_from : List (List TyTree) → ℕ → List (List TyTree) → List Layout
table_from all n [] = []
table_from all n (s ∷ ss) = known_layouts all n ∷ table_from all (n + 1) ss

abbrev pub table_of : List (List TyTree) → List Layout
table_of all = table_from all 0 all

-- the layout at a number; nothing stands past the end
abbrev pub looked_up : List Layout → ℕ → Layout
looked_up table n = slice_index_or table n (record { size = 0; align = 1 })
