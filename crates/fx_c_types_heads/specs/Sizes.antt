-- The layouts of types, where those of structs are known from their heads.
use Rattle.std.specs.Prelude.{ℕ, Bool, true, ◌&&◌, nat_le, ◌≤◌, List, [], ◌∷◌, slice_index_or}
use Rattle.fx_c_ast.specs.declared.layout.Layout.{Layout}
use Rattle.fx_c_ast.specs.CheckedTrees.{TyTree}
use Rattle.fx_c_ast.specs.Layout.{type_layout}
use Rattle.fx_c_types_heads.specs.Written.{has_elements}

-- the layout of a struct from a table of those known
abbrev pub known : List Layout → ℕ → Layout
known layouts n = slice_index_or layouts n (record { size = 0; align = 1 })

-- each struct known is small enough and aligned as some scalar
abbrev pub IsKnown : Layout → Type 0
IsKnown l = (l.size ≤ 67108864) × (1 ≤ l.align) × (l.align ≤ 8)

abbrev pub AreKnown : List Layout → Type 0
AreKnown layouts = (n : ℕ) → IsKnown (known layouts n)

-- at most 67,108,864 bytes
abbrev pub is_small : List Layout → TyTree → Bool
is_small layouts t = nat_le (type_layout (known layouts) t).size 67108864

abbrev pub all_have_elements : List TyTree → Bool
all_have_elements [] = true
all_have_elements (t ∷ ts) = has_elements t && all_have_elements ts
