-- Tables of names with a number each.
use Rattle.std.specs.Prelude.{ℕ, Vec, List, [], ◌∷◌, Option, Some, None, bytes_eq, if◌then◌else◌}
use Rattle.std.specs.declared.alloc.Global.{Global}

-- the number of a name: of its first declaration, if there is one
abbrev pub found : List ℕ → List (List ℕ × ℕ) → Option ℕ
found name [] = None
found name (n ∷ names) = if bytes_eq name n.0 then Some n.1 else found name names

-- the entries of a map by the bytes of their keys
abbrev pub named : List (Vec ℕ Global × ℕ) → List (List ℕ × ℕ)
named [] = []
named (n ∷ names) = (n.0.items, n.1) ∷ named names
