-- The lines of a list, one after another.
use Rattle.std.specs.Prelude.{ℕ, ◌+◌, List, [], ◌∷◌, ◌++◌}

-- Each element's line, by its number in the list; the first has number n.
abbrev pub each_line : {A : Type 0} → (ℕ → A → List ℕ) → ℕ → List A → List ℕ
each_line line n [] = []
each_line line n (x ∷ rest) = line n x ++ each_line line (n + 1) rest

-- Each element's line, whatever its number.
abbrev pub lines_of : {A : Type 0} → (A → List ℕ) → List A → List ℕ
lines_of line [] = []
lines_of line (x ∷ rest) = line x ++ lines_of line rest
