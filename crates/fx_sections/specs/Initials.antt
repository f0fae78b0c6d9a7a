-- The initial bytes of a global as an image has them: its value without the zeros at its end.
use Rattle.std.specs.Prelude.{ℕ, ◌+◌, ◌==◌, List, [], ◌∷◌, length, take, if◌then◌else◌}
use Rattle.std.specs.Int.{w64, to_le_bytes}
use Rattle.fx_c_ast.specs.declared.parsed.Init.{Init}
use Rattle.fx_c_ast.specs.declared.parsed.Init.TheVariants.{Zero, Number, Text}

-- a byte before bytes, where zeros at the end are left out
abbrev pub before_used : ℕ → List ℕ → List ℕ
before_used b [] = if b == 0 then [] else b ∷ []
before_used b (c ∷ cs) = b ∷ c ∷ cs

-- bytes without the zeros at their end
abbrev pub used_bytes : List ℕ → List ℕ
used_bytes [] = []
used_bytes (b ∷ bs) = before_used b (used_bytes bs)

-- the initial bytes of a global of so many bytes: a number is cut to its type, and a text is followed
-- by zeros
abbrev pub initial_bytes : ℕ → Init → List ℕ
initial_bytes size Zero = []
initial_bytes size (Number value) = used_bytes (take size (to_le_bytes w64 value))
initial_bytes size (Text bytes) = used_bytes bytes
