-- Schedules.
use Rattle.std.specs.Prelude.{ℕ, zero, suc, ◌%◌, ◌<◌, ◌≡◌, ◌⊎◌, List, [], ◌∷◌, ◌++◌}

-- Processor i of v is named.
abbrev pub Names : ℕ → ℕ → List ℕ → Type 0
Names v i [] = ⊥
Names v i (u ∷ us) = (u % v ≡ i) ⊎ Names v i us

-- A round names each processor at least once, modulo their number.
abbrev pub IsRound : ℕ → List ℕ → Type 0
IsRound v us = (i : ℕ) → i < v → Names v i us

-- So many rounds, one after the other.
abbrev pub HasRounds : ℕ → ℕ → List ℕ → Type 0
HasRounds v zero us = Unit {0}
HasRounds v (suc r) us = (first : List ℕ) × (rest : List ℕ) × (us ≡ first ++ rest) × IsRound v first × HasRounds v r rest
