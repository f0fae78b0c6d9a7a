-- Sets of compartments as numbers: bit c is set where compartment c is in the set.
use Rattle.std.specs.Prelude.{ℕ, ◌+◌, ◌-◌, ◌^◌, Bool, ◌==◌, List, [], ◌∷◌, bit_or}
use Rattle.std.specs.Int.{bit_at}

abbrev pub has_member : ℕ → ℕ → Bool
has_member set c = bit_at set c == 1

-- the set with one more member
abbrev pub with_member : ℕ → ℕ → ℕ
with_member set c = bit_or set (2 ^ c)

-- the set with these members too
abbrev pub with_members : ℕ → List ℕ → ℕ
with_members set [] = set
with_members set (c ∷ cs) = with_members (with_member set c) cs

-- the set of one compartment
abbrev pub only : ℕ → ℕ
only c = with_member 0 c

-- the set of all of n compartments
abbrev pub all_of : ℕ → ℕ
all_of n = 2 ^ n - 1
