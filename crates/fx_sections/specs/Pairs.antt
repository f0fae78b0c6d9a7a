-- The pairs of readers and writers that have a section, in their order.
use Rattle.std.specs.Prelude.{ℕ, zero, suc, Bool, true, false, ◌&&◌, ◌==◌, List, [], ◌∷◌, ◌++◌, Option, unwrap_or, position, if◌then◌else◌}
use Rattle.std.specs.List.{list_any}
use Rattle.fx_config.specs.declared.configuration.Mechanism.{Mechanism}
use Rattle.fx_config.specs.declared.configuration.Mechanism.TheVariants.{Call, Light, Full, Ept}
use Rattle.fx_grants.specs.declared.grants.Pair.{Pair}
use Rattle.fx_grants.specs.Sets.{only, all_of}

abbrev pub same_pair : Pair → Pair → Bool
same_pair p q = p.readers == q.readers && p.writers == q.writers

-- the pairs with one more, where it is not among them
abbrev pub add_pair : List Pair → Pair → List Pair
add_pair ps p = if list_any (same_pair p) ps then ps else ps ++ p ∷ []

abbrev pub add_pairs : List Pair → List Pair → List Pair
add_pairs ps [] = ps
add_pairs ps (q ∷ qs) = add_pairs (add_pair ps q) qs

-- the set of one compartment twice
abbrev pub private_pair : ℕ → Pair
private_pair c = record { readers = only c; writers = only c }

-- the set of all of n compartments twice
abbrev pub common_pair : ℕ → Pair
common_pair n = record { readers = all_of n; writers = all_of n }

abbrev pub private_pairs : ℕ → List Pair
private_pairs zero = []
private_pairs (suc n) = add_pair (private_pairs n) (private_pair n)

-- For each compartment in order the pair of its private set, the pair of the set of all compartments,
-- then other pairs by first appearance among the globals. Equal pairs count once.
abbrev pub pairs_of : ℕ → List Pair → List Pair
pairs_of n globals = add_pairs (add_pair (private_pairs n) (common_pair n)) globals

-- the number of the section of a pair
abbrev pub section_of : List Pair → Pair → ℕ
section_of pairs p = unwrap_or (position (same_pair p) pairs) 0

-- whether gates between compartments go by protection keys
abbrev pub is_keyed : Mechanism → Bool
is_keyed Call = false
is_keyed Light = true
is_keyed Full = true
is_keyed Ept = false
