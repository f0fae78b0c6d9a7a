-- How many pairs have a section.
use Rattle.std.proofs.Common.{◌≡◌, ℕ, zero, suc, ◌+◌, ◌<◌, ◌≤◌, Bool, true, false, if◌then◌else◌, List, [], ◌∷◌, ◌++◌, length, refl, arith}
use Rattle.std.proofs.lemmas.List.{length_push}
use Rattle.std.proofs.lemmas.Bool.{false≢true}
use Rattle.std.specs.List.{list_any}
use Rattle.fx_grants.specs.declared.grants.Pair.{Pair}
use Rattle.fx_sections.specs.Pairs.{same_pair, add_pair, add_pairs, private_pair, common_pair, private_pairs, pairs_of}

added : (b : Bool) (ps : List Pair) (p : Pair) → (length (if b then ps else ps ++ p ∷ []) ≤ length ps + 1) × (length ps ≤ length (if b then ps else ps ++ p ∷ []))
added true ps p = (omega arith, omega arith)
added false ps p = let longer = length_push ps p in (omega arith, omega arith)

all_added : (ps qs : List Pair) → (length (add_pairs ps qs) ≤ length ps + length qs) × (length ps ≤ length (add_pairs ps qs))
all_added ps [] = (omega arith, omega arith)
all_added ps (q ∷ qs) =
    let one = added (list_any (same_pair q) ps) ps q in
    let rest = all_added (add_pair ps q) qs in
    (omega arith, omega arith)

privates : (n : ℕ) → length (private_pairs n) ≤ n
privates zero = omega arith
privates (suc n) = omega (arith, privates n, (added (list_any (same_pair (private_pair n)) (private_pairs n)) (private_pairs n) (private_pair n)).0)

some_added : (b : Bool) (ps : List Pair) (p : Pair) → (b ≡ true → 0 < length ps) → 0 < length (if b then ps else ps ++ p ∷ [])
some_added true ps p some = some refl
some_added false ps p some = let longer = length_push ps p in omega arith

any_some : (t : Pair → Bool) (ps : List Pair) → list_any t ps ≡ true → 0 < length ps
any_some t [] h = absurd (false≢true h)
any_some t (p ∷ ps) h = omega arith

pub pairs_some : (n : ℕ) (globals : List Pair) → 0 < length (pairs_of n globals)
pairs_some n globals =
    let common = some_added (list_any (same_pair (common_pair n)) (private_pairs n)) (private_pairs n) (common_pair n) (any_some (same_pair (common_pair n)) (private_pairs n)) in
    omega (arith, (all_added (add_pair (private_pairs n) (common_pair n)) globals).1)

pub pairs_few : (n : ℕ) (globals : List Pair) → length (pairs_of n globals) ≤ n + 1 + length globals
pairs_few n globals =
    let common = added (list_any (same_pair (common_pair n)) (private_pairs n)) (private_pairs n) (common_pair n) in
    omega (arith, (all_added (add_pair (private_pairs n) (common_pair n)) globals).0, privates n, common.0)
