-- Each compartment has a private section.
use Rattle.std.proofs.Common.{◌≡◌, ℕ, zero, suc, ◌<◌, ◌≤◌, Bool, true, false, ◌&&◌, ◌||◌, nat_eq, if◌then◌else◌, List, [], ◌∷◌, ◌++◌, length, refl, sym, ap, ◌∙◌, arith}
use Rattle.std.proofs.lemmas.Bool.{eq-eqb, ne_eqb, false≢true}
use Rattle.std.proofs.lemmas.List.{length_push}
use Rattle.std.specs.List.{list_any}
use Rattle.fx_grants.specs.declared.grants.Pair.{Pair}
use Rattle.fx_grants.specs.Sets.{has_member, only}
use Rattle.fx_grants.proofs.Members.{has_member-only}
use Rattle.fx_sections.specs.Pairs.{same_pair, add_pair, add_pairs, private_pair, common_pair, private_pairs, pairs_of}
use Rattle.fx_sections_law.proofs.Differ.{any_append}

-- the sets of two compartments differ
only_differs : (c d : ℕ) → d < c → nat_eq (only c) (only d) ≡ false
only_differs c d less = ne_eqb (only c) (only d) (λ same. false≢true (sym (ne_eqb d c (λ e. absurd (omega (arith, e)))) ∙ sym (has_member-only d c) ∙ ap (λ s. has_member s c) (sym same) ∙ has_member-only c c ∙ eq-eqb c c refl))

private_differs : (c d : ℕ) → d < c → same_pair (private_pair c) (private_pair d) ≡ false
private_differs c d less = ap (λ b. b && nat_eq (only c) (only d)) (only_differs c d less)

pushed : (ps : List Pair) (p : Pair) → list_any (same_pair p) ps ≡ false → add_pair ps p ≡ ps ++ p ∷ []
pushed ps p none = ap (λ b. if b then ps else ps ++ p ∷ []) none

later_is_new : (n c : ℕ) → n ≤ c → list_any (same_pair (private_pair c)) (private_pairs n) ≡ false
later_is_new zero c le = refl
later_is_new (suc n) c le =
    ap (list_any (same_pair (private_pair c))) (pushed (private_pairs n) (private_pair n) (later_is_new n n (omega arith)))
    ∙ any_append (same_pair (private_pair c)) (private_pairs n) (private_pair n ∷ [])
    ∙ ap (λ b. b || (same_pair (private_pair c) (private_pair n) || false)) (later_is_new n c (omega arith))
    ∙ ap (λ b. b || false) (private_differs c n (omega arith))

private_count : (n : ℕ) → length (private_pairs n) ≡ n
private_count zero = refl
private_count (suc n) =
    ap length (pushed (private_pairs n) (private_pair n) (later_is_new n n (omega arith)))
    ∙ omega (arith, length_push (private_pairs n) (private_pair n), private_count n)

none_fewer : (ps : List Pair) (p : Pair) → length ps ≤ length (add_pair ps p)
none_fewer ps p = by (list_any (same_pair p) ps)
  where
    by : (b : Bool) → length ps ≤ length (if b then ps else ps ++ p ∷ [])
    by true = omega arith
    by false = omega (arith, length_push ps p)

all_there : (ps qs : List Pair) → length ps ≤ length (add_pairs ps qs)
all_there ps [] = omega arith
all_there ps (q ∷ qs) = omega (arith, none_fewer ps q, all_there (add_pair ps q) qs)

pub each_has_a_section : (n : ℕ) (globals : List Pair) → n ≤ length (pairs_of n globals)
each_has_a_section n globals =
    omega (arith, private_count n, none_fewer (private_pairs n) (common_pair n), all_there (add_pair (private_pairs n) (common_pair n)) globals)
