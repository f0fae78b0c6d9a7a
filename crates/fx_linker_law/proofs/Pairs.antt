-- Which pairs have a section, and in which order.
use Rattle.std.proofs.Common.{◌≡◌, ℕ, suc, ◌+◌, ◌<◌, ◌≤◌, Bool, true, false, ◌&&◌, not, ◌==◌, nat_lt, nat_le, List, [], ◌∷◌, ◌++◌, length, get_or, if◌then◌else◌, refl, sym, ap, ◌∙◌, arith}
use Rattle.std.specs.Prelude.{cond}
use Rattle.std.specs.List.{list_all, list_any}
use Rattle.std.proofs.lemmas.Bool.{and_from, and_parts, and_right, or_from, not_from_false, cond-false, cond_both, agree_below_at, lt-ltb, le-ltb, ne_eqb, leb-true}
use Rattle.std.proofs.lemmas.List.Folds.{list_all-append}
use Rattle.std.proofs.lemmas.List.{length-append}
use Rattle.fx_grants.specs.declared.grants.Pair.{Pair}
use Rattle.fx_image.specs.declared.forms.Section.{Section}
use Rattle.fx_image.specs.Rules as image
use Rattle.fx_sections.specs.Pairs.{same_pair, add_pair, add_pairs, common_pair, private_pairs, pairs_of}
use Rattle.fx_sections_law.proofs.Differ.{Distinct}

-- a section of a pair, wherever it lies
abbrev pub of_pair : Pair → Section
of_pair p = record { readers = p.readers; writers = p.writers; key = 0; page = 0; pages = 0 }

abbrev pub is_good : ℕ → Pair → Bool
is_good n p = image.is_pair 2 n (of_pair p)

abbrev pub leads : (n k : ℕ) → Pair → Bool
leads n k p = image.leads n k (of_pair p)

-- the pairs before those of the globals
abbrev front : ℕ → List Pair
front n = add_pair (private_pairs n) (common_pair n)

abbrev fits : ℕ → Bool
fits n =
    if nat_lt 0 n then list_all (is_good n) (front n) && image.all_numbered (leads n) 0 (front n) && nat_le (image.leading n) (length (front n))
    else true

abbrev always : ℕ → Bool
always n = true

front_fits : (n : ℕ) → n ≤ 16 → fits n ≡ true
front_fits n few = agree_below_at fits always 17 n refl (omega arith)

abbrev Fits : ℕ → List Pair → Type 0
Fits n ps = (list_all (is_good n) ps ≡ true) × (image.all_numbered (leads n) 0 ps ≡ true) × (image.leading n ≤ length ps)

front_is : (n : ℕ) → 0 < n → n ≤ 16 → Fits n (front n)
front_is n some few =
    let all : (list_all (is_good n) (front n) && image.all_numbered (leads n) 0 (front n) && nat_le (image.leading n) (length (front n))) ≡ true =
    sym (ap (λ b. if b then list_all (is_good n) (front n) && image.all_numbered (leads n) 0 (front n) && nat_le (image.leading n) (length (front n)) else true) (lt-ltb 0 n some)) ∙ front_fits n few in
    let outer = and_parts (list_all (is_good n) (front n) && image.all_numbered (leads n) 0 (front n)) (nat_le (image.leading n) (length (front n))) all in
    let inner = and_parts (list_all (is_good n) (front n)) (image.all_numbered (leads n) 0 (front n)) outer.0 in
    (inner.0, inner.1, leb-true (image.leading n) (length (front n)) outer.1)

-- ---- one more pair

numbered_append : (test : ℕ → Pair → Bool) (k : ℕ) (ps : List Pair) (q : Pair) → image.all_numbered test k ps ≡ true → test (k + length ps) q ≡ true → image.all_numbered test k (ps ++ q ∷ []) ≡ true
numbered_append test k [] q has is =
    let e : k + 0 ≡ k = omega arith in
    and_from (test k q) true (sym (ap (λ j. test j q) e) ∙ is) refl
numbered_append test k (p ∷ ps) q has is =
    let parts = and_parts (test k p) (image.all_numbered test (k + 1) ps) has in
    let e : k + suc (length ps) ≡ k + 1 + length ps = omega arith in
    and_from (test k p) (image.all_numbered test (k + 1) (ps ++ q ∷ [])) parts.0
    (numbered_append test (k + 1) ps q parts.1 (sym (ap (λ j. test j q) e) ∙ is))

-- behind the first ones a pair may be any
free_by : (n k : ℕ) (q : Pair) (many : Bool) → nat_lt 1 n ≡ many → cond many (n + 1) n ≤ k → leads n k q ≡ true
free_by n k q true m behind = rw (le-ltb k n (omega arith), ne_eqb k n (λ e. omega (arith, e))) refl
free_by n k q false m behind = rw (le-ltb k n behind) (cond-false (k == n && nat_lt 1 n) _ true (and_right (k == n) (nat_lt 1 n) m))

free : (n k : ℕ) (q : Pair) → image.leading n ≤ k → leads n k q ≡ true
free n k q behind = free_by n k q (nat_lt 1 n) refl behind

pushed : (n : ℕ) (ps : List Pair) (q : Pair) → is_good n q ≡ true → Fits n ps → Fits n (ps ++ q ∷ [])
pushed n ps q good has =
    let longer : length (ps ++ q ∷ []) ≡ length ps + 1 = length-append ps (q ∷ []) in
    let zero_first : 0 + length ps ≡ length ps = omega arith in (
      list_all-append (is_good n) ps (q ∷ []) ∙ and_from (list_all (is_good n) ps) (is_good n q && true) has.0 (and_from (is_good n q) true good refl),
      numbered_append (leads n) 0 ps q has.1 (ap (λ j. leads n j q) zero_first ∙ free n (length ps) q has.2),
      omega (arith, has.2, longer),
    )

added : (n : ℕ) (ps : List Pair) (q : Pair) → is_good n q ≡ true → Fits n ps → Fits n (add_pair ps q)
added n ps q good has = cond_both (list_any (same_pair q) ps) ps (ps ++ q ∷ []) (Fits n) (λ _. has) (λ _. pushed n ps q good has)

all_added : (n : ℕ) (ps qs : List Pair) → list_all (is_good n) qs ≡ true → Fits n ps → Fits n (add_pairs ps qs)
all_added n ps [] good has = has
all_added n ps (q ∷ qs) good has =
    let parts = and_parts (is_good n q) (list_all (is_good n) qs) good in
    all_added n (add_pair ps q) qs parts.1 (added n ps q parts.0 has)

pub pairs_fit : (n : ℕ) (globals : List Pair) → 0 < n → n ≤ 16 → list_all (is_good n) globals ≡ true → Fits n (pairs_of n globals)
pairs_fit n globals some few good = all_added n (front n) globals good (front_is n some few)

-- ---- no pair stands twice

none : (p : Pair) (ps : List Pair) → ((j : ℕ) (e : Pair) → j < length ps → same_pair p (get_or ps j e) ≡ false) → list_any (same_pair p) ps ≡ false
none p [] each = refl
none p (q ∷ qs) each = or_from (same_pair p q) (list_any (same_pair p) qs) (each 0 q (omega arith)) (none p qs (λ j e less. each (suc j) e (omega arith)))

pub distinct : (ps : List Pair) → Distinct ps → image.is_distinct_by same_pair ps ≡ true
distinct [] each = refl
distinct (p ∷ ps) each =
    and_from (not (list_any (same_pair p) ps)) (image.is_distinct_by same_pair ps)
    (not_from_false (list_any (same_pair p) ps) (none p ps (λ j e less. each 0 (suc j) p e (omega arith) (omega arith))))
    (distinct ps (λ i j d e less within. each (suc i) (suc j) d e (omega arith) (omega arith)))
