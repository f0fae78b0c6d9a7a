-- The pairs that have a section differ, and each global's is among them.
use Rattle.std.proofs.Common.{◌≡◌, ◌⊎◌, ℕ, zero, suc, ◌<◌, Bool, true, false, ◌&&◌, ◌||◌, nat_eq, List, [], ◌∷◌, ◌++◌, length, get_or, if◌then◌else◌, refl, sym, ap, subst, ◌∙◌, inl, inr, arith}
use Rattle.std.proofs.lemmas.Bool.{cases_Bool, or_parts, eqb-true, eq-eqb, cases_lt}
use Rattle.std.proofs.lemmas.List.{get_or_append_left, get_or_push, length_push}
use Rattle.std.specs.List.{list_any}
use Rattle.fx_grants.specs.declared.grants.Pair.{Pair}
use Rattle.fx_sections.specs.Pairs.{same_pair, add_pair, add_pairs, private_pair, common_pair, private_pairs, pairs_of}

nat_eq_sym : (a b : ℕ) → nat_eq a b ≡ nat_eq b a
nat_eq_sym a b = by (cases_Bool (nat_eq a b)) (cases_Bool (nat_eq b a))
  where
    by : (nat_eq a b ≡ true) ⊎ (nat_eq a b ≡ false) → (nat_eq b a ≡ true) ⊎ (nat_eq b a ≡ false) → nat_eq a b ≡ nat_eq b a
    by (inl x) y = x ∙ sym (eq-eqb b a (sym (eqb-true a b x)))
    by (inr x) (inl y) = eq-eqb a b (sym (eqb-true b a y)) ∙ sym y
    by (inr x) (inr y) = x ∙ sym y

pub same_pair_sym : (p q : Pair) → same_pair p q ≡ same_pair q p
same_pair_sym p q = ap (λ b. b && nat_eq p.writers q.writers) (nat_eq_sym p.readers q.readers) ∙ ap (λ b. nat_eq q.readers p.readers && b) (nat_eq_sym p.writers q.writers)

-- a test that none passes fails at each
none_at : (t : Pair → Bool) (ps : List Pair) (i : ℕ) (d : Pair) → i < length ps → list_any t ps ≡ false → t (get_or ps i d) ≡ false
none_at t [] i d less none = absurd (omega arith)
none_at t (p ∷ ps) zero d less none = (or_parts (t p) (list_any t ps) none).0
none_at t (p ∷ ps) (suc i) d less none = none_at t ps i d (omega arith) (or_parts (t p) (list_any t ps) none).1

abbrev pub Distinct : List Pair → Type 0
Distinct ps = (i j : ℕ) (d e : Pair) → i < j → j < length ps → same_pair (get_or ps i d) (get_or ps j e) ≡ false

distinct_push : (ps : List Pair) (p : Pair) → list_any (same_pair p) ps ≡ false → Distinct ps → Distinct (ps ++ p ∷ [])
distinct_push ps p none has i j d e less within =
    let longer = length_push ps p in
    elim (cases_lt j (length ps)) [
      | inl inside ↦
          ap (λ q. same_pair q (get_or (ps ++ p ∷ []) j e)) (get_or_append_left ps (p ∷ []) d i (omega arith))
          ∙ ap (λ q. same_pair (get_or ps i d) q) (get_or_append_left ps (p ∷ []) e j inside)
          ∙ has i j d e less inside
      | inr last ↦
          let at : length ps ≡ j = omega arith in
          ap (λ q. same_pair q (get_or (ps ++ p ∷ []) j e)) (get_or_append_left ps (p ∷ []) d i (omega arith))
          ∙ ap (λ q. same_pair (get_or ps i d) q) (get_or_push ps p e j at)
          ∙ same_pair_sym (get_or ps i d) p
          ∙ none_at (same_pair p) ps i d (omega arith) none
    ]

distinct_add : (ps : List Pair) (p : Pair) → Distinct ps → Distinct (add_pair ps p)
distinct_add ps p has = by (list_any (same_pair p) ps) refl
  where
    by : (b : Bool) → list_any (same_pair p) ps ≡ b → Distinct (add_pair ps p)
    by true e = subst (λ c. Distinct (if c then ps else ps ++ p ∷ [])) (sym e) has
    by false e = subst (λ c. Distinct (if c then ps else ps ++ p ∷ [])) (sym e) (distinct_push ps p e has)

distinct_all : (ps qs : List Pair) → Distinct ps → Distinct (add_pairs ps qs)
distinct_all ps [] has = has
distinct_all ps (q ∷ qs) has = distinct_all (add_pair ps q) qs (distinct_add ps q has)

distinct_privates : (n : ℕ) → Distinct (private_pairs n)
distinct_privates zero i j d e less within = absurd (omega arith)
distinct_privates (suc n) i j d e less within = distinct_add (private_pairs n) (private_pair n) (distinct_privates n) i j d e less within

pub pairs_distinct : (n : ℕ) (globals : List Pair) → Distinct (pairs_of n globals)
pairs_distinct n globals = distinct_all (add_pair (private_pairs n) (common_pair n)) globals (distinct_add (private_pairs n) (common_pair n) (distinct_privates n))

-- ---- each global's pair is among them

same_itself : (p : Pair) → same_pair p p ≡ true
same_itself p = ap (λ b. b && nat_eq p.writers p.writers) (eq-eqb p.readers p.readers refl) ∙ eq-eqb p.writers p.writers refl

pub any_append : (t : Pair → Bool) (ps qs : List Pair) → list_any t (ps ++ qs) ≡ (list_any t ps || list_any t qs)
any_append t [] qs = refl
any_append t (p ∷ ps) qs = ap (λ b. t p || b) (any_append t ps qs) ∙ join (t p) (list_any t ps) (list_any t qs)
  where
    join : (a b c : Bool) → (a || (b || c)) ≡ ((a || b) || c)
    join true b c = refl
    join false b c = refl

or_false : (a : Bool) → (a || false) ≡ a
or_false true = refl
or_false false = refl

or_true : (a : Bool) → (a || true) ≡ true
or_true true = refl
or_true false = refl

added : (ps : List Pair) (p : Pair) → list_any (same_pair p) (add_pair ps p) ≡ true
added ps p = by (list_any (same_pair p) ps) refl
  where
    by : (b : Bool) → list_any (same_pair p) ps ≡ b → list_any (same_pair p) (add_pair ps p) ≡ true
    by true e = ap (λ c. list_any (same_pair p) (if c then ps else ps ++ p ∷ [])) e ∙ e
    by false e =
        ap (λ c. list_any (same_pair p) (if c then ps else ps ++ p ∷ [])) e
        ∙ any_append (same_pair p) ps (p ∷ []) ∙ ap (λ c. list_any (same_pair p) ps || (c || false)) (same_itself p) ∙ or_true (list_any (same_pair p) ps)

kept : (t : Pair → Bool) (ps : List Pair) (p : Pair) → list_any t ps ≡ true → list_any t (add_pair ps p) ≡ true
kept t ps p has = by (list_any (same_pair p) ps) refl
  where
    by : (b : Bool) → list_any (same_pair p) ps ≡ b → list_any t (add_pair ps p) ≡ true
    by true e = ap (λ c. list_any t (if c then ps else ps ++ p ∷ [])) e ∙ has
    by false e = ap (λ c. list_any t (if c then ps else ps ++ p ∷ [])) e ∙ any_append t ps (p ∷ []) ∙ ap (λ c. c || (t p || false)) has

all_kept : (t : Pair → Bool) (ps qs : List Pair) → list_any t ps ≡ true → list_any t (add_pairs ps qs) ≡ true
all_kept t ps [] has = has
all_kept t ps (q ∷ qs) has = all_kept t (add_pair ps q) qs (kept t ps q has)

among : (ps qs : List Pair) (i : ℕ) (d : Pair) → i < length qs → list_any (same_pair (get_or qs i d)) (add_pairs ps qs) ≡ true
among ps [] i d less = absurd (omega arith)
among ps (q ∷ qs) zero d less = all_kept (same_pair q) (add_pair ps q) qs (added ps q)
among ps (q ∷ qs) (suc i) d less = among (add_pair ps q) qs i d (omega arith)

pub pair_is_among : (n : ℕ) (globals : List Pair) (i : ℕ) (d : Pair) → i < length globals → list_any (same_pair (get_or globals i d)) (pairs_of n globals) ≡ true
pair_is_among n globals i d less = among (add_pair (private_pairs n) (common_pair n)) globals i d less
