-- Rows put section after section: each stands there once, and in order.
use Rattle.std.proofs.Common.{◌≡◌, ◌⊎◌, ℕ, zero, suc, ◌+◌, ◌<◌, ◌≤◌, true, false, cond, nat_eq, List, [], ◌∷◌, ◌++◌, get_or, All, AllPairs, refl, sym, ap, subst, ◌∙◌, inl, inr, arith}
use Rattle.std.proofs.lemmas.Bool.{cases_Bool, eqb-true, eqb-false, ne_eqb}
use Rattle.std.proofs.lemmas.List.Elements.{All-nil, All-head, All-tail, All-append, All-filter, All-weaker, filter_passes}
use Rattle.std.proofs.lemmas.List.Kept.{AllPairs-cons, AllPairs-filter}
use Rattle.std.proofs.lemmas.List.Sorted.{IsPermutation-refl, IsPermutation-sym, IsPermutation-cons, IsPermutation-middle, IsPermutation-append_right, IsPermutation-trans}
use Rattle.std.specs.List.Sorted.{IsPermutation}
use Rattle.fx_sections_law.specs.Table.{Row, rows_in, rows_by_section}

-- a row of an earlier section is in none of these
skipped : (s count : ℕ) (x : Row) (xs : List Row) → x.section < s → rows_by_section s count (x ∷ xs) ≡ rows_by_section s count xs
skipped s zero x xs less = refl
skipped s (suc count) x xs less =
    ap (λ b. cond b (x ∷ rows_in s xs) (rows_in s xs) ++ rows_by_section (s + 1) count (x ∷ xs)) (ne_eqb x.section s (λ e. absurd (omega (arith, e))))
    ∙ ap (λ l. rows_in s xs ++ l) (skipped (s + 1) count x xs (omega arith))

-- one more row stands once among those of its section
put : (s count : ℕ) (x : Row) (xs : List Row) → s ≤ x.section → x.section < s + count → IsPermutation (x ∷ rows_by_section s count xs) (rows_by_section s count (x ∷ xs))
put s zero x xs le less = absurd (omega arith)
put s (suc count) x xs le less = by (cases_Bool (nat_eq x.section s)) (λ other. put (s + 1) count x xs (omega (arith, other)) (omega arith))
  where
    here : List Row
    here = rows_in s xs

    behind : List Row
    behind = rows_by_section (s + 1) count xs

    next : List Row
    next = rows_by_section (s + 1) count (x ∷ xs)

    by : (nat_eq x.section s ≡ true) ⊎ (nat_eq x.section s ≡ false) → (s < x.section → IsPermutation (x ∷ behind) next) → IsPermutation (x ∷ (here ++ behind)) (cond (nat_eq x.section s) (x ∷ here) here ++ next)
    by (inl same) rest =
        let is : cond (nat_eq x.section s) (x ∷ here) here ++ next ≡ x ∷ (here ++ behind) =
        ap (λ b. cond b (x ∷ here) here ++ next) same ∙ ap (λ l. (x ∷ here) ++ l) (skipped (s + 1) count x xs (omega (arith, eqb-true x.section s same))) in
        subst (λ l. IsPermutation (x ∷ (here ++ behind)) l) (sym is) (IsPermutation-refl (x ∷ (here ++ behind)))
    by (inr other) rest =
        let later : s < x.section = omega (arith, le, eqb-false x.section s other) in
        let is : cond (nat_eq x.section s) (x ∷ here) here ++ next ≡ here ++ next = ap (λ b. cond b (x ∷ here) here ++ next) other in
        let moved = IsPermutation-sym (here ++ x ∷ behind) (x ∷ (here ++ behind)) (IsPermutation-middle here x behind) in
        let put_on = IsPermutation-append_right here (x ∷ behind) next (rest later) in
        subst (λ l. IsPermutation (x ∷ (here ++ behind)) l) (sym is) (IsPermutation-trans (x ∷ (here ++ behind)) (here ++ x ∷ behind) (here ++ next) moved put_on)

none_there : (s count : ℕ) → rows_by_section s count [] ≡ []
none_there s zero = refl
none_there s (suc count) = none_there (s + 1) count

-- a row of one of so many sections, from the one of a number on
abbrev pub IsAmong : (s count : ℕ) → Row → Type 0
IsAmong s count r = (s ≤ r.section) × (r.section < s + count)

pub each_once : (s count : ℕ) (xs : List Row) → All (IsAmong s count) xs → IsPermutation xs (rows_by_section s count xs)
each_once s count [] all = subst (λ l. IsPermutation [] l) (sym (none_there s count)) (IsPermutation-refl [])
each_once s count (x ∷ xs) all =
    let head = All-head (IsAmong s count) x xs all in
    let rest = each_once s count xs (All-tail (IsAmong s count) x xs all) in
    IsPermutation-trans (x ∷ xs) (x ∷ rows_by_section s count xs) (rows_by_section s count (x ∷ xs))
    (IsPermutation-cons x xs (rows_by_section s count xs) rest) (put s count x xs head.0 head.1)

-- ---- order

pub pairs_append : (R : Row → Row → Type 0) (xs ys : List Row) → AllPairs R xs → AllPairs R ys → All (λ x. All (R x) ys) xs → AllPairs R (xs ++ ys)
pairs_append R [] ys left right across = right
pairs_append R (x ∷ xs) ys left right across =
    AllPairs-cons R x (xs ++ ys)
    (All-append (R x) xs ys (later x xs left) (All-head (λ z. All (R z) ys) x xs across))
    (pairs_append R xs ys (rest x xs left) right (All-tail (λ z. All (R z) ys) x xs across))
  where
    later : (x : Row) (xs : List Row) → AllPairs R (x ∷ xs) → All (R x) xs
    later x xs pairs k d less = pairs 0 (suc k) d (omega arith) (omega arith)

    rest : (x : Row) (xs : List Row) → AllPairs R (x ∷ xs) → AllPairs R xs
    rest x xs pairs i j d less within = pairs (suc i) (suc j) d (omega arith) (omega arith)

module _ (R : Row → Row → Type 0) (P : Row → Type 0) (across : (r t : Row) → P r → P t → r.section < t.section → R r t) where
  -- the rows of one section
  in_order : (s : ℕ) (xs : List Row) → AllPairs (λ r t. r.section ≡ t.section → R r t) xs → AllPairs R (rows_in s xs)
  in_order s xs pairs i j d less within =
      let own : All (λ (r : Row). nat_eq r.section s ≡ true) (rows_in s xs) = filter_passes (λ (r : Row). nat_eq r.section s) xs in
      let first = eqb-true (get_or (rows_in s xs) i d).section s (own i d (omega arith)) in
      let second = eqb-true (get_or (rows_in s xs) j d).section s (own j d within) in
      AllPairs-filter (λ r t. r.section ≡ t.section → R r t) (λ (r : Row). nat_eq r.section s) xs pairs i j d less within (first ∙ sym second)

  from_section : (s count : ℕ) (xs : List Row) → All (λ (r : Row). s ≤ r.section) (rows_by_section s count xs)
  from_section s zero xs = All-nil (λ (r : Row). s ≤ r.section)
  from_section s (suc count) xs =
      All-append (λ (r : Row). s ≤ r.section) (rows_in s xs) (rows_by_section (s + 1) count xs)
      (All-weaker (λ (r : Row). nat_eq r.section s ≡ true) (λ (r : Row). s ≤ r.section) (λ r e. omega (arith, eqb-true r.section s e)) (rows_in s xs) (filter_passes (λ (r : Row). nat_eq r.section s) xs))
      (All-weaker (λ (r : Row). s + 1 ≤ r.section) (λ (r : Row). s ≤ r.section) (λ r le. omega arith) (rows_by_section (s + 1) count xs) (from_section (s + 1) count xs))

  kept : (s count : ℕ) (xs : List Row) → All P xs → All P (rows_by_section s count xs)
  kept s zero xs all = All-nil P
  kept s (suc count) xs all =
      All-append P (rows_in s xs) (rows_by_section (s + 1) count xs) (All-filter (λ (r : Row). nat_eq r.section s) P xs all) (kept (s + 1) count xs all)

  pub all_in_order : (s count : ℕ) (xs : List Row) → All P xs → AllPairs (λ r t. r.section ≡ t.section → R r t) xs → AllPairs R (rows_by_section s count xs)
  all_in_order s zero xs all pairs = λ i j d less within. absurd (omega arith)
  all_in_order s (suc count) xs all pairs =
      pairs_append R (rows_in s xs) (rows_by_section (s + 1) count xs) (in_order s xs pairs) (all_in_order (s + 1) count xs all pairs)
      (λ i d less j e within.
      let r = get_or (rows_in s xs) i d in
      let t = get_or (rows_by_section (s + 1) count xs) j e in
      let own = eqb-true r.section s (filter_passes (λ (x : Row). nat_eq x.section s) xs i d less) in
      across r t (All-filter (λ (x : Row). nat_eq x.section s) P xs all i d less) (kept (s + 1) count xs all j e within)
      (omega (arith, own, from_section (s + 1) count xs j e within)))
