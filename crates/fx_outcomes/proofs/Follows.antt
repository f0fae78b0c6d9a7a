-- A machine that follows a source step by step, whatever the schedule, keeps to it.
use Rattle.std.proofs.Common.{◌≡◌, ℕ, zero, suc, ◌+◌, ◌-◌, ◌*◌, ◌%◌, ◌<◌, ◌≤◌, ◌⊎◌, inl, inr, List, [], ◌∷◌, ◌++◌, length, take, Some, refl, sym, ap, ◌∙◌, subst, arith, append_assoc}
use Rattle.std.proofs.lemmas.List.{take-append-le}
use Rattle.std.proofs.lemmas.Bool.Decides.{eqb_tells}
use Rattle.fx_outcomes.specs.Runs.{Next, Goes, Stops, Outcome, nothing, before, act, within, expected, run}
use Rattle.fx_outcomes.specs.Many.{then_next}
use Rattle.fx_outcomes.specs.Rounds.{Names, HasRounds}
use Rattle.fx_outcomes.specs.Keeping.{IsPrefix, Lost, Alike, Keeps}

pub rounds_kept : (v r u : ℕ) (s : List ℕ) → HasRounds v r s → HasRounds v r (u ∷ s)
rounds_kept v zero u s h = tt
rounds_kept v (suc r) u s (first, rest, e, a, b) = (u ∷ first, rest, ap (λ l. u ∷ l) e, (λ i lt. inr (a i lt)), b)

rounds_behind : (v r : ℕ) (first rest : List ℕ) → HasRounds v r rest → HasRounds v r (first ++ rest)
rounds_behind v r [] rest h = h
rounds_behind v r (u ∷ us) rest h = rounds_kept v r u (us ++ rest) (rounds_behind v r us rest h)

-- i is named, and r - 1 rounds come behind that
abbrev Due : ℕ → ℕ → ℕ → List ℕ → Type 0
Due v i zero us = Unit {0}
Due v i (suc r) [] = ⊥
Due v i (suc r) (u ∷ us) = ((u % v ≡ i) × HasRounds v r us) ⊎ Due v i (suc r) us

due_in : (v i r : ℕ) (first rest : List ℕ) → Names v i first → HasRounds v r rest → Due v i (suc r) (first ++ rest)
due_in v i r [] rest n h = absurd n
due_in v i r (u ∷ us) rest (inl e) h = inl (e, rounds_behind v r us rest h)
due_in v i r (u ∷ us) rest (inr n) h = inr (due_in v i r us rest n h)

due : (v i r : ℕ) (us : List ℕ) → i < v → HasRounds v r us → Due v i r us
due v i zero us lt h = tt
due v i (suc r) us lt (first, rest, e, a, b) = subst (Due v i (suc r)) (sym e) (due_in v i r first rest (a i lt) b)

due_rounds : (v i r u : ℕ) (us : List ℕ) → Due v i (suc r) (u ∷ us) → HasRounds v r us
due_rounds v i r u us (inl (e, h)) = h
due_rounds v i r u [] (inr h) = absurd h
due_rounds v i r u (w ∷ us) (inr h) = rounds_kept v r w us (due_rounds v i r w us h)

due_later : (v i r u : ℕ) (us : List ℕ) → (u % v ≡ i → ⊥) → Due v i (suc r) (u ∷ us) → Due v i (suc r) us
due_later v i r u us ne (inl (e, h)) = absurd (ne e)
due_later v i r u us ne (inr h) = h

-- the simulation: Rel v s m, processor v acts next, and the source is at s;
-- Doing v i a m, processor v acts next, and within i turns of those that act next a is done
pub record Follows (O S E M T : Type 0) (Undefined : E → Type 0) (Same : E → T → Type 0) (step : S → Next O S E) (extra : S → ℕ) (turn : ℕ → M → Next O M T) (v : ℕ)
    (Rel : ℕ → S → M → Type 0) (Doing : ℕ → ℕ → Next O S E → M → Type 0) : Type 0 where
  pub begins : (c : ℕ) (s : S) (m : M) → Rel c s m → ((e : E) × (step s ≡ Stops [] e) × Undefined e) ⊎ ((n : ℕ) × (suc n ≤ 256 * (extra s + 1)) × Doing c (suc n) (step s) m)
  pub named : (c i : ℕ) (a : Next O S E) (m : M) → Doing c i a m → c < v
  pub done : (c : ℕ) (a : Next O S E) (m : M) → Doing c zero a m → (s : S) × (a ≡ Goes [] s) × Rel c s m
  pub own : (c i : ℕ) (a : Next O S E) (m : M) → Doing c (suc i) a m →
      ((o : List O) × (n : M) × (rest : Next O S E) × (d : ℕ) × (j : ℕ) × (turn c m ≡ Goes o n) × (a ≡ then_next o rest) × (j ≤ i) × Doing d j rest n)
      ⊎ ((o : List O) × (e : E) × (t : T) × (turn c m ≡ Stops o t) × (a ≡ Stops o e) × Same e t)
  pub others : (c i u : ℕ) (a : Next O S E) (m : M) → Doing c (suc i) a m → (u % v ≡ c → ⊥) → (n : M) × (turn (u % v) m ≡ Goes [] n) × Doing c (suc i) a n

pub same_number : (a b : ℕ) → (a ≡ b) ⊎ (a ≡ b → ⊥)
same_number a b = elim (eqb_tells a b) [ inl h ↦ inl h.1 | inr h ↦ inr h.1 ]

pub nat_split : (a b : ℕ) → (a ≤ b) ⊎ ((k : ℕ) × (a ≡ b + 1 + k))
nat_split a b = elim (same_number (a - b) 0) [ inl e ↦ inl (omega arith) | inr ne ↦ inr (a - (b + 1), omega arith) ]

some_same : {T : Type 0} (a b : T) → Some a ≡ Some b → a ≡ b
some_same a b e = cc

pub append_nil : {O : Type 0} (xs : List O) → xs ++ [] ≡ xs
append_nil [] = refl
append_nil (x ∷ xs) = ap (λ l. x ∷ l) (append_nil xs)

module _ (O S E M T : Type 0) (Undefined : E → Type 0) (Same : E → T → Type 0) (step : S → Next O S E) (extra : S → ℕ) (turn : ℕ → M → Next O M T) (v : ℕ)
    (Rel : ℕ → S → M → Type 0) (Doing : ℕ → ℕ → Next O S E → M → Type 0) (f : Follows O S E M T Undefined Same step extra turn v Rel Doing) where
  abbrev source : ℕ → S → Outcome O E
  source k s = expected step extra k s

  abbrev target : List ℕ → M → Outcome O T
  target us m = run turn v us m

  -- a budget that reaches past the next step
  reached : (w k : ℕ) (s : S) → within step extra (w + 1 + k) w s ≡ act (step s) (λ t. source k t)
  reached zero k s = let e : 0 + 1 + k ≡ suc k = omega arith in ap (λ n. within step extra n 0 s) e
  reached (suc w) k s = let e : suc w + 1 + k ≡ suc (w + 1 + k) = omega arith in ap (λ n. within step extra n (suc w) s) e ∙ reached w k s

  short : (w k : ℕ) (s : S) → k ≤ w → within step extra k w s ≡ nothing
  short w zero s le = refl
  short zero (suc k) s le = absurd (omega arith)
  short (suc w) (suc k) s le = short w k s (omega arith)

  -- the machine made no more than the source, and stopped as it ended
  abbrev Fits : Outcome O T → Outcome O E → Type 0
  Fits r x = (Lost Undefined x.finish × IsPrefix x.made r.made) ⊎ (IsPrefix r.made x.made × ((t : T) → r.finish ≡ Some t → Alike Same x r))

  fits_before : (o : List O) (r : Outcome O T) (x : Outcome O E) → Fits r x → Fits (before o r) (before o x)
  fits_before o r x (inl (l, (more, e))) = inl (l, (more, ap (λ z. o ++ z) e ∙ sym (append_assoc o x.made more)))
  fits_before o r x (inr ((more, e), h)) = inr ((more, ap (λ z. o ++ z) e ∙ sym (append_assoc o r.made more)), λ t q. let z = h t q in (ap (λ y. o ++ y) z.0, z.1, z.2, z.3, z.4, z.5))

  act_then : (o : List O) (a : Next O S E) (go : S → Outcome O E) → act (then_next o a) go ≡ before o (act a go)
  act_then o (Goes p s) go = ap (λ (l : List O). let x : Outcome O E = record { made = l; finish = (go s).finish } in x) (append_assoc o p (go s).made)
  act_then o (Stops p e) go = refl

  -- a turn of the one that acts next, and of another
  abbrev Went : ℕ → List ℕ → ℕ → ℕ → Next O S E → M → Type 0
  Went u us c i a m = (o : List O) × (n : M) × (rest : Next O S E) × (d : ℕ) × (j : ℕ) × (target (u ∷ us) m ≡ before o (target us n)) × ((go : S → Outcome O E) → act a go ≡ before o (act rest go)) × (j ≤ i) × Doing d j rest n

  abbrev Ended : ℕ → List ℕ → Next O S E → M → Type 0
  Ended u us a m = (o : List O) × (e : E) × (t : T) × (target (u ∷ us) m ≡ record { made = o; finish = Some t }) × ((go : S → Outcome O E) → act a go ≡ record { made = o; finish = Some e }) × Same e t

  own_turn : (u : ℕ) (us : List ℕ) (c i : ℕ) (a : Next O S E) (m : M) → Doing c (suc i) a m → u % v ≡ c → Went u us c i a m ⊎ Ended u us a m
  own_turn u us c i a m d e = elim (f.own c i a m d) [
    | inl (o, n, rest, c2, j, go, is, le, d2) ↦
        inl (o, n, rest, c2, j, ap (λ (x : Next O M T). act x (λ y. target us y)) (ap (λ w. turn w m) e ∙ go), (λ next. ap (λ x. act x next) is ∙ act_then o rest next), le, d2)
    | inr (o, e2, t, go, is, same) ↦
        inr (o, e2, t, ap (λ (x : Next O M T). act x (λ y. target us y)) (ap (λ w. turn w m) e ∙ go), (λ next. ap (λ x. act x next) is), same)
  ]

  other_turn : (u : ℕ) (us : List ℕ) (c i : ℕ) (a : Next O S E) (m : M) → Doing c (suc i) a m → (u % v ≡ c → ⊥) → (n : M) × (target (u ∷ us) m ≡ target us n) × Doing c (suc i) a n
  other_turn u us c i a m d ne = let (n, go, d2) = f.others c i u a m d ne in (n, ap (λ (x : Next O M T). act x (λ y. target us y)) go, d2)

  -- prefix and stops
  abbrev Safe : List ℕ → Type 0
  Safe us = (c i : ℕ) (a : Next O S E) (m : M) → Doing c i a m → (k : ℕ) × Fits (target us m) (act a (λ t. source k t))

  -- a turn within a step
  safe_within : (u : ℕ) (us : List ℕ) → Safe us → (c i : ℕ) (a : Next O S E) (m : M) → Doing c (suc i) a m → (k : ℕ) × Fits (target (u ∷ us) m) (act a (λ t. source k t))
  safe_within u us ih c i a m d = elim (same_number (u % v) c) [
    | inl e ↦ elim (own_turn u us c i a m d e) [
      | inl (o, n, rest, c2, j, y, x, le, d2) ↦
          let (k, h) = ih c2 j rest n d2 in
          (k, rw (y, x) (fits_before o (target us n) (act rest (λ t. source k t)) h))
      | inr (o, e2, t, y, x, same) ↦
          (0, rw (y, x) (inr (([], sym (append_nil o)), λ t2 q. (refl, e2, t2, refl, q, subst (Same e2) (some_same t t2 q) same))))
    ]
    | inr ne ↦ let (n, y, d2) = other_turn u us c i a m d ne in
        let (k, h) = ih c (suc i) a n d2 in
        (k, rw y h)
  ]

  abbrev start_cost : S → ℕ
  start_cost s = extra s + 1

  -- from the start of a step
  safe_at : (u : ℕ) (us : List ℕ) → Safe us → (c : ℕ) (s : S) (m : M) → Rel c s m → (k : ℕ) × Fits (target (u ∷ us) m) (source k s)
  safe_at u us ih c s m r = elim (f.begins c s m r) [
    | inl (e, is, un) ↦
        (start_cost s + 0, rw (reached (extra s) 0 s, is) (inl ((e, refl, un), ((target (u ∷ us) m).made, refl))))
    | inr (n, le, d) ↦
        let (k, h) = safe_within u us ih c n (step s) m d in
        (start_cost s + k, rw (reached (extra s) k s) h)
  ]

  nothing_left : (s : S) (a : Next O S E) (r : Outcome O T) → a ≡ Goes [] s → (k : ℕ) × Fits r (source k s) → (k : ℕ) × Fits r (act a (λ t. source k t))
  nothing_left s a r is (k, h) = (k, rw is h)

  safe : (us : List ℕ) → Safe us
  safe [] c i a m d = (0, inr (((act a (λ t. source 0 t)).made, refl), λ t q. cc))
  safe (u ∷ us) c zero a m d = let (s, is, r) = f.done c a m d in
      nothing_left s a _ is (safe_at u us (safe us) c s m r)
  safe (u ∷ us) c (suc i) a m d = safe_within u us (safe us) c i a m d

  pub safe_all : (us : List ℕ) (c : ℕ) (s : S) (m : M) → Rel c s m → (k : ℕ) × Fits (target us m) (source k s)
  safe_all [] c s m r = (0, inr ((_, refl), λ t q. cc))
  safe_all (u ∷ us) c s m r = safe_at u us (safe us) c s m r

  -- rounds
  abbrev Reaches : Outcome O E → Outcome O T → Type 0
  Reaches x r = IsPrefix x.made r.made × ((e : E) → x.finish ≡ Some e → Undefined e ⊎ Alike Same x r)

  reaches_nothing : (r : Outcome O T) → Reaches nothing r
  reaches_nothing r = ((r.made, refl), λ e q. cc)

  reaches_before : (o : List O) (x : Outcome O E) (r : Outcome O T) → Reaches x r → Reaches (before o x) (before o r)
  reaches_before o x r ((more, e), h) = (
    (more, ap (λ z. o ++ z) e ∙ sym (append_assoc o x.made more)),
    λ e2 q. elim (h e2 q) [
      | inl un ↦ inl un
      | inr z ↦ inr (ap (λ y. o ++ y) z.0, z.1, z.2, z.3, z.4, z.5)
    ],
  )

  -- where processor c is due, and where rounds are left
  abbrev Near : List ℕ → Type 0
  Near us = (r c i k : ℕ) (a : Next O S E) (m : M) → suc i + 256 * k ≤ suc r → Due v c (suc r) us → Doing c (suc i) a m → Reaches (act a (λ t. source k t)) (target us m)

  abbrev Far : List ℕ → Type 0
  Far us = (r c i k : ℕ) (a : Next O S E) (m : M) → i + 256 * k ≤ r → HasRounds v r us → Doing c i a m → Reaches (act a (λ t. source k t)) (target us m)

  far_at : (us : List ℕ) → Near us → (r c k : ℕ) (s : S) (m : M) → 256 * k ≤ r → HasRounds v r us → Rel c s m → Reaches (source k s) (target us m)
  far_at us near r c k s m le h rel = elim (nat_split k (extra s)) [
    | inl lt ↦ rw (short (extra s) k s lt) (reaches_nothing (target us m))
    | inr (k2, e) ↦ rw (e, reached (extra s) k2 s) (elim (f.begins c s m rel) [
      | inl (e2, is, un) ↦ rw is (((target us m).made, refl), λ e3 q. inl (subst Undefined (some_same e2 e3 q) un))
      | inr (n, le2, d) ↦ far_step us near r c n k2 (step s) m (omega arith) h d
    ])
  ]
    where
      far_step : (us : List ℕ) → Near us → (r c n k : ℕ) (a : Next O S E) (m : M) → suc n + 256 * k ≤ r → HasRounds v r us → Doing c (suc n) a m → Reaches (act a (λ t. source k t)) (target us m)
      far_step us near zero c n k a m le h d = absurd (omega arith)
      far_step us near (suc r) c n k a m le h d = near r c n k a m le (due v c (suc r) us (f.named c (suc n) a m d) h) d

  far : (us : List ℕ) → Near us → Far us
  far us near r c zero k a m le h d = let (s, is, rel) = f.done c a m d in rw is (far_at us near r c k s m (omega arith) h rel)
  far us near zero c (suc i) k a m le h d = absurd (omega arith)
  far us near (suc r) c (suc i) k a m le h d = near r c i k a m le (due v c (suc r) us (f.named c (suc i) a m d) h) d

  near : (us : List ℕ) → Near us
  near [] r c i k a m le h d = absurd h
  near (u ∷ us) r c i k a m le h d = elim (same_number (u % v) c) [
    | inl e ↦ elim (own_turn u us c i a m d e) [
      | inl (o, n, rest, c2, j, y, x, le2, d2) ↦ rw (y, x) (reaches_before o _ _ (far us (near us) r c2 j k rest n (omega arith) (due_rounds v c r u us h) d2))
      | inr (o, e2, t, y, x, same) ↦ rw (y, x) (([], sym (append_nil o)), λ e3 q. inr (refl, e3, t, q, refl, subst (λ e4. Same e4 t) (some_same e2 e3 q) same))
    ]
    | inr ne ↦ let (n, y, d2) = other_turn u us c i a m d ne in rw y (near us r c i k a n le (due_later v c r u us ne h) d2)
  ]

  pub rounds_all : (us : List ℕ) (k c : ℕ) (s : S) (m : M) → HasRounds v (256 * k) us → Rel c s m → Reaches (source k s) (target us m)
  rounds_all us k c s m h rel = far_at us (near us) (256 * k) c k s m (omega arith) h rel

  -- the three parts
  parts_prefix : (i : ℕ) (r : Outcome O T) (x : Outcome O E) → i ≤ length r.made → Fits r x → (take i r.made ≡ take i x.made) ⊎ (Lost Undefined x.finish × (length x.made < i))
  parts_prefix i r x le (inl (l, (more, e))) = elim (nat_split i (length x.made)) [
    | inl le2 ↦ inl (rw e (take-append-le i x.made more le2))
    | inr (j, e2) ↦ inr (l, omega arith)
  ]
  parts_prefix i r x le (inr ((more, e), h)) = inl (rw e (sym (take-append-le i r.made more le)))

  parts_stops : (t : T) (r : Outcome O T) (x : Outcome O E) → r.finish ≡ Some t → Fits r x → Alike Same x r ⊎ Lost Undefined x.finish
  parts_stops t r x q (inl (l, p)) = inr l
  parts_stops t r x q (inr (p, h)) = inl (h t q)

  parts_rounds : (r : Outcome O T) (x : Outcome O E) → Reaches x r → (Lost Undefined x.finish → ⊥) → IsPrefix x.made r.made × ((e : E) → x.finish ≡ Some e → Alike Same x r)
  parts_rounds r x (p, h) not = (p, λ e q. elim (h e q) [ inl un ↦ absurd (not (e, q, un)) | inr z ↦ z ])

  pub keeps : (c : ℕ) (s : S) (m : M) → Rel c s m → Keeps O E T Undefined Same v (λ k. expected step extra k s) (λ us. run turn v us m)
  keeps c s m rel = record {
    prefix = λ us i le. let (k, h) = safe_all us c s m rel in (k, parts_prefix i (target us m) (source k s) le h);
    stops = λ us t q. let (k, h) = safe_all us c s m rel in (k, parts_stops t (target us m) (source k s) q h);
    rounds = λ us k h not. parts_rounds (target us m) (source k s) (rounds_all us k c s m h rel) not;
  }
