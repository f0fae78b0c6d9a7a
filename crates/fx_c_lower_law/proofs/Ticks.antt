-- Two meanings at the same costs, where the second one makes a step while the first makes several that show nothing.
use Rattle.std.proofs.Common.{◌≡◌, ℕ, zero, suc, ◌+◌, ◌-◌, ◌≤◌, inl, inr, List, [], ◌++◌, refl, sym, ap, ◌∙◌, subst, arith, append_assoc}
use Rattle.fx_outcomes.specs.Runs.{Next, Goes, Stops, Outcome, nothing, before, within}
use Rattle.fx_outcomes.specs.Keeping.{Refines}

module _ (O E S M : Type 0) (Undefined : E → Type 0) (step : S → Next O S E) (extra : S → ℕ) (perform : M → Next O M E) (cost : M → ℕ) (Rel : ℕ → S → M → Type 0) where
  -- the source has made c steps that show nothing since the code came to m
  pub data Moves (c : ℕ) (s : S) (m : M) : Type 0 where
    Both : (o : List O) (t : S) (n : M) → step s ≡ Goes o t → perform m ≡ Goes o n → cost m ≡ c + extra s → Rel 0 t n → Moves c s m
    Quiet : (t : S) → step s ≡ Goes [] t → extra s ≡ 0 → c + 1 ≤ cost m → Rel (c + 1) t m → Moves c s m
    Ends : (o : List O) (e : E) → step s ≡ Stops o e → perform m ≡ Stops o e → cost m ≡ c + extra s → Moves c s m
    Lost : (e : E) → step s ≡ Stops [] e → Undefined e → extra s ≤ cost m - c → Moves c s m
    Stalls : step s ≡ Goes [] s → perform m ≡ Goes [] m → Moves c s m

  refines_before : (o : List O) (a b : Outcome O E) → Refines Undefined a b → Refines Undefined (before o a) (before o b)
  refines_before o a b (inl e) = inl (ap (before o) e)
  refines_before o a b (inr (l, (more, e))) = inr (l, (more, ap (λ z. o ++ z) e ∙ sym (append_assoc o a.made more)))

  record Tied (c k : ℕ) (s : S) (m : M) : Type 0 where
    by : (j : ℕ) → j ≤ k → Refines Undefined (within step extra j (extra s) s) (within perform cost j (cost m - c) m)

  together : (k : ℕ) (s t : S) (m n : M) (o : List O) → step s ≡ Goes o t → perform m ≡ Goes o n → Tied 0 k t n → (w j : ℕ) → j ≤ suc k → Refines Undefined (within step extra j w s) (within perform cost j w m)
  together k s t m n o a b h w zero le = inl refl
  together k s t m n o a b h (suc w) (suc j) le = together k s t m n o a b h w j (omega arith)
  together k s t m n o a b h zero (suc j) le =
      let e : cost n - 0 ≡ cost n = omega arith in
      rw (a, b) (refines_before o _ _ (subst (λ w. Refines Undefined (within step extra j (extra t) t) (within perform cost j w n)) e (h.by j (omega arith))))

  ends : (s : S) (m : M) (o : List O) (e : E) → step s ≡ Stops o e → perform m ≡ Stops o e → (w j : ℕ) → Refines Undefined (within step extra j w s) (within perform cost j w m)
  ends s m o e a b w zero = inl refl
  ends s m o e a b (suc w) (suc j) = ends s m o e a b w j
  ends s m o e a b zero (suc j) = rw (a, b) (inl refl)

  lost : (s : S) (m : M) (e : E) → step s ≡ Stops [] e → Undefined e → (w v j : ℕ) → w ≤ v → Refines Undefined (within step extra j w s) (within perform cost j v m)
  lost s m e a un w v zero le = inl refl
  lost s m e a un zero v (suc j) le = rw a (inr ((e, refl, un), (_, refl)))
  lost s m e a un (suc w) zero (suc j) le = absurd (omega arith)
  lost s m e a un (suc w) (suc v) (suc j) le = lost s m e a un w v j (omega arith)

  source_stalls : (s : S) → step s ≡ Goes [] s → (w j : ℕ) → within step extra j w s ≡ nothing
  source_stalls s a w zero = refl
  source_stalls s a (suc w) (suc j) = source_stalls s a w j
  source_stalls s a zero (suc j) = rw a (source_stalls s a (extra s) j)

  target_stalls : (m : M) → perform m ≡ Goes [] m → (w j : ℕ) → within perform cost j w m ≡ nothing
  target_stalls m a w zero = refl
  target_stalls m a (suc w) (suc j) = target_stalls m a w j
  target_stalls m a zero (suc j) = rw a (target_stalls m a (cost m) j)

  quiet : (c k : ℕ) (s t : S) (m : M) → step s ≡ Goes [] t → c + 1 ≤ cost m → Tied (c + 1) k t m → (j : ℕ) → j ≤ suc k → Refines Undefined (within step extra j 0 s) (within perform cost j (cost m - c) m)
  quiet c k s t m a le h zero lt = inl refl
  quiet c k s t m a le h (suc j) lt =
      let e : cost m - c ≡ suc (cost m - (c + 1)) = omega arith in
      rw (a, e) (h.by j (omega arith))

  module _ (moves : (c : ℕ) (s : S) (m : M) → Rel c s m → Moves c s m) where
    by_moves : (k c : ℕ) (s : S) (m : M) → ((d : ℕ) (t : S) (n : M) → Rel d t n → Tied d k t n) → Moves c s m → Tied c (suc k) s m
    by_moves k c s m next (Both o t n a b e h) =
        let w : cost m - c ≡ extra s = omega (arith, e) in
        record { by = λ j le. rw w (together k s t m n o a b (next 0 t n h) (extra s) j le) }
    by_moves k c s m next (Quiet t a z le h) = record { by = λ j lt. rw z (quiet c k s t m a le (next (c + 1) t m h) j lt) }
    by_moves k c s m next (Ends o e a b x) =
        let w : cost m - c ≡ extra s = omega (arith, x) in
        record { by = λ j le. rw w (ends s m o e a b (extra s) j) }
    by_moves k c s m next (Lost e a un z) = record { by = λ j le. lost s m e a un (extra s) (cost m - c) j z }
    by_moves k c s m next (Stalls a b) = record { by = λ j le. inl (source_stalls s a (extra s) j ∙ sym (target_stalls m b (cost m - c) j)) }

    tied : (k c : ℕ) (s : S) (m : M) → Rel c s m → Tied c k s m
    tied zero c s m h = record { by = λ j le. let e : 0 ≡ j = omega (arith, le) in subst (λ i. Refines Undefined (within step extra i (extra s) s) (within perform cost i (cost m - c) m)) e (inl refl) }
    tied (suc k) c s m h = by_moves k c s m (tied k) (moves c s m h)

    -- at every cost
    pub follows_so : (k : ℕ) (s : S) (m : M) → Rel 0 s m → Refines Undefined (within step extra k (extra s) s) (within perform cost k (cost m) m)
    follows_so k s m h =
        let e : cost m - 0 ≡ cost m = omega arith in
        subst (λ w. Refines Undefined (within step extra k (extra s) s) (within perform cost k w m)) e ((tied k 0 s m h).by k (omega arith))
