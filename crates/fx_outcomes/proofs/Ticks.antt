-- Two meanings at the same costs: the first is the second, or is lost where it differs.
use Rattle.std.proofs.Common.{◌≡◌, ℕ, zero, suc, ◌+◌, ◌≤◌, inl, inr, List, [], ◌++◌, refl, sym, ap, ◌∙◌, subst, arith, append_assoc}
use Rattle.fx_outcomes.specs.Runs.{Next, Goes, Stops, Outcome, before, within}
use Rattle.fx_outcomes.specs.Keeping.{Refines}

module _ (O E S M : Type 0) (Undefined : E → Type 0) (step : S → Next O S E) (extra : S → ℕ) (perform : M → Next O M E) (cost : M → ℕ) where
  abbrev source : ℕ → ℕ → S → Outcome O E
  source k w s = within step extra k w s

  abbrev target : ℕ → ℕ → M → Outcome O E
  target k w m = within perform cost k w m

  -- within each budget up to k
  pub record Alike (k : ℕ) (s : S) (m : M) : Type 0 where
    pub by : (j : ℕ) → j ≤ k → Refines Undefined (source j (extra s) s) (target j (cost m) m)

  pub fewer : (j k : ℕ) (s : S) (m : M) → j ≤ k → Alike k s m → Alike j s m
  fewer j k s m le h = record { by = λ i lt. h.by i (omega (arith, lt, le)) }

  pub none : (s : S) (m : M) → Alike 0 s m
  none s m = record { by = λ j le. let e : 0 ≡ j = omega (arith, le) in subst (λ i. Refines Undefined (source i (extra s) s) (target i (cost m) m)) e (inl refl) }

  refines_before : (o : List O) (a b : Outcome O E) → Refines Undefined a b → Refines Undefined (before o a) (before o b)
  refines_before o a b (inl e) = inl (ap (before o) e)
  refines_before o a b (inr (l, (more, e))) = inr (l, (more, ap (λ z. o ++ z) e ∙ sym (append_assoc o a.made more)))

  waits : (k : ℕ) (s t : S) (m n : M) (o : List O) → step s ≡ Goes o t → perform m ≡ Goes o n → Alike k t n → (w j : ℕ) → j ≤ suc k → Refines Undefined (source j w s) (target j w m)
  waits k s t m n o a b h w zero le = inl refl
  waits k s t m n o a b h (suc w) (suc j) le = waits k s t m n o a b h w j (omega arith)
  waits k s t m n o a b h zero (suc j) le = rw (a, b) (refines_before o _ _ (h.by j (omega arith)))

  halts : (s : S) (m : M) (o : List O) (e : E) → step s ≡ Stops o e → perform m ≡ Stops o e → (w j : ℕ) → Refines Undefined (source j w s) (target j w m)
  halts s m o e a b w zero = inl refl
  halts s m o e a b (suc w) (suc j) = halts s m o e a b w j
  halts s m o e a b zero (suc j) = rw (a, b) (inl refl)

  lost : (s : S) (m : M) (e : E) → step s ≡ Stops [] e → Undefined e → (w v j : ℕ) → w ≤ v → Refines Undefined (source j w s) (target j v m)
  lost s m e a un w v zero le = inl refl
  lost s m e a un zero v (suc j) le = rw a (inr ((e, refl, un), (_, refl)))
  lost s m e a un (suc w) zero (suc j) le = absurd (omega arith)
  lost s m e a un (suc w) (suc v) (suc j) le = lost s m e a un w v j (omega arith)

  -- a step on each side, an end on each side, and an undefined step
  pub both : (k : ℕ) (s t : S) (m n : M) (o : List O) → step s ≡ Goes o t → perform m ≡ Goes o n → cost m ≡ extra s → Alike k t n → Alike (suc k) s m
  both k s t m n o a b c h = record { by = λ j le. subst (λ w. Refines Undefined (source j (extra s) s) (target j w m)) (sym c) (waits k s t m n o a b h (extra s) j le) }

  pub end : (k : ℕ) (s : S) (m : M) (o : List O) (e : E) → step s ≡ Stops o e → perform m ≡ Stops o e → cost m ≡ extra s → Alike k s m
  end k s m o e a b c = record { by = λ j le. subst (λ w. Refines Undefined (source j (extra s) s) (target j w m)) (sym c) (halts s m o e a b (extra s) j) }

  pub gone : (k : ℕ) (s : S) (m : M) (e : E) → step s ≡ Stops [] e → Undefined e → extra s ≤ cost m → Alike k s m
  gone k s m e a un c = record { by = λ j le. lost s m e a un (extra s) (cost m) j c }

  -- the code makes a turn that shows nothing while the source still waits
  pub silent : (k : ℕ) (s : S) (m n : M) (w : ℕ) → perform m ≡ Goes [] n → ((j : ℕ) → j ≤ k → Refines Undefined (source j w s) (target j (cost n) n)) → (v j : ℕ) → j ≤ v + 1 + k → Refines Undefined (source j (v + 1 + w) s) (target j v m)
  silent k s m n w e h v zero le = inl refl
  silent k s m n w e h (suc v) (suc j) le =
      let q : suc v + 1 + w ≡ suc (v + 1 + w) = omega arith in
      subst (λ i. Refines Undefined (source (suc j) i s) (target (suc j) (suc v) m)) (sym q) (silent k s m n w e h v j (omega arith))
  silent k s m n w e h zero (suc j) le =
      let q : 0 + 1 + w ≡ suc w = omega arith in
      subst (λ i. Refines Undefined (source (suc j) i s) (target (suc j) 0 m)) (sym q) (rw e (h j (omega arith)))
