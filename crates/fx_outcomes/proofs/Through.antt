-- What keeps to one meaning keeps to another that is the same, or is lost where it differs.
use Rattle.std.proofs.Common.{◌≡◌, ℕ, ◌<◌, ◌⊎◌, inl, inr, List, length, take, Some, sym, ap, ◌∙◌, subst, arith, length-append}
use Rattle.std.proofs.lemmas.List.{take-append-le}
use Rattle.fx_outcomes.specs.Runs.{Outcome}
use Rattle.fx_outcomes.specs.Keeping.{IsPrefix, Lost, Alike, Keeps, Refines}
use Rattle.fx_outcomes.proofs.Follows.{nat_split}

module _ (O E T : Type 0) (Undefined : E → Type 0) (Same : E → T → Type 0) where
  abbrev Round : Outcome O E → Outcome O T → Type 0
  Round x y = IsPrefix x.made y.made × ((e : E) → x.finish ≡ Some e → Alike Same x y)

  prefix_at : (i : ℕ) (y : Outcome O T) (a b : Outcome O E) → Refines Undefined a b → (take i y.made ≡ take i b.made) ⊎ (Lost Undefined b.finish × (length b.made < i)) → (take i y.made ≡ take i a.made) ⊎ (Lost Undefined a.finish × (length a.made < i))
  prefix_at i y a b (inl e) h = subst (λ z. (take i y.made ≡ take i z.made) ⊎ (Lost Undefined z.finish × (length z.made < i))) (sym e) h
  prefix_at i y a b (inr (l, (more, e))) (inl h) = elim (nat_split i (length a.made)) [
    | inl le ↦ inl (h ∙ ap (take i) e ∙ take-append-le i a.made more le)
    | inr (k, e2) ↦ inr (l, omega arith)
  ]
  prefix_at i y a b (inr (l, (more, e))) (inr h) = let n = h.1 in inr (l, omega (arith, ap length e, length-append a.made more, n))

  pub through : (v : ℕ) (a b : ℕ → Outcome O E) (y : List ℕ → Outcome O T) → ((k : ℕ) → Refines Undefined (a k) (b k)) → Keeps O E T Undefined Same v b y → Keeps O E T Undefined Same v a y
  through v a b y r h = record {
    prefix = λ us i le. let (k, p) = h.prefix us i le in (k, prefix_at i (y us) (a k) (b k) (r k) p);
    stops = λ us t e. let (k, p) = h.stops us t e in (k, stop_at (a k) (b k) (y us) (r k) p);
    rounds = λ us k n not. round_at (a k) (b k) (y us) (r k) not (λ not2. h.rounds us k n not2);
  }
    where
      stop_at : (a b : Outcome O E) (y : Outcome O T) → Refines Undefined a b → Alike Same b y ⊎ Lost Undefined b.finish → Alike Same a y ⊎ Lost Undefined a.finish
      stop_at a b y (inl e) h = subst (λ z. Alike Same z y ⊎ Lost Undefined z.finish) (sym e) h
      stop_at a b y (inr l) h = inr l.0

      round_at : (a b : Outcome O E) (y : Outcome O T) → Refines Undefined a b → (Lost Undefined a.finish → ⊥) → ((Lost Undefined b.finish → ⊥) → Round b y) → Round a y
      round_at a b y (inl e) not h = subst (λ z. Round z y) (sym e) (h (subst (λ z. Lost Undefined z.finish → ⊥) e not))
      round_at a b y (inr l) not h = absurd (not l.0)
