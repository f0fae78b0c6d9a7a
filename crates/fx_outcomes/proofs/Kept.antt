-- What each turn keeps holds after each schedule.
use Rattle.std.proofs.Common.{◌≡◌, ℕ, ◌%◌, ◌<◌, List, [], ◌∷◌, refl, arith}
use Rattle.fx_outcomes.specs.Runs.{Next, Goes, Stops, later, after}

module _ (O M T : Type 0) (turn : ℕ → M → Next O M T) (v : ℕ) (I : M → Type 0) (some : 0 < v)
    (keeps : (c : ℕ) (m n : M) (o : List O) → c < v → I m → turn c m ≡ Goes o n → I n) where
  one : (c : ℕ) (m : M) (b : Next O M T) (go : M → M) → c < v → I m → turn c m ≡ b → ((n : M) → I n → I (go n)) → I (later b m go)
  one c m (Goes o n) go lt h e rest = rest n (keeps c m n o lt h e)
  one c m (Stops o t) go lt h e rest = h

  pub kept : (us : List ℕ) (m : M) → I m → I (after turn v us m)
  kept [] m h = h
  kept (u ∷ us) m h = one (u % v) m (turn (u % v) m) (λ n. after turn v us n) (omega arith) h refl (λ n k. kept us n k)
