-- A row of turns is its instructions one after the other.
use Rattle.std.proofs.Common.{◌≡◌, List, [], ◌∷◌, length, refl, ap, ◌∙◌, Bool, true, false, cond, Option, None}
use Rattle.fx_outcomes.specs.Runs.{Next, Goes, Stops}
use Rattle.fx_outcomes.specs.Many.{then_next, join, ahead, watched, straight}

module _ (O R W T I : Type 0) (move : R → W → Next O (R × W) T) (perform : I → R → W → Next O (R × W) T) (Stands : R → W → List I → Type 0) (straight_on : I → Bool) where
  -- the instructions stand where r is, in the world w, and a straight one goes on to the next
  pub record Fetching : Type 0 where
    pub fetch : (r : R) (w : W) (i : I) (is : List I) → Stands r w (i ∷ is) → move r w ≡ perform i r w
    pub next : (r q : R) (w x : W) (o : List O) (i : I) (is : List I) → Stands r w (i ∷ is) → straight_on i ≡ true → perform i r w ≡ Goes o (q, x) → Stands q x is

  -- all but the last go on to the next
  abbrev pub all_straight : List I → Bool
  all_straight [] = true
  all_straight (i ∷ []) = true
  all_straight (i ∷ j ∷ is) = cond (straight_on i) (all_straight (j ∷ is)) false

  both : (a b : Bool) → cond a b false ≡ true → (a ≡ true) × (b ≡ true)
  both true b e = (refl, e)
  both false b e = cc

  module _ (calm : W → Bool) (f : Fetching) where
    abbrev After : Type 0
    After = R × W → Next O (R × W) (Option T)

    under : (b : Next O (R × W) T) (g h : After) → ((o : List O) (q : R) (x : W) → b ≡ Goes o (q, x) → g (q, x) ≡ h (q, x)) → join (watched calm b) g ≡ join (watched calm b) h
    under (Stops o t) g h same = refl
    under (Goes o (q, x)) g h same = test (calm x)
      where
        test : (t : Bool) → join {X = R × W} (cond t (Goes o (q, x)) (Stops o None)) g ≡ join {X = R × W} (cond t (Goes o (q, x)) (Stops o None)) h
        test true = ap (then_next o) (same o q x refl)
        test false = refl

    pub rows : (is : List I) (r : R) (w : W) → Stands r w is → all_straight is ≡ true → ahead (λ r w. watched calm (move r w)) (length is) r w ≡ straight perform calm is r w
    rows [] r w h s = refl
    rows (i ∷ []) r w h s = ap (λ b. join (watched calm b) (λ y. Goes [] y)) (f.fetch r w i [] h)
    rows (i ∷ j ∷ is) r w h e =
        let s = both (straight_on i) (all_straight (j ∷ is)) e in
        ap (λ b. join (watched calm b) (λ y. ahead (λ r w. watched calm (move r w)) (length (j ∷ is)) y.0 y.1)) (f.fetch r w i (j ∷ is) h)
        ∙ under (perform i r w) _ _ (λ o q x e. rows (j ∷ is) q x (f.next r q w x o i (j ∷ is) h s.0 e) s.1)
