-- One acts, and the others wait in idle loops: the turns of those are absorbed here, once.
use Rattle.std.proofs.Common.{◌≡◌, ℕ, zero, suc, ◌+◌, ◌*◌, ◌%◌, ◌<◌, ◌≤◌, ◌⊎◌, inl, inr, List, [], ◌++◌, refl, sym, ap, ◌∙◌, subst, arith, append_assoc, cond, Bool, true, false, Option, Some, None}
use Rattle.std.proofs.lemmas.Bool.Decides.{eqb_tells}
use Rattle.fx_outcomes.specs.Runs.{Next, Goes, Stops, expected, run}
use Rattle.fx_outcomes.specs.Many.{Many, put, placed, turn, then_next, join, ahead, watched}
use Rattle.fx_outcomes.specs.Keeping.{Keeps}
use Rattle.fx_outcomes.proofs.Follows.{Follows, same_number, append_nil, keeps}

put_same : {R : Type 0} (f : ℕ → R) (c : ℕ) (r : R) → put f c r c ≡ r
put_same f c r = elim (eqb_tells c c) [ inl h ↦ ap (λ b. cond b r (f c)) h.0 | inr h ↦ absurd (h.1 refl) ]

put_other : {R : Type 0} (f : ℕ → R) (c : ℕ) (r : R) (d : ℕ) → (d ≡ c → ⊥) → put f c r d ≡ f d
put_other f c r d ne = elim (eqb_tells d c) [ inl h ↦ absurd (ne h.1) | inr h ↦ ap (λ b. cond b r (f d)) h.0 ]

mod_small : (u v : ℕ) {c : ℕ} → c < v → u % v < v
mod_small u v lt = omega arith

-- what is known of the processors: where each may idle, and what a world is like that calls it to nothing
pub record Idles (O R W T : Type 0) (move : ℕ → R → W → Next O (R × W) T) (InLoop : ℕ → R → Type 0) (Uncalled : ℕ → W → Type 0) : Type 0 where
  pub idle : (e : ℕ) (r : R) (w : W) → InLoop e r → Uncalled e w → (q : R) × (move e r w ≡ Goes [] (q, w)) × InLoop e q

module _ (O S E R W T : Type 0) (Undefined : E → Type 0) (Same : E → T → Type 0) (step : S → Next O S E) (extra : S → ℕ) (move : ℕ → R → W → Next O (R × W) T) (v : ℕ)
    (InLoop : ℕ → R → Type 0) (Uncalled : ℕ → W → Type 0) (At : ℕ → S → R → W → Type 0) where
  -- none but c is called to anything
  abbrev pub Alone : ℕ → W → Type 0
  Alone c w = (e : ℕ) → e < v → (e ≡ c → ⊥) → Uncalled e w

  -- the source is at s, or both stand still, as where an answer is missing
  abbrev pub Here : ℕ → S → R → W → Type 0
  Here c s r w = At c s r w ⊎ ((step s ≡ Goes [] s) × (move c r w ≡ Goes [] (r, w)))

  -- processor c, with r, does a in i turns: its own, or it passes on to d, wherever in its loop d is, which does what is left
  abbrev pub Part : (ℕ → ℕ → Next O S E → R → W → Type 0) → ℕ → ℕ → Next O S E → R → W → Type 0
  Part Rest zero c a r w = (s : S) × (a ≡ Goes [] s) × Here c s r w
  Part Rest (suc i) c a r w =
      ((o : List O) × (q : R) × (x : W) × (rest : Next O S E) × (move c r w ≡ Goes o (q, x)) × (a ≡ then_next o rest) × Alone c x × Part Rest i c rest q x)
      ⊎ (((o : List O) × (e : E) × (t : T) × (move c r w ≡ Stops o t) × (a ≡ Stops o e) × Same e t)
      ⊎ ((o : List O) × (q : R) × (x : W) × (rest : Next O S E) × (d : ℕ) × (d < v) × (d ≡ c → ⊥) × (move c r w ≡ Goes o (q, x)) × (a ≡ then_next o rest) × InLoop c q × Alone d x × ((p : R) → InLoop d p → (j : ℕ) × (j ≤ i) × Rest j d rest p x)))

  -- with at most so many passings
  abbrev pub Leads : ℕ → ℕ → ℕ → Next O S E → R → W → Type 0
  Leads zero i c a r w = Part (λ i c a r w. ⊥) i c a r w
  Leads (suc n) i c a r w = Part (Leads n) i c a r w

  pub then_none : (a : Next O S E) → then_next [] a ≡ a
  then_none (Goes o s) = refl
  then_none (Stops o e) = refl

  then_twice : (o p : List O) (a : Next O S E) → then_next (o ++ p) a ≡ then_next o (then_next p a)
  then_twice o p (Goes q s) = ap (λ (l : List O). let x : Next O S E = Goes l s in x) (append_assoc o p q)
  then_twice o p (Stops q e) = ap (λ (l : List O). let x : Next O S E = Stops l e in x) (append_assoc o p q)

  -- so many turns in a row, each of which leaves the world as the test wants it
  abbrev pub row : (W → Bool) → ℕ → ℕ → R → W → Next O (R × W) (Option T)
  row calm c n r w = ahead (λ r w. watched calm (move c r w)) n r w

  by_row : (calm : W → Bool) (Rest : ℕ → ℕ → Next O S E → R → W → Type 0) (n m c : ℕ) (rest : Next O S E) (r : R) (w : W) (o : List O) (q : R) (x : W) → ((x : W) → calm x ≡ true → Alone c x)
      → ((q2 : R) (x2 : W) (o2 : List O) → row calm c n q2 x2 ≡ Goes o2 (q, x) → Part Rest (n + m) c (then_next o2 rest) q2 x2)
      → (b : Next O (R × W) T) → move c r w ≡ b → join (watched calm b) (λ y. row calm c n y.0 y.1) ≡ Goes o (q, x) → Part Rest (suc (n + m)) c (then_next o rest) r w
  by_row calm Rest n m c rest r w o q x says ih (Goes p (q1, x1)) is go = cases (calm x1) refl go
    where
      reach : (b : Next O (R × W) (Option T)) (p o : List O) → then_next p b ≡ Goes o (q, x) → (o2 : List O) × (b ≡ Goes o2 (q, x)) × (o ≡ p ++ o2)
      reach (Goes o2 y) p o e = let h : y ≡ (q, x) = cc in (o2, ap (λ z. let g : Next O (R × W) (Option T) = Goes o2 z in g) h, cc)
      reach (Stops o2 t) p o e = cc

      cases : (t : Bool) → calm x1 ≡ t → join {X = R × W} (cond t (Goes p (q1, x1)) (Stops p None)) (λ y. row calm c n y.0 y.1) ≡ Goes o (q, x) → Part Rest (suc (n + m)) c (then_next o rest) r w
      cases true t go =
          let (o2, g, e) = reach (row calm c n q1 x1) p o go in
          inl (p, q1, x1, then_next o2 rest, is, ap (λ z. then_next z rest) e ∙ then_twice p o2 rest, says x1 t, ih q1 x1 o2 g)
      cases false t go = cc
  by_row calm Rest n m c rest r w o q x says ih (Stops p t) is go = cc

  -- turns in a row that keep the world calm, and then what is left
  pub row_on : (calm : W → Bool) (Rest : ℕ → ℕ → Next O S E → R → W → Type 0) (n m k c : ℕ) (rest : Next O S E) (r : R) (w : W) (o : List O) (q : R) (x : W) → k ≡ n + m → ((x : W) → calm x ≡ true → Alone c x) → row calm c n r w ≡ Goes o (q, x) → Part Rest m c rest q x → Part Rest k c (then_next o rest) r w
  row_on calm Rest zero m k c rest r w o q x e says go part =
      let k0 : k ≡ m = omega arith in
      let o0 : o ≡ [] = cc in
      let at : ◌≡◌ {A = R × W} (r, w) (q, x) = cc in
      subst (λ i. Part Rest i c (then_next o rest) r w) (sym k0) (subst (λ a. Part Rest m c a r w) (sym (ap (λ z. then_next z rest) o0 ∙ then_none rest)) (subst (λ (z : R × W). Part Rest m c rest z.0 z.1) (sym at) part))
  row_on calm Rest (suc n) m k c rest r w o q x e says go part =
      let k0 : k ≡ suc (n + m) = omega arith in
      subst (λ i. Part Rest i c (then_next o rest) r w) (sym k0) (by_row calm Rest n m c rest r w o q x says (λ q2 x2 o2 g. row_on calm Rest n m (n + m) c rest q2 x2 o2 q x refl says g part) (move c r w) refl go)

  -- turns in a row to a state at which the source is, or to where both stand still
  pub row_to : (calm : W → Bool) (Rest : ℕ → ℕ → Next O S E → R → W → Type 0) (n c : ℕ) (s : S) (r : R) (w : W) (o : List O) (q : R) (x : W) → ((x : W) → calm x ≡ true → Alone c x) → row calm c n r w ≡ Goes o (q, x) → Here c s q x → Part Rest n c (Goes o s) r w
  row_to calm Rest n c s r w o q x says go here =
      let e : n ≡ n + 0 = omega arith in
      subst (λ a. Part Rest n c a r w) (ap (λ l. let y : Next O S E = Goes l s in y) (append_nil o)) (row_on calm Rest n 0 n c (Goes [] s) r w o q x e says go (s, refl, here))

  by_stop : (calm : W → Bool) (Rest : ℕ → ℕ → Next O S E → R → W → Type 0) (n c : ℕ) (r : R) (w : W) (o : List O) (e : E) (t : T) → ((x : W) → calm x ≡ true → Alone c x) → Same e t
      → ((q2 : R) (x2 : W) (o2 : List O) → row calm c n q2 x2 ≡ Stops o2 (Some t) → Part Rest n c (Stops o2 e) q2 x2)
      → (b : Next O (R × W) T) → move c r w ≡ b → join (watched calm b) (λ y. row calm c n y.0 y.1) ≡ Stops o (Some t) → Part Rest (suc n) c (Stops o e) r w
  by_stop calm Rest n c r w o e t says same ih (Goes p (q1, x1)) is go = cases (calm x1) refl go
    where
      reach : (b : Next O (R × W) (Option T)) (p o : List O) → then_next p b ≡ Stops o (Some t) → (o2 : List O) × (b ≡ Stops o2 (Some t)) × (o ≡ p ++ o2)
      reach (Goes o2 y) p o e = cc
      reach (Stops o2 u) p o e = let h : u ≡ Some t = cc in (o2, ap (λ z. let g : Next O (R × W) (Option T) = Stops o2 z in g) h, cc)

      cases : (t2 : Bool) → calm x1 ≡ t2 → join {X = R × W} (cond t2 (Goes p (q1, x1)) (Stops p None)) (λ y. row calm c n y.0 y.1) ≡ Stops o (Some t) → Part Rest (suc n) c (Stops o e) r w
      cases true h go =
          let (o2, g, e2) = reach (row calm c n q1 x1) p o go in
          inl (p, q1, x1, Stops o2 e, is, ap (λ l. let y : Next O S E = Stops l e in y) e2, says x1 h, ih q1 x1 o2 g)
      cases false h go = cc
  by_stop calm Rest n c r w o e t says same ih (Stops p u) is go = let h : u ≡ t = cc in let g : p ≡ o = cc in
      inr (inl (p, e, u, is, ap (λ l. let y : Next O S E = Stops l e in y) (sym g), subst (Same e) (sym h) same))

  -- turns in a row to a stop
  pub row_out : (calm : W → Bool) (Rest : ℕ → ℕ → Next O S E → R → W → Type 0) (n c : ℕ) (r : R) (w : W) (o : List O) (e : E) (t : T) → ((x : W) → calm x ≡ true → Alone c x) → Same e t → row calm c n r w ≡ Stops o (Some t) → Part Rest n c (Stops o e) r w
  row_out calm Rest zero c r w o e t says same go = cc
  row_out calm Rest (suc n) c r w o e t says same go = by_stop calm Rest n c r w o e t says same (λ q2 x2 o2 g. row_out calm Rest n c q2 x2 o2 e t says same g) (move c r w) refl go

  pub record Starts : Type 0 where
    pub starts : (c : ℕ) (s : S) (r : R) (w : W) → At c s r w → Alone c w → ((e : E) × (step s ≡ Stops [] e) × Undefined e) ⊎ ((n : ℕ) × (p : ℕ) × (suc n ≤ 256 * (extra s + 1)) × Leads p (suc n) c (step s) r w)

  abbrev pub Others : ℕ → Many R W → Type 0
  Others c m = (e : ℕ) → e < v → (e ≡ c → ⊥) → InLoop e (m.cpus e)

  abbrev pub Rel : ℕ → S → Many R W → Type 0
  Rel c s m = (c < v) × Alone c m.world × Others c m × Here c s (m.cpus c) m.world

  abbrev pub Doing : ℕ → ℕ → Next O S E → Many R W → Type 0
  Doing c i a m = (c < v) × Alone c m.world × Others c m × ((p : ℕ) × Leads p i c a (m.cpus c) m.world)

  module _ (idles : Idles O R W T move InLoop Uncalled) (starts : Starts) where
    abbrev Own : ℕ → ℕ → Next O S E → Many R W → Type 0
    Own c i a m =
        ((o : List O) × (n : Many R W) × (rest : Next O S E) × (d : ℕ) × (j : ℕ) × (turn move c m ≡ Goes o n) × (a ≡ then_next o rest) × (j ≤ i) × Doing d j rest n)
        ⊎ ((o : List O) × (e : E) × (t : T) × (turn move c m ≡ Stops o t) × (a ≡ Stops o e) × Same e t)

    moved : (c : ℕ) (m : Many R W) (o : List O) (q : R) (x : W) → move c (m.cpus c) m.world ≡ Goes o (q, x) → turn move c m ≡ Goes o (record { cpus = put m.cpus c q; world = x })
    moved c m o q x e = ap (λ (z : Next O (R × W) T). placed m.cpus c z) e

    finished : (p c : ℕ) (a : Next O S E) (r : R) (w : W) → Leads p zero c a r w → (s : S) × (a ≡ Goes [] s) × Here c s r w
    finished zero c a r w l = l
    finished (suc p) c a r w l = l

    own_part : (Rest : ℕ → ℕ → Next O S E → R → W → Type 0) (c i : ℕ) (a : Next O S E) (m : Many R W) → c < v → Others c m
        → ((j d : ℕ) (b : Next O S E) (r : R) (x : W) → Rest j d b r x → (p : ℕ) × Leads p j d b r x)
        → ((j d : ℕ) (b : Next O S E) (r : R) (x : W) → Part Rest j d b r x → (p : ℕ) × Leads p j d b r x)
        → Part Rest (suc i) c a (m.cpus c) m.world → Own c i a m
    own_part Rest c i a m lt loops passed here (inl (o, q, x, rest, go, is, alone2, leads)) =
        inl (
          o,
          record { cpus = put m.cpus c q; world = x },
          rest,
          c,
          i,
          moved c m o q x go,
          is,
          omega arith,
          (lt, alone2, (λ e le ne. subst (InLoop e) (sym (put_other m.cpus c q e ne)) (loops e le ne)), here i c rest _ x (subst (λ r. Part Rest i c rest r x) (sym (put_same m.cpus c q)) leads)),
        )
    own_part Rest c i a m lt loops passed here (inr (inl (o, e, t, go, is, same))) = inr (o, e, t, ap (λ (z : Next O (R × W) T). placed m.cpus c z) go, is, same)
    own_part Rest c i a m lt loops passed here (inr (inr (o, q, x, rest, d, lt2, ne, go, is, loop, alone2, leads))) =
        let (j, le, l) = leads (m.cpus d) (loops d lt2 ne) in
        inl (
          o,
          record { cpus = put m.cpus c q; world = x },
          rest,
          d,
          j,
          moved c m o q x go,
          is,
          le,
          (
            lt2,
            alone2,
            (λ e le2 ne2. elim (same_number e c) [
              | inl h ↦ subst (λ f. InLoop f (put m.cpus c q f)) (sym h) (subst (InLoop c) (sym (put_same m.cpus c q)) loop)
              | inr h ↦ subst (InLoop e) (sym (put_other m.cpus c q e h)) (loops e le2 h)
            ]),
            passed j d rest _ x (subst (λ r. Rest j d rest r x) (sym (put_other m.cpus c q d ne)) l),
          ),
        )

    own : (c i : ℕ) (a : Next O S E) (m : Many R W) → Doing c (suc i) a m → Own c i a m
    own c i a m (lt, alone, loops, (zero, l)) = own_part _ c i a m lt loops (λ j d b r x h. absurd h) (λ j d b r x h. (0, h)) l
    own c i a m (lt, alone, loops, (suc p, l)) = own_part (Leads p) c i a m lt loops (λ j d b r x h. (p, h)) (λ j d b r x h. (suc p, h)) l

    others : (c i u : ℕ) (a : Next O S E) (m : Many R W) → Doing c (suc i) a m → (u % v ≡ c → ⊥) → (n : Many R W) × (turn move (u % v) m ≡ Goes [] n) × Doing c (suc i) a n
    others c i u a m (lt, alone, loops, leads) ne =
        let f = u % v in
        let small : u % v < v = mod_small u v lt in
        let (q, go, loop) = idles.idle f (m.cpus f) m.world (loops f small ne) (alone f small ne) in (
          record { cpus = put m.cpus f q; world = m.world },
          moved f m [] q m.world go,
          (
            lt,
            alone,
            (λ e le ne2. elim (same_number e f) [
              | inl h ↦ subst (λ g. InLoop g (put m.cpus f q g)) (sym h) (subst (InLoop f) (sym (put_same m.cpus f q)) loop)
              | inr h ↦ subst (InLoop e) (sym (put_other m.cpus f q e h)) (loops e le ne2)
            ]),
            subst (λ r. (p : ℕ) × Leads p (suc i) c a r m.world) (sym (put_other m.cpus f q c (λ h. ne (sym h)))) leads,
          ),
        )

    begin_at : (c : ℕ) (s : S) (r : R) (w : W) → Here c s r w → Alone c w → ((e : E) × (step s ≡ Stops [] e) × Undefined e) ⊎ ((n : ℕ) × (p : ℕ) × (suc n ≤ 256 * (extra s + 1)) × Leads p (suc n) c (step s) r w)
    begin_at c s r w (inl at) alone = starts.starts c s r w at alone
    begin_at c s r w (inr (same, stays)) alone = inr (0, 0, omega arith, inl ([], r, w, Goes [] s, stays, same, alone, (s, refl, inr (same, stays))))

    pub follows : Follows O S E (Many R W) T Undefined Same step extra (turn move) v Rel Doing
    follows = record {
      begins = λ c s m r. elim (begin_at c s (m.cpus c) m.world r.3 r.1) [ inl h ↦ inl h | inr (n, p, le, l) ↦ inr (n, le, (r.0, r.1, r.2, (p, l))) ];
      named = λ c i a m d. d.0;
      done = λ c a m d. let (s, is, at) = finished d.3.0 c a (m.cpus c) m.world d.3.1 in (s, is, (d.0, d.1, d.2, at));
      own = own;
      others = others;
    }

    pub several_keep : (c : ℕ) (s : S) (m : Many R W) → Rel c s m → Keeps O E T Undefined Same v (λ k. expected step extra k s) (λ us. run (turn move) v us m)
    several_keep c s m r = keeps O S E (Many R W) T Undefined Same step extra (turn move) v Rel Doing follows c s m r
