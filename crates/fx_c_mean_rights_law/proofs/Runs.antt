-- Runs under rights, and under those of one compartment.
use Rattle.std.proofs.Common.{◌≡◌, ℕ, zero, suc, ◌+◌, ◌-◌, ◌≤◌, ◌⊎◌, inl, inr, Bool, true, false, not, nat_eq, List, [], ◌∷◌, ◌++◌, map, Some, refl, sym, ap, subst, ◌∙◌, arith, append_assoc, append-nil}
use Rattle.fx_outcomes.specs.Runs.{Next, Goes, Stops, before, act, within, expected}
use Rattle.fx_outcomes.specs.Runs as runs
use Rattle.fx_base.specs.declared.device_op.DeviceOp.{DeviceOp}
use Rattle.fx_c_mean_model.specs.declared.end.End.{End}
use Rattle.fx_c_mean_model.specs.declared.end.End.TheVariants.{Exit, Denied, StackFull, Divide, BadThread, ThreadsFull, Undefined}
use Rattle.fx_c_mean_model.specs.declared.rights.Rights.{Rights}
use Rattle.fx_c_mean_model.specs.Programs.{Program}
use Rattle.fx_c_mean_model.specs.Rights.{home}
use Rattle.fx_c_mean_model.specs.States.{Act, Call, Ask, Enter, Leave, FallOff, Frame, Caller, Spot, Does, ByGate, unwind}
use Rattle.fx_c_mean_model.specs.Steps.{State, Outcome, step, extra, act_extra, return_extra, crosses_by}
use Rattle.fx_c_mean_model.specs.Expected.{Run, with_answers, is_ask, asks, advance, run_step, started}
use Rattle.fx_c_mean_model.specs.Laws.{IsNoDenial, IsNotDenied}
use Rattle.fx_c_mean_model.proofs.Every.{every_step}
use Rattle.fx_c_mean_model.proofs.Denials.{none_denied, plain}
use Rattle.fx_c_mean_rights_law.specs.Marks.{marked_frame, marked_spot, marked, never, uncrossed}
use Rattle.fx_c_mean_rights_law.specs.Laws.{SameBut, IsRefusal, AreMerged, OnlyRefused, RightsOnlyRefuse}
use Rattle.fx_c_mean_rights_law.proofs.Commutes as commutes
use Rattle.fx_c_mean_rights_law.proofs.Alike.{unwound, steps_alike}

-- the marks as they are
abbrev as_is : Bool → Bool
as_is crosses = crosses

abbrev Frames : List Frame → List Frame → Type 0
Frames f g = map (marked_frame never) f ≡ map (marked_frame as_is) g

abbrev Callers : List Frame → Type 0
Callers x = (x ≡ []) ⊎ ((call : Call) × (crosses : Bool) × (below : List Frame) × (x ≡ Caller call crosses ∷ below))

-- ---- costs

-- where no caller waits for a gate between compartments, a return costs nothing more
plain_return : (x y : List Frame) → Frames x y → Callers x → Callers y → return_extra y ≡ 0
plain_return x y h i (inl j) = ap return_extra j
plain_return x y h (inl i) (inr (call, crosses, below, j)) =
    let bad : map (marked_frame never) [] ≡ Caller call crosses ∷ map (marked_frame as_is) below = ap (map (marked_frame never)) (sym i) ∙ h ∙ ap (map (marked_frame as_is)) j in
    cc
plain_return x y h (inr (other, crossed, low, i)) (inr (call, crosses, below, j)) =
    let both : Caller other false ∷ map (marked_frame never) low ≡ Caller call crosses ∷ map (marked_frame as_is) below = ap (map (marked_frame never)) (sym i) ∙ h ∙ ap (map (marked_frame as_is)) j in
    let none : crosses ≡ false = cc in
    ap return_extra j ∙ ap (λ c. return_extra (Caller call c ∷ below)) none

returns_plainly : (x y : List Frame) → Frames x y → return_extra (unwind y) ≡ 0
returns_plainly x y h = plain_return (unwind x) (unwind y) (commutes.unwinds never x ∙ ap unwind h ∙ sym (commutes.unwinds as_is y)) (unwound x) (unwound y)

act_less : (p : Program) (act : Act) (x y : List Frame) → Frames x y → act_extra p (Does act y) ≤ act_extra p (Does act x)
act_less p (Enter f way values) x y h = omega arith
act_less p (Leave v) x y h = omega (arith, returns_plainly x y h)
act_less p FallOff x y h = omega (arith, returns_plainly x y h)
act_less p _ x y h = omega arith

asks_alike : (act : Act) (x y : List Frame) → is_ask (Does act x) ≡ is_ask (Does act y)
asks_alike (Ask device register) x y = refl
asks_alike _ x y = refl

module _ (p : Program) where
  spots_less : (x y : Spot) → marked_spot never x ≡ marked_spot as_is y → act_extra p y ≤ act_extra p x
  spots_less (Does act f) (Does other g) h =
      let acts : act ≡ other = cc in
      let rests : Frames f g = cc in
      subst (λ a. act_extra p (Does a g) ≤ act_extra p (Does act f)) acts (act_less p act f g rests)

  spots_ask : (x y : Spot) → marked_spot never x ≡ marked_spot as_is y → is_ask x ≡ is_ask y
  spots_ask (Does act f) (Does other g) h =
      let acts : act ≡ other = cc in
      asks_alike act f g ∙ ap (λ a. is_ask (Does a g)) acts

-- ---- what a run comes to

pub past : {O S E : Type 0} (step : S → Next O S E) (extra : S → ℕ) (w k : ℕ) (s : S) → within step extra (w + suc k) w s ≡ act (step s) (λ t. expected step extra k t)
past step extra zero k s = let e : 0 + suc k ≡ suc k = omega arith in ap (λ n. within step extra n 0 s) e
past step extra (suc w) k s = let e : suc w + suc k ≡ suc (w + suc k) = omega arith in ap (λ n. within step extra n (suc w) s) e ∙ past step extra w k s

abbrev Ends : Type 0
Ends = runs.Outcome DeviceOp End

abbrev IsFull : End → Type 0
IsFull f = (thread : ℕ) × (stack : ℕ) × (f ≡ StackFull thread stack)

full : (f : End) → IsRefusal f → IsNoDenial f → IsFull f
full (StackFull thread stack) h n = (thread, stack, refl)
full (Denied compartment object offset write) h n = absurd n
full (Exit v) h n = absurd h
full Divide h n = absurd h
full BadThread h n = absurd h
full ThreadsFull h n = absurd h
full Undefined h n = absurd h

only_before : (o : List DeviceOp) (x y : Ends) → OnlyRefused x y → OnlyRefused (before o x) (before o y)
only_before o x y (inl h) = inl h
only_before o x y (inr ((more, e), h)) = inr ((more, ap (λ z. o ++ z) e ∙ sym (append_assoc o x.made more)), λ f is. elim (h f is) [ inl a ↦ inl a | inr b ↦ inr (ap (before o) b) ])

same : (n : ℕ) → nat_eq n n ≡ true
same n = grind arith

module _ (p : Program) (r q : Rights) (merged : AreMerged p q) where
  gates : (from to : ℕ) → as_is (crosses_by p q ByGate from to) ≡ false
  gates from to = ap (λ h. not (nat_eq h (home p q to))) (merged.homes from to) ∙ ap not (same (home p q to))

  free : (answer : ℕ) (s : State) → IsNotDenied (step p q answer s)
  free answer s = every_step p q IsNotDenied (none_denied p q (λ t place. plain p q _ place false merged.plain (λ h. cc)) (λ t place l. plain p q _ place true merged.plain (λ h. l))) answer s

  record Related (x y : Run) : Type 0 where
    answers : x.answers ≡ y.answers
    states : uncrossed x.state ≡ marked as_is y.state

  -- a step of each
  abbrev Together : Next DeviceOp Run End → Next DeviceOp Run End → Type 0
  Together (Goes o x) (Goes n y) = (o ≡ n) × Related x y
  Together (Goes o x) (Stops n f) = (n ≡ []) × IsFull f
  Together (Stops o e) (Goes n y) = (o ≡ []) × IsRefusal e
  Together (Stops o e) (Stops n f) = (o ≡ n) × ((e ≡ f) ⊎ IsFull f)

  together : (answers : List ℕ) (a b : Outcome) → SameBut as_is a b → IsNotDenied b → Together (with_answers answers a) (with_answers answers b)
  together answers (Goes o s) (Goes n t) h free = (h.0, record { answers = refl; states = h.1 })
  together answers (Goes o s) (Stops n f) h free = (h.0, full f h.1 free)
  together answers (Stops o e) (Goes n t) h free = h
  together answers (Stops o e) (Stops n f) (is, inl e2) free = (is, inl e2)
  together answers (Stops o e) (Stops n f) (is, inr both) free = (is, inr (full f both.1 free))

  advanced : (b : Bool) (s t : State) (answers : List ℕ) → uncrossed s ≡ marked as_is t → Together (advance p r b s answers) (advance p q b t answers)
  advanced false s t answers h = together answers (step p r 0 s) (step p q 0 t) (steps_alike p r q as_is refl gates 0 s t h) (free 0 t)
  advanced true s t [] h = (refl, record { answers = refl; states = h })
  advanced true s t (answer ∷ answers) h = together answers (step p r answer s) (step p q answer t) (steps_alike p r q as_is refl gates answer s t h) (free answer t)

  stepped : (x y : Run) → Related x y → Together (run_step p r x) (run_step p q y)
  stepped x y h =
      let ask : asks x.state ≡ asks y.state = spots_ask p x.state.spot y.state.spot (ap (λ (s : State). s.spot) h.states) in
      subst (λ b. Together (run_step p r x) (advance p q b y.state y.answers)) ask
      (subst (λ l. Together (run_step p r x) (advance p q (asks x.state) y.state l)) h.answers (advanced (asks x.state) x.state y.state x.answers h.states))

  acted : (a b : Next DeviceOp Run End) (go to : Run → Ends) → Together a b → ((x y : Run) → Related x y → OnlyRefused (go x) (to y)) → OnlyRefused (act a go) (act b to)
  acted (Goes o x) (Goes n y) go to (is, h) on = subst (λ z. OnlyRefused (before o (go x)) (before z (to y))) is (only_before o (go x) (to y) (on x y h))
  acted (Goes o x) (Stops n f) go to (none, (thread, stack, is)) on = inl (thread, stack, ap (λ (g : End). Some g) is)
  acted (Stops o e) (Goes n y) go to (none, refused) on =
      let all = n ++ (to y).made in
      inr ((all, ap (λ z. z ++ all) (sym none)), λ g is. let e2 : e ≡ g = cc in inl (subst IsRefusal e2 refused))
  acted (Stops o e) (Stops n f) go to (is, inl e2) on =
      let f2 : List DeviceOp → End → Ends = λ made g. record { made = made; finish = Some g } in
      inr (([], sym is ∙ sym (append-nil o)), λ g h. inr (ap (λ z. f2 z f) (sym is) ∙ ap (f2 o) (sym e2)))
  acted (Stops o e) (Stops n f) go to (is, inr (thread, stack, at)) on = inl (thread, stack, ap (λ (g : End). Some g) at)

  abbrev more : Run → ℕ
  more x = extra p x.state

  only : (j k w v : ℕ) (x y : Run) → Related x y → v + j ≤ w + k → OnlyRefused (within (run_step p r) more j w x) (within (run_step p q) more k v y)
  only zero k w v x y h le = inr ((_, refl), λ e is. cc)
  only (suc j) k (suc w) v x y h le = only j k w v x y h (omega (arith, le))
  only (suc j) k zero v x y h le =
      let left = k - (v + 1) in
      let whole : v + suc left ≡ k = omega (arith, le) in
      let enough : j ≤ left = omega (arith, le) in
      subst (λ n. OnlyRefused (within (run_step p r) more (suc j) 0 x) (within (run_step p q) more n v y)) whole
      (subst (λ z. OnlyRefused (within (run_step p r) more (suc j) 0 x) z) (sym (past (run_step p q) more v left y))
      (acted (run_step p r x) (run_step p q y) (λ a. within (run_step p r) more j (more a) a) (λ b. within (run_step p q) more left (more b) b) (stepped x y h)
      (λ a b s. let less = spots_less p a.state.spot b.state.spot (ap (λ (t : State). t.spot) s.states) in only j left (more a) (more b) a b s (omega (arith, less, enough)))))

  pub only_refused : (answers : List ℕ) (k : ℕ) → OnlyRefused (runs.expected (run_step p r) more k (started p answers)) (runs.expected (run_step p q) more k (started p answers))
  only_refused answers k = only k k (more (started p answers)) (more (started p answers)) (started p answers) (started p answers) (record { answers = refl; states = refl }) (omega arith)

pub only_refuse : RightsOnlyRefuse
only_refuse p r q answers k merged = only_refused p r q merged answers k
