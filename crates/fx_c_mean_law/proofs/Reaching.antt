-- A runner's steps, one after the other, as the run of its program.
use Rattle.std.proofs.Common.{◌≡◌, ℕ, zero, suc, ◌+◌, ◌-◌, ◌^◌, ◌<◌, ◌≤◌, ◌⊎◌, inl, inr, min, List, [], ◌∷◌, ◌++◌, Some, None, Bool, true, false, refl, ap, sym, ◌∙◌, subst, arith, append_assoc, append-nil}
use Rattle.std.specs.Prelude.{not, ◌&&◌, IfSome}
use Rattle.fx_outcomes.specs.Runs.{Next, Goes, Stops, before, act, later, within}
use Rattle.fx_outcomes.specs.Runs as runs
use Rattle.fx_outcomes.proofs.Follows.{nat_split}
use Rattle.fx_base.specs.declared.device_op.DeviceOp.{DeviceOp}
use Rattle.fx_device.specs.Bus.{BusState}
use Rattle.fx_c_mean_model.specs.declared.end.End.{End}
use Rattle.fx_c_mean_model.specs.declared.rights.Rights.{Rights}
use Rattle.fx_c_mean_model.specs.Laws.{IsNoDenial, IsNotDenied}
use Rattle.fx_c_mean_model.specs.Programs.{Program}
use Rattle.fx_c_mean_model.specs.Steps.{State, Outcome, extra, step}
use Rattle.fx_c_mean_model.specs.Expected.{Run as SourceRun, advance, with_answers, asks, run_step, started, run_after}
use Rattle.fx_c_mean_model.proofs.Every.{every_step}
use Rattle.fx_c_mean_model.proofs.Denials.{none_denied, plain}
use Rattle.fx_c_mean.specs.declared.runner.Walk.{Walk}
use Rattle.fx_c_mean.specs.Walks.{Run, GoesOn, Finishes, first_run, more_cost}
use Rattle.fx_c_mean_law.specs.Counting.{answers_of, cost_of, is_fed}
use Rattle.fx_c_mean_law.specs.Reached.{here, onward, Reached, BegunBelow, Came}
use Rattle.fx_c_mean_law.specs.Laws.{Advances}
use Rattle.fx_c_mean_law.proofs.Loads.{stepped, unstarved, stopped, fed_to_end}
use Rattle.fx_c_mean_law.proofs.Stepping.{reached_past, before-append, answers-append, made_more, one_of}

-- ---- the start

pub begins : (p : Program) (r : Rights) (bus : BusState) → bus.transcript ≡ [] → Reached p r (first_run p r bus) 0 0
begins p r bus none =
    let at : (answers : List ℕ) → started p (answers_of bus.transcript ++ answers) ≡ here (first_run p r bus) answers = λ answers. ap (λ t. started p (answers_of t ++ answers)) none in
    record {
      program_is = refl;
      rights_is = refl;
      going = refl;
      cost_is = omega arith;
      expected_is = λ answers k. let e : 0 + k ≡ k = omega arith in ap (λ b. onward p r b (started p (answers_of bus.transcript ++ answers))) e ∙ ap (onward p r k) (at answers) ∙ ap (λ t. before t (onward p r k (here (first_run p r bus) answers))) (sym none);
      spent_is = λ answers m.
          let e : 0 + m ≡ m = omega arith in
          let rest = cost_of p r m (here (first_run p r bus) answers) in
          let same : rest ≡ 0 + rest = omega arith in
          ap (λ b. cost_of p r b (started p (answers_of bus.transcript ++ answers))) e ∙ ap (cost_of p r m) (at answers) ∙ same;
      fed_is = λ answers m. let e : 0 + m ≡ m = omega arith in ap (λ b. is_fed p r b (started p (answers_of bus.transcript ++ answers))) e ∙ ap (is_fed p r m) (at answers);
      after_is = λ answers m. let e : 0 + m ≡ m = omega arith in ap (λ b. run_after p r b (started p (answers_of bus.transcript ++ answers))) e ∙ ap (run_after p r m) (at answers);
    }

-- ---- costs

-- a cost below 2 ^ 64 - 1 is told as it is
pub told_cost : (cost spent budget : ℕ) → cost ≡ min spent (2 ^ 64 - 1) → cost < budget → budget < 2 ^ 64 → spent ≡ cost
told_cost cost spent budget is less fits = omega (arith, is, less, fits)

pub cost_more : (cost spent x : ℕ) → cost ≡ min spent (2 ^ 64 - 1) → more_cost cost x ≡ min (spent + (x + 1)) (2 ^ 64 - 1)
cost_more cost spent x is = omega (arith, is)

-- ---- a step

module _ (p : Program) (r : Rights) (old : Run) (n spent : ℕ) (h : Reached p r old n spent) where
  abbrev T : List DeviceOp
  T = old.bus.transcript

  abbrev x : ℕ
  x = extra p old.state

  step_is : (answer : ℕ) → step p r answer old.state ≡ step old.program old.rights answer old.state
  step_is answer = ap (λ (q : Program). step q r answer old.state) (sym h.program_is) ∙ ap (λ (q : Rights). step old.program q answer old.state) (sym h.rights_is)

  -- ---- that goes on

  module _ (new : Run) (answer : ℕ) (walk : Walk) (went : GoesOn old answer walk new) where
    abbrev made : List DeviceOp
    made = went.made

    makes : step p r answer old.state ≡ Goes made new.state
    makes = step_is answer ∙ went.step

    pub more : new.bus.transcript ≡ T ++ made
    more = made_more made old.bus new.bus (one_of p r answer old.state new.state made makes) went.bus

    abbrev now : List ℕ → SourceRun
    now answers = here old (answers_of made ++ answers)

    walks : (answers : List ℕ) → run_step p r (now answers) ≡ Goes made (here new answers)
    walks answers = stepped p r old.state new.state answer made answers makes

    taken : (answers : List ℕ) → started p (answers_of new.bus.transcript ++ answers) ≡ started p (answers_of T ++ (answers_of made ++ answers))
    taken answers = ap (started p) (ap (λ t. answers_of t ++ answers) more ∙ ap (λ l. l ++ answers) (answers-append T made) ∙ append_assoc (answers_of T) (answers_of made) answers)

    moved : (m : ℕ) → n + 1 + m ≡ n + suc m
    moved m = omega arith

    pub reached_next : Reached p r new (n + 1) (spent + (x + 1))
    reached_next = record {
      program_is = ap (λ (q : Run). q.program) went.same ∙ h.program_is;
      rights_is = ap (λ (q : Run). q.rights) went.same ∙ h.rights_is;
      going = ap (λ (q : Run). q.finish) went.same ∙ h.going;
      cost_is = ap (λ (q : Run). q.cost) went.same ∙ ap (λ (q : Program). more_cost old.cost (extra q old.state)) h.program_is ∙ cost_more old.cost spent x h.cost_is;
      expected_is = λ answers k.
          let total : spent + (x + 1) + k ≡ spent + (x + suc k) = omega arith in
          let rest = onward p r k (here new answers) in
          ap (λ b. onward p r b (started p (answers_of new.bus.transcript ++ answers))) total
          ∙ ap (onward p r (spent + (x + suc k))) (taken answers)
          ∙ h.expected_is (answers_of made ++ answers) (x + suc k)
          ∙ ap (before T) (reached_past (run_step p r) (λ (y : SourceRun). extra p y.state) k (now answers))
          ∙ ap (λ (s : Next DeviceOp SourceRun End). before T (act s (λ t. onward p r k t))) (walks answers)
          ∙ sym (before-append T made rest)
          ∙ ap (λ t. before t rest) (sym more);
      spent_is = λ answers m.
          let rest = cost_of p r m (here new answers) in
          let total : spent + (x + 1 + rest) ≡ spent + (x + 1) + rest = omega arith in
          ap (λ b. cost_of p r b (started p (answers_of new.bus.transcript ++ answers))) (moved m)
          ∙ ap (cost_of p r (n + suc m)) (taken answers)
          ∙ h.spent_is (answers_of made ++ answers) (suc m)
          ∙ ap (λ (s : Next DeviceOp SourceRun End). spent + (x + 1 + later s 0 (λ t. cost_of p r m t))) (walks answers)
          ∙ total;
      fed_is = λ answers m.
          ap (λ b. is_fed p r b (started p (answers_of new.bus.transcript ++ answers))) (moved m)
          ∙ ap (is_fed p r (n + suc m)) (taken answers)
          ∙ h.fed_is (answers_of made ++ answers) (suc m)
          ∙ ap (λ b. not b && later (run_step p r (now answers)) true (λ t. is_fed p r m t)) (unstarved p r old.state new.state answer made answers makes)
          ∙ ap (λ (s : Next DeviceOp SourceRun End). later s true (λ t. is_fed p r m t)) (walks answers);
      after_is = λ answers m.
          ap (λ b. run_after p r b (started p (answers_of new.bus.transcript ++ answers))) (moved m)
          ∙ ap (run_after p r (n + suc m)) (taken answers)
          ∙ h.after_is (answers_of made ++ answers) (suc m)
          ∙ ap (λ (s : Next DeviceOp SourceRun End). later s (now answers) (λ t. run_after p r m t)) (walks answers);
    }

    -- the step was begun below a budget
    pub begun_next : (budget : ℕ) → old.cost < budget → budget < 2 ^ 64 → BegunBelow p r budget T n → BegunBelow p r budget new.bus.transcript (n + 1)
    begun_next budget less fits below answers m lt =
        subst (λ (s : SourceRun). cost_of p r m s < budget) (sym (taken answers)) (by (nat_split n m))
      where
        by : (n ≤ m) ⊎ ((k : ℕ) × (n ≡ m + 1 + k)) → cost_of p r m (started p (answers_of T ++ (answers_of made ++ answers))) < budget
        by (inl le) =
            let last : m ≡ n + 0 = omega (arith, le, lt) in
            let here_is : cost_of p r m (started p (answers_of T ++ (answers_of made ++ answers))) ≡ spent + 0 = ap (λ b. cost_of p r b (started p (answers_of T ++ (answers_of made ++ answers)))) last ∙ h.spent_is (answers_of made ++ answers) 0 in
            let cost_here : spent ≡ old.cost = told_cost old.cost spent budget h.cost_is less fits in
            omega (arith, here_is, cost_here, less)
        by (inr (k, e)) = below (answers_of made ++ answers) m (omega (arith, e))

    pub advances : (budget : ℕ) → Advances p r old new n spent budget answer walk went
    advances budget = record { reached = reached_next; transcript = more; begun = begun_next budget }

  -- ---- that isn't made

  alone : started p (answers_of T) ≡ started p (answers_of T ++ [])
  alone = ap (started p) (sym (append-nil (answers_of T)))

  all : n ≡ n + 0
  all = omega arith

  pub stands : Came p r n spent (record { made = T; finish = None })
  stands =
      let f : List DeviceOp → runs.Outcome DeviceOp End = λ l. record { made = l; finish = None } in
      let whole : spent ≡ spent + 0 = omega arith in
      record {
        expected_is = ap (onward p r spent) alone ∙ ap (λ b. onward p r b (started p (answers_of T ++ []))) whole ∙ h.expected_is [] 0 ∙ ap f (append-nil T);
        spent_is = ap (cost_of p r n) alone ∙ ap (λ b. cost_of p r b (started p (answers_of T ++ []))) all ∙ h.spent_is [] 0 ∙ sym whole;
        fed_is = ap (is_fed p r n) alone ∙ ap (λ b. is_fed p r b (started p (answers_of T ++ []))) all ∙ h.fed_is [] 0;
      }

  -- ---- that ends the run

  module _ (new : Run) (walk : Walk) (ends : Finishes old walk new) where
    abbrev e : End
    e = ends.with_end

    stops : (answer : ℕ) → step p r answer old.state ≡ Stops [] e
    stops answer = step_is answer ∙ ends.step answer

    pub comes : Came p r (n + 1) (spent + (x + 1)) (record { made = T; finish = Some e })
    comes =
        let f : List DeviceOp → runs.Outcome DeviceOp End = λ l. record { made = l; finish = Some e } in
        let last : run_step p r (here old []) ≡ Stops [] e = stopped p r old.state e stops [] in
        record {
          expected_is =
              ap (onward p r (spent + (x + 1))) alone
              ∙ h.expected_is [] (x + 1)
              ∙ ap (before T) (reached_past (run_step p r) (λ (y : SourceRun). extra p y.state) 0 (here old []))
              ∙ ap (λ (s : Next DeviceOp SourceRun End). before T (act s (λ t. onward p r 0 t))) last
              ∙ ap f (append-nil T);
          spent_is =
              let total : spent + (x + 1 + 0) ≡ spent + (x + 1) = omega arith in
              ap (cost_of p r (n + 1)) alone
              ∙ h.spent_is [] 1
              ∙ ap (λ (s : Next DeviceOp SourceRun End). spent + (x + 1 + later s 0 (λ t. cost_of p r 0 t))) last
              ∙ total;
          fed_is =
              ap (is_fed p r (n + 1)) alone
              ∙ h.fed_is [] 1
              ∙ ap (λ b. not b && later (run_step p r (here old [])) true (λ t. is_fed p r 0 t)) (fed_to_end p r old.state e stops [])
              ∙ ap (λ (s : Next DeviceOp SourceRun End). later s true (λ t. is_fed p r 0 t)) last;
        }

    -- the last step was begun below a budget
    pub begun_last : (budget : ℕ) → old.cost < budget → budget < 2 ^ 64 → BegunBelow p r budget T n → BegunBelow p r budget T (n + 1)
    begun_last budget less fits below answers m lt = by (nat_split n m)
      where
        by : (n ≤ m) ⊎ ((k : ℕ) × (n ≡ m + 1 + k)) → cost_of p r m (started p (answers_of T ++ answers)) < budget
        by (inl le) =
            let last : m ≡ n + 0 = omega (arith, le, lt) in
            let here_is : cost_of p r m (started p (answers_of T ++ answers)) ≡ spent + 0 = ap (λ b. cost_of p r b (started p (answers_of T ++ answers))) last ∙ h.spent_is answers 0 in
            let cost_here : spent ≡ old.cost = told_cost old.cost spent budget h.cost_is less fits in
            omega (arith, here_is, cost_here, less)
        by (inr (k, q)) = below answers m (omega (arith, q))

-- ---- denials

kept_act : (n : Next DeviceOp SourceRun End) (go : SourceRun → runs.Outcome DeviceOp End) → ((e : End) (ops : List DeviceOp) → n ≡ Stops ops e → IsNoDenial e) → ((y : SourceRun) → IfSome (go y).finish IsNoDenial) → IfSome (act n go).finish IsNoDenial
kept_act (Goes ops t) go stops kept = kept t
kept_act (Stops ops e) go stops kept = stops e ops refl

no_denial : (o : Outcome) (answers : List ℕ) (e : End) (made : List DeviceOp) → IsNotDenied o → with_answers answers o ≡ Stops made e → IsNoDenial e
no_denial (Goes made s) answers e m h is = cc
no_denial (Stops made f) answers e m h is = let same : f ≡ e = cc in subst IsNoDenial same h

module _ (p : Program) (r : Rights) (free : (answer : ℕ) (s : State) → IsNotDenied (step p r answer s)) where
  by_advance : (b : Bool) (s : State) (answers : List ℕ) (e : End) (made : List DeviceOp) → advance p r b s answers ≡ Stops made e → IsNoDenial e
  by_advance false s answers e made is = no_denial (step p r 0 s) answers e made (free 0 s) is
  by_advance true s [] e made is = cc
  by_advance true s (answer ∷ answers) e made is = no_denial (step p r answer s) answers e made (free answer s) is

  pub undenied : (k wait : ℕ) (y : SourceRun) → IfSome (within (run_step p r) (λ (z : SourceRun). extra p z.state) k wait y).finish IsNoDenial
  undenied zero wait y = tt
  undenied (suc k) (suc wait) y = undenied k wait y
  undenied (suc k) zero y = kept_act (run_step p r y) _ (λ e made is. by_advance (asks y.state) y.state y.answers e made is) (λ t. undenied k (extra p t.state) t)

pub unguarded_free : (p : Program) (r : Rights) → r.guarded ≡ false → (answer : ℕ) (s : State) → IsNotDenied (step p r answer s)
unguarded_free p r g answer s = every_step p r IsNotDenied (none_denied p r (λ t place. plain p r _ place false g (λ h. cc)) (λ t place l. plain p r _ place true g (λ h. l))) answer s
