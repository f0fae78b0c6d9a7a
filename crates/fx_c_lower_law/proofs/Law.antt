-- The law.
use Rattle.std.proofs.Common.{◌≡◌, Bool, true, false, ℕ, zero, suc, ◌+◌, inl, inr, List, [], ◌∷◌, length, map, Option, Some, None, refl, sym, ap, ◌∙◌, subst, arith}
use Rattle.std.specs.Prelude.{slice_index_or}
use Rattle.fx_outcomes.specs.Runs.{Goes, Stops}
use Rattle.fx_outcomes.specs.Keeping.{Refines}
use Rattle.fx_base.specs.declared.device_op.DeviceOp.{DeviceOp}
use Rattle.fx_c_mean_blocks.specs.declared.value.Value.{Value}
use Rattle.fx_c_mean_blocks.specs.declared.value.Cell.{Cell}
use Rattle.fx_c_mean_blocks.specs.declared.value.Value.TheVariants.{Number}
use Rattle.fx_c_mean_model.specs.declared.end.End.{End}
use Rattle.fx_c_mean_model.specs.declared.rights.Rights.{Rights}
use Rattle.fx_c_mean_model.specs.Programs.{Program, Function, function_at, no_function, size_in}
use Rattle.fx_c_mean_model.specs.States.{First, Frame, Act, Push, SizeOf, GlobalAddress, LiteralAddress, LocalAddress, Load, Apply, Convert, Step, Combine, Decide, Judge, Enter, Ask, Tell, Spawn, Switch, Self, Store, ReadByte, WriteByte, Branch, Test, JumpBack, Break, Continue, Leave, FallOff, Stuck, Spot, Does}
use Rattle.fx_c_mean_model.specs.Steps as source
use Rattle.fx_c_mean_model.specs.Steps.{place_of}
use Rattle.fx_c_mean_model.specs.Expected as expected
use Rattle.fx_c_mean_model.specs.Expected.{is_ask}
use Rattle.fx_c_lin.specs.Ops as op
use Rattle.fx_c_lin.specs.Machine as lin
use Rattle.fx_c_lin.specs.Machine.{Saved, At, Begins, Copies, word_of, steps_of, no_code, settled}
use Rattle.fx_c_lower_model.specs.Code.{function_code, code_of}
use Rattle.fx_c_lower_law.specs.Fits.{FitsProgram}
use Rattle.fx_c_lower_law.specs.Correct.{IsUndefined, LoweringCorrect}
use Rattle.fx_c_lower_law.proofs.Relation.{Knows, places_of, Match}
use Rattle.fx_c_lower_law.proofs.Relation as relation
use Rattle.fx_c_lower_law.proofs.Results as results
use Rattle.fx_c_lower_law.proofs.Results.{Makes, Waits, Breaks}
use Rattle.fx_c_lower_law.proofs.Acts as acts
use Rattle.fx_c_lower_law.proofs.Accesses as accesses
use Rattle.fx_c_lower_law.proofs.Combine as combining
use Rattle.fx_c_lower_law.proofs.Truths as truths
use Rattle.fx_c_lower_law.proofs.Calls as calls
use Rattle.fx_c_lower_law.proofs.Ticks as ticks
use Rattle.fx_c_lower_law.proofs.Ticks.{Both, Quiet, Ends, Lost, Stalls}

module _ (p : Program) (r : Rights) (all : List (List op.Step)) (right : (f : ℕ) → steps_of all f ≡ function_code p (function_at p f)) (fits : FitsProgram p) where
  module _ (s : source.State) (us : List lin.Thread) (cs : List Saved) (waiting : relation.ThreadsAt p all (places_of s.memory) s.threads us) where
    -- each step of a call
    act : (now : Act) (rest : List Frame) (owed at : ℕ) (stack : List Value) → Knows p (places_of s.memory) s.call → relation.BelowAt p all (places_of s.memory) (Does now rest) cs → relation.ActAt p all s.memory s.call owed now rest at stack → results.Result2 p r all owed s now rest (results.built p r all s us cs (At at stack))
    act (Push v) rest owed at stack knows leaves h = rw h.1 (acts.given p r all s us cs waiting knows owed (Push (Number h.0)) rest at stack (Number h.0) h.0 refl (λ answer. refl) refl refl leaves h.2)
    act (SizeOf ty) rest owed at stack knows leaves h = acts.given p r all s us cs waiting knows owed (SizeOf ty) rest at stack (Number (size_in p ty)) (size_in p ty) refl (λ answer. refl) refl refl leaves h
    act (GlobalAddress n) rest owed at stack knows leaves h = acts.gives_op p r all s us cs waiting knows owed (GlobalAddress n) rest at stack _ (place_of n 0) stack h.0.0 (omega arith) (omega arith) refl (λ answer. refl) (λ answer. refl) leaves h.1
    act (LiteralAddress n) rest owed at stack knows leaves h = acts.gives_op p r all s us cs waiting knows owed (LiteralAddress n) rest at stack _ (place_of (length p.globals + n) 0) stack h.0.0 (omega arith) (omega arith) refl (λ answer. refl) (λ answer. refl) leaves h.1
    act (LocalAddress n) rest owed at stack knows leaves h = acts.local_address p r all s us cs waiting knows n rest owed at stack leaves h
    act (Load ty v) rest owed at stack knows leaves h = accesses.load p r all s us cs waiting knows ty v rest owed at stack leaves h
    act (Apply o ty v) rest owed at stack knows leaves h = combining.apply p r all s us cs waiting knows o ty v rest owed at stack leaves h
    act (Convert s1 s2 v) rest owed at stack knows leaves h = combining.convert p r all s us cs waiting knows s1 s2 v rest owed at stack leaves h
    act (Step struct n v) rest owed at stack knows leaves h = combining.member p r all s us cs waiting knows struct n v rest owed at stack leaves h
    act (Combine o s1 s2 v w) rest owed at stack knows leaves h = combining.combine p r all s us cs waiting knows o s1 s2 v w rest owed at stack leaves h
    act (Decide o b v) rest owed at stack knows leaves h = truths.decide p r all s us cs waiting knows o b v rest owed at stack leaves h
    act (Judge v) rest owed at stack knows leaves h = truths.judge p r all s us cs waiting knows v rest owed at stack leaves h
    act (Enter g way values) rest owed at stack knows leaves h = calls.enter p r all right fits s us cs waiting knows g way values rest owed at stack leaves h
    act (Ask d n) rest owed at stack knows leaves h = combining.ask p r all s us cs waiting knows d n rest owed at stack leaves h
    act (Tell d n v) rest owed at stack knows leaves h = combining.tell p r all s us cs waiting knows d n v rest owed at stack leaves h
    act (Spawn g v) rest owed at stack knows leaves h = calls.spawn p r all right fits s us cs waiting knows g v rest owed at stack leaves h
    act (Switch v) rest owed at stack knows leaves h = calls.switch p r all right fits s us cs waiting knows v rest owed at stack leaves h
    act Self rest owed at stack knows leaves h = acts.gives_op p r all s us cs waiting knows owed Self rest at stack _ (Number s.current) stack h.0.0 (omega arith) (omega arith) refl (λ answer. refl) (λ answer. refl) leaves h.1
    act (Store ty to v) rest owed at stack knows leaves h = accesses.store p r all s us cs waiting knows ty to v rest owed at stack leaves h
    act (ReadByte ty to v done) rest owed at stack knows leaves h = accesses.copy p r all s us cs waiting knows ty to v done rest owed at stack leaves h
    act (WriteByte ty to v done cell) rest owed at stack knows leaves h = absurd h
    act (Branch v s1 other) rest owed at stack knows leaves h = truths.branch p r all s us cs waiting knows v s1 other rest owed at stack leaves h
    act (Test v loop) rest owed at stack knows leaves h = truths.test p r all s us cs waiting knows v loop rest owed at stack leaves h
    act (JumpBack loop) rest owed at stack knows leaves h = truths.back p r all s us cs waiting knows loop rest owed at stack leaves h
    act Break rest owed at stack knows leaves h = truths.break p r all s us cs waiting knows rest owed at stack leaves h
    act Continue rest owed at stack knows leaves h = truths.continue p r all s us cs waiting knows rest owed at stack leaves h
    act (Leave v) rest owed at stack knows leaves h = calls.leave p r all right fits s us cs waiting knows v rest owed at stack leaves h
    act FallOff rest owed at stack knows leaves h = calls.fall p r all right fits s us cs waiting knows rest owed at stack leaves h
    act Stuck rest owed at stack knows leaves h = Breaks (λ answer. refl) refl refl

    first : (g : ℕ) (values : List Value) → relation.Leaves p all (places_of s.memory) [] cs → results.Result2 p r all 0 s (Enter g First values) [] (results.built p r all s us cs (Begins g (map word_of values)))
    first g values leaves = Makes (λ answer. calls.begin p r all right fits s us cs waiting g values answer leaves) (omega arith) refl refl

    begin : (now : Act) (rest : List Frame) (owed g : ℕ) (words : List Value) → relation.BelowAt p all (places_of s.memory) (Does now rest) cs → relation.BeginAt p all owed now rest g words → results.Result2 p r all owed s now rest (results.built p r all s us cs (Begins g words))
    begin (Enter g First values) rest owed h words leaves x = rw (x.0, ← x.1, x.2, x.3) (first g values (subst (λ l. relation.Leaves p all (places_of s.memory) l cs) x.2 leaves))
    begin now rest owed h words leaves x = absurd x

    copies : (now : Act) (rest : List Frame) (owed at : ℕ) (stack : List Value) (bytes : ℕ) (to v : Value) (done : ℕ) (read : Option Cell) → Knows p (places_of s.memory) s.call → relation.BelowAt p all (places_of s.memory) (Does now rest) cs → relation.CopyAt p all s.call owed now rest at stack bytes to v done read → results.Result2 p r all owed s now rest (results.built p r all s us cs (Copies at stack bytes to v done read))
    copies (ReadByte ty to2 v2 done2) rest owed at stack bytes to v done read knows leaves x =
        rw (x.0, x.1, x.2, x.3, x.4, x.5, x.6) (Makes (λ answer. accesses.copied p r all s us cs waiting knows ty to2 v2 done2 rest at leaves x.7 (Copies at [] (size_in p ty) (word_of to2) (word_of v2) done2 None)) refl refl refl)
    copies (WriteByte ty to2 v2 done2 cell) rest owed at stack bytes to v done read knows leaves x =
        rw (x.0, x.1, x.2, x.3, x.4, x.5, x.6) (Makes (λ answer. accesses.wrote p r all s us cs waiting knows ty to2 v2 done2 cell rest at leaves x.7 (Copies at [] (size_in p ty) (word_of to2) (word_of v2) done2 (Some cell))) refl refl refl)
    copies now rest owed at stack bytes to v done read knows leaves x = absurd x

    stands : (now : Act) (rest : List Frame) (owed : ℕ) (there : lin.Spot) → relation.Stands p all s.memory s.call owed (Does now rest) there cs → results.Result2 p r all owed s now rest (results.built p r all s us cs there)
    stands now rest owed (At at stack) h = act now rest owed at stack h.2 h.1 h.0
    stands now rest owed (Begins g words) h = begin now rest owed g words h.1 h.0
    stands now rest owed (Copies at stack bytes to v done read) h = copies now rest owed at stack bytes to v done read h.2 h.1 h.0

  matched : (owed : ℕ) (s : source.State) (m : lin.State) (now : Act) (rest : List Frame) → s.spot ≡ Does now rest → Match p all owed s m → results.Result2 p r all owed s now rest m
  matched owed s m now rest e h = rw h.is (stands s h.threads h.callers h.waiting now rest owed h.there (subst (λ spot. relation.Stands p all s.memory s.call owed spot h.there h.callers) e h.spot))

  -- ---- runs

  pub record Runs (owed : ℕ) (x : expected.Run) (y : lin.Run) : Type 0 where
    pub answers : y.answers ≡ x.answers
    pub match : Match p all owed x.state y.state

  abbrev Moves : ℕ → expected.Run → lin.Run → Type 0
  Moves owed x y = ticks.Moves DeviceOp End expected.Run lin.Run IsUndefined (expected.run_step p r) (λ x. source.extra p x.state) (lin.run_step p r all) (λ y. lin.extra p all y.state) Runs owed x y

  abbrev run_at : source.State → List ℕ → expected.Run
  run_at s answers = record { state = s; answers = answers }

  abbrev code_at : lin.State → List ℕ → lin.Run
  code_at m answers = record { state = m; answers = answers }

  from_same : (owed : ℕ) (s : source.State) (m : lin.State) (before after : List ℕ) (x : source.Outcome) (y : lin.Outcome) → results.Same p r all x y → expected.run_step p r (run_at s before) ≡ expected.with_answers after x → lin.run_step p r all (code_at m before) ≡ lin.with_answers after (lin.onward all y) → lin.extra p all m ≡ owed + source.extra p s → Moves owed (run_at s before) (code_at m before)
  from_same owed s m before after (Goes o t) (Goes o2 n) h a b c =
      Both o (run_at t after) (code_at (record n { spot = settled (steps_of all n.call.function) n.spot }) after) a
      (b ∙ ap (λ l. Goes l (code_at (record n { spot = settled (steps_of all n.call.function) n.spot }) after)) h.0) c (record { answers = refl; match = h.1 })
  from_same owed s m before after (Goes o t) (Stops o2 e) h a b c = absurd h
  from_same owed s m before after (Stops o e) y (inl q) a b c = Ends o e a (b ∙ ap (λ z. lin.with_answers after (lin.onward all z)) q) c
  from_same owed s m before after (Stops o e) y (inr q) a b c = Lost e (a ∙ ap (λ l. Stops l e) q.0) q.1 (omega (arith, c))

  -- a step of code that is done
  done_step : (m : lin.State) (answer : ℕ) (answers : List ℕ) → lin.goes_on (steps_of all m.call.function) m.spot ≡ true → lin.with_answers answers (lin.step p r all answer m) ≡ lin.with_answers answers (lin.onward all (lin.act p r all answer m m.spot))
  done_step m answer answers g = ap (λ b. lin.with_answers answers (lin.if_goes_on b m (lin.onward all (lin.act p r all answer m m.spot)))) g

  by_asking : (owed : ℕ) (s : source.State) (m : lin.State) (answers : List ℕ) (now : Act) (rest : List Frame) (b : Bool) → s.spot ≡ Does now rest → is_ask (Does now rest) ≡ b → lin.asks all m ≡ b → lin.goes_on (steps_of all m.call.function) m.spot ≡ true → lin.extra p all m ≡ owed + source.extra p s → ((answer : ℕ) → results.Same p r all (source.perform p r answer s (Does now rest)) (lin.act p r all answer m m.spot)) → Moves owed (run_at s answers) (code_at m answers)
  by_asking owed s m answers now rest false e a l g c same =
      from_same owed s m answers answers _ _ (same 0)
      (ap (λ b. expected.advance p r b s answers) (ap is_ask e ∙ a) ∙ ap (λ t. expected.with_answers answers (source.perform p r 0 s t)) e)
      (ap (λ b. lin.advance p r all b m answers) l ∙ done_step m 0 answers g) c
  by_asking owed s m [] now rest true e a l g c same =
      Stalls (ap (λ b. expected.advance p r b s []) (ap is_ask e ∙ a)) (ap (λ b. lin.advance p r all b m []) l)
  by_asking owed s m (answer ∷ answers) now rest true e a l g c same =
      from_same owed s m (answer ∷ answers) answers _ _ (same answer)
      (ap (λ b. expected.advance p r b s (answer ∷ answers)) (ap is_ask e ∙ a) ∙ ap (λ t. expected.with_answers answers (source.perform p r answer s t)) e)
      (ap (λ b. lin.advance p r all b m (answer ∷ answers)) l ∙ done_step m answer answers g) c

  by_result : (owed : ℕ) (s : source.State) (m : lin.State) (answers : List ℕ) (now : Act) (rest : List Frame) → s.spot ≡ Does now rest → results.Result2 p r all owed s now rest m → Moves owed (run_at s answers) (code_at m answers)
  by_result owed s m answers now rest e (Makes same cost asks goes) =
      by_asking owed s m answers now rest (is_ask (Does now rest)) e refl asks goes (cost ∙ ap (λ t. owed + source.act_extra p t) (sym e)) same
  by_result owed s m answers now rest e (Waits t by extra ask le match) =
      Quiet (run_at t answers) (ap (λ b. expected.advance p r b s answers) (ap is_ask e ∙ ask) ∙ ap (λ t. expected.with_answers answers (source.perform p r 0 s t)) e ∙ ap (λ z. expected.with_answers answers z) (by 0))
      (ap (λ t. source.act_extra p t) e ∙ extra) le (record { answers = refl; match = match })
  by_result owed s m answers now rest e (Breaks by extra ask) =
      let z : source.extra p s ≡ 0 = ap (λ t. source.act_extra p t) e ∙ extra in
      Lost _ (ap (λ b. expected.advance p r b s answers) (ap is_ask e ∙ ask) ∙ ap (λ t. expected.with_answers answers (source.perform p r 0 s t)) e ∙ ap (λ z. expected.with_answers answers z) (by 0)) tt (omega (arith, z))

  by_spot : (owed : ℕ) (s : source.State) (m : lin.State) (answers : List ℕ) (spot : Spot) → s.spot ≡ spot → Match p all owed s m → Moves owed (run_at s answers) (code_at m answers)
  by_spot owed s m answers (Does now rest) e h = by_result owed s m answers now rest e (matched owed s m now rest e h)

  moves : (owed : ℕ) (x : expected.Run) (y : lin.Run) → Runs owed x y → Moves owed x y
  moves owed x y h = subst (λ l. Moves owed x (code_at y.state l)) (sym h.answers) (by_spot owed x.state y.state x.answers x.state.spot refl h.match)

  starts : Match p all 0 (source.first_state p) (lin.first_state p)
  starts = record { threads = lin.Running ∷ []; callers = []; there = Begins p.main []; is = refl; waiting = (tt, tt); spot = ((refl, refl, refl, refl), refl, tt) }

  pub correct : (answers : List ℕ) (k : ℕ) → Refines IsUndefined (expected.expected p r answers k) (lin.performed p r all answers k)
  correct answers k =
      ticks.follows_so DeviceOp End expected.Run lin.Run IsUndefined (expected.run_step p r) (λ x. source.extra p x.state) (lin.run_step p r all) (λ y. lin.extra p all y.state) Runs moves k (run_at (source.first_state p) answers) (code_at (lin.first_state p) answers) (record { answers = refl; match = starts })

code_is : (fs : List Function) (p : Program) (f : ℕ) → slice_index_or (map (function_code p) fs) f no_code ≡ function_code p (slice_index_or fs f no_function)
code_is [] p f = refl
code_is (x ∷ fs) p zero = refl
code_is (x ∷ fs) p (suc f) = code_is fs p f

pub lowering : LoweringCorrect
lowering p r answers k fits = correct p r (code_of p) (λ f. code_is p.functions p f) fits answers k
