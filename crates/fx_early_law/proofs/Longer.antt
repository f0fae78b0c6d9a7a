-- Runs by longer schedules.
use Rattle.std.proofs.Common.{◌≡◌, ℕ, zero, suc, ◌+◌, ◌-◌, ◌%◌, ◌≤◌, List, [], ◌∷◌, ◌++◌, Some, None, refl, ap, sym, ◌∙◌, arith, append_assoc}
use Rattle.std.proofs.lemmas.List.{append-nil}
use Rattle.fx_base.specs.declared.device_op.DeviceOp.{DeviceOp}
use Rattle.fx_outcomes.specs.Runs.{Next, Goes, Stops, Outcome, run, before, act, later, turns, after, nothing}
use Rattle.fx_outcomes.specs.Many.{Many, turn}
use Rattle.fx_cpu.specs.declared.registers.Regs.{Regs}
use Rattle.fx_machine_model.specs.Moves.{World}
use Rattle.fx_machine_model.specs.declared.stop.Stop.{Stop}
use Rattle.fx_machine.specs.Turns.{made_of}
use Rattle.fx_run_core.specs.Ran.{named, names}

-- the numbers of more turns begin with those of fewer
names-more : (schedule : List ℕ) (n k : ℕ) → (more : List ℕ) × (names schedule (n + k) ≡ names schedule n ++ more)
names-more schedule n zero =
    let e : n + 0 ≡ n = omega arith in
    ([], ap (names schedule) e ∙ sym (append-nil (names schedule n)))
names-more schedule n (suc k) =
    let e : n + suc k ≡ suc (n + k) = omega arith in
    let rest = names-more schedule n k in
    let last = named schedule (n + k) ∷ [] in
    (rest.0 ++ last, ap (names schedule) e ∙ ap (λ us. us ++ last) rest.1 ∙ append_assoc (names schedule n) rest.0 last)

pub names-up_to : (schedule : List ℕ) (n budget : ℕ) → n ≤ budget → (more : List ℕ) × (names schedule budget ≡ names schedule n ++ more)
names-up_to schedule n budget within =
    let e : budget ≡ n + (budget - n) = omega arith in
    let rest = names-more schedule n (budget - n) in
    (rest.0, ap (names schedule) e ∙ rest.1)

module _ (do_turn : ℕ → Many Regs World → Next DeviceOp (Many Regs World) Stop) (processors : ℕ) where
  abbrev run_by : List ℕ → Many Regs World → Outcome DeviceOp Stop
  run_by us m = run do_turn processors us m

  abbrev turns_by : List ℕ → Many Regs World → ℕ
  turns_by us m = turns do_turn processors us m

  abbrev Step : Type 0
  Step = Next DeviceOp (Many Regs World) Stop

  -- what follows a turn makes as many turns, where what follows its state does
  stopped_next : (us more : List ℕ) (stop : Stop) → ((n : Many Regs World) → (run_by us n).finish ≡ Some stop → turns_by (us ++ more) n ≡ turns_by us n) → (x : Step) → (act x (run_by us)).finish ≡ Some stop
      → later x 0 (turns_by (us ++ more)) ≡ later x 0 (turns_by us)
  stopped_next us more stop same (Goes made n) e = same n e
  stopped_next us more stop same (Stops made t) e = refl

  -- behind a stop no turn is made
  pub stopped-more : (us more : List ℕ) (stop : Stop) (m : Many Regs World) → (run_by us m).finish ≡ Some stop → turns_by (us ++ more) m ≡ turns_by us m
  stopped-more [] more stop m e = cc
  stopped-more (u ∷ us) more stop m e = ap suc (stopped_next us more stop (stopped-more us more stop) (do_turn (u % processors) m) e)

  abbrev made_then : List ℕ → ℕ → Many Regs World → List DeviceOp
  made_then us u m = made_of (do_turn (u % processors) (after do_turn processors us m))

  last_made : (x : Step) → (act x (λ n. nothing {O = DeviceOp} {E = Stop})).made ≡ made_of x
  last_made (Goes made n) = append-nil made
  last_made (Stops made t) = refl

  made_next : (us : List ℕ) (u : ℕ) (m : Many Regs World) → ((n : Many Regs World) → (run_by us n).finish ≡ None → (run_by (us ++ u ∷ []) n).made ≡ (run_by us n).made ++ made_then us u n) → (x : Step) → (act x (run_by us)).finish ≡ None
      → (act x (run_by (us ++ u ∷ []))).made ≡ (act x (run_by us)).made ++ made_of (do_turn (u % processors) (later x m (after do_turn processors us)))
  made_next us u m same (Goes made n) e = ap (λ l. made ++ l) (same n e) ∙ sym (append_assoc made (run_by us n).made (made_then us u n))
  made_next us u m same (Stops made t) e = cc

  -- one turn more, of a run that didn't stop
  pub made-one_more : (us : List ℕ) (u : ℕ) (m : Many Regs World) → (run_by us m).finish ≡ None → (run_by (us ++ u ∷ []) m).made ≡ (run_by us m).made ++ made_then us u m
  made-one_more [] u m e = last_made (do_turn (u % processors) m)
  made-one_more (w ∷ us) u m e = made_next us u m (made-one_more us u) (do_turn (w % processors) m) e
