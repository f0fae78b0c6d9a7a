-- The end of a run is that of one of its steps.
use Rattle.std.proofs.Common.{◌≡◌, ℕ, zero, suc, Bool, true, false, List, [], ◌∷◌, Some, refl, sym, subst}
use Rattle.fx_outcomes.specs.Runs.{Next, Goes, Stops, act, within}
use Rattle.fx_outcomes.specs.Runs as runs
use Rattle.fx_base.specs.declared.device_op.DeviceOp.{DeviceOp}
use Rattle.fx_c_mean_model.specs.declared.end.End.{End}
use Rattle.fx_c_mean_model.specs.declared.rights.Rights.{Rights}
use Rattle.fx_c_mean_model.specs.Programs.{Program}
use Rattle.fx_c_mean_model.specs.Steps.{State, Outcome, step, extra}
use Rattle.fx_c_mean_model.specs.Expected.{Run, with_answers, asks, advance, run_step, started, run_after, expected}
use Rattle.fx_c_mean_model.specs.Laws.{IsOneOperation, IsOfStep}
use Rattle.fx_c_mean_model.proofs.Every.{every_step}
use Rattle.fx_c_mean_model.proofs.Denials.{one_made}

module _ (p : Program) (r : Rights) where
  -- an end comes with no operation
  by_outcome : (o : Outcome) (answers : List ℕ) (made : List DeviceOp) (e : End) → IsOneOperation o → with_answers answers o ≡ Stops made e → o ≡ Stops [] e
  by_outcome (Goes m s) answers made e one is = cc
  by_outcome (Stops m f) answers made e one is = let same : f ≡ e = cc in cc

  by_advance : (b : Bool) (s : State) (answers : List ℕ) (made : List DeviceOp) (e : End) → advance p r b s answers ≡ Stops made e → (answer : ℕ) × (step p r answer s ≡ Stops [] e)
  by_advance false s answers made e is = (0, by_outcome (step p r 0 s) answers made e (every_step p r IsOneOperation (one_made p r) 0 s) is)
  by_advance true s [] made e is = cc
  by_advance true s (answer ∷ answers) made e is = (answer, by_outcome (step p r answer s) answers made e (every_step p r IsOneOperation (one_made p r) answer s) is)

  abbrev Ends : Run → End → Type 0
  Ends x e = (n : ℕ) × (answer : ℕ) × (step p r answer (run_after p r n x).state ≡ Stops [] e)

  through : (x : Run) (e : End) (made : List DeviceOp) (y : Run) → run_step p r x ≡ Goes made y → Ends y e → Ends x e
  through x e made y is (n, answer, h) = (suc n, answer, subst (λ (next : Next DeviceOp Run End). step p r answer (runs.later next x (λ z. run_after p r n z)).state ≡ Stops [] e) (sym is) h)

  acted : (x : Run) (e : End) (next : Next DeviceOp Run End) (go : Run → runs.Outcome DeviceOp End) → run_step p r x ≡ next → ((y : Run) → (go y).finish ≡ Some e → Ends y e) → (act next go).finish ≡ Some e → Ends x e
  acted x e (Goes made y) go is more h = through x e made y is (more y h)
  acted x e (Stops made f) go is more h =
      let same : f ≡ e = cc in
      let (answer, ends) = by_advance (asks x.state) x.state x.answers made f is in
      (zero, answer, subst (λ g. step p r answer x.state ≡ Stops [] g) same ends)

  pub ends : (k wait : ℕ) (x : Run) (e : End) → (within (run_step p r) (λ y. extra p y.state) k wait x).finish ≡ Some e → Ends x e
  ends zero wait x e h = cc
  ends (suc k) (suc wait) x e h = ends k wait x e h
  ends (suc k) zero x e h = acted x e (run_step p r x) (λ y. within (run_step p r) (λ z. extra p z.state) k (extra p y.state) y) refl (λ y g. ends k (extra p y.state) y e g) h

pub of_a_step : (p : Program) (r : Rights) (answers : List ℕ) (k : ℕ) (e : End) → (expected p r answers k).finish ≡ Some e → IsOfStep p r answers e
of_a_step p r answers k e h =
    let (n, answer, is) = ends p r k (extra p (started p answers).state) (started p answers) e h in
    record { steps = n; answer = answer; ends = is }
