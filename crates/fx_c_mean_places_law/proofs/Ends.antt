-- A run has one end, so what it is denied has one name.
use Rattle.std.proofs.Common.{◌≡◌, ℕ, zero, suc, ◌+◌, ◌-◌, ◌≤◌, ◌⊎◌, inl, inr, Bool, true, false, List, [], ◌∷◌, Option, Some, refl, sym, ap, ◌∙◌, arith}
use Rattle.std.proofs.lemmas.Bool.{cases_lt}
use Rattle.fx_outcomes.specs.Runs.{Next, Goes, Stops, later}
use Rattle.fx_base.specs.declared.device_op.DeviceOp.{DeviceOp}
use Rattle.fx_image.specs.Layout.{object_at}
use Rattle.fx_c_mean_model.specs.declared.end.End.{End}
use Rattle.fx_c_mean_model.specs.declared.end.End.TheVariants.{Denied}
use Rattle.fx_c_mean_model.specs.declared.rights.Rights.{Rights}
use Rattle.fx_c_mean_model.specs.Programs.{Program}
use Rattle.fx_c_mean_model.specs.States.{Spot, Does, Ask}
use Rattle.fx_c_mean_model.specs.Steps.{State, Outcome, perform, step}
use Rattle.fx_c_mean_model.specs.Expected.{Run, with_answers, is_ask, asks, advance, run_step, started, run_after, state_at}
use Rattle.fx_c_mean_places.specs.Places.{address_of}
use Rattle.fx_c_mean_places_law.specs.Laws.{NamesAreOne}

module _ (p : Program) (r : Rights) where
  -- ---- a run that ended stays

  stays : (n : ℕ) (x : Run) (made : List DeviceOp) (e : End) → run_step p r x ≡ Stops made e → run_after p r n x ≡ x
  stays zero x made e h = refl
  stays (suc n) x made e h = ap (λ (o : Next DeviceOp Run End). later o x (λ y. run_after p r n y)) h

  by_step : (m n : ℕ) (x : Run) → ((y : Run) → run_after p r (m + n) y ≡ run_after p r n (run_after p r m y)) → (o : Next DeviceOp Run End) → run_step p r x ≡ o
      → later o x (λ y. run_after p r (m + n) y) ≡ run_after p r n (later o x (λ y. run_after p r m y))
  by_step m n x more (Goes made y) h = more y
  by_step m n x more (Stops made e) h = sym (stays n x made e h)

  further_on : (m n : ℕ) (x : Run) → run_after p r (m + n) x ≡ run_after p r n (run_after p r m x)
  further_on zero n x = let none : 0 + n ≡ n = omega arith in ap (λ i. run_after p r i x) none
  further_on (suc m) n x =
      let one : suc m + n ≡ suc (m + n) = omega arith in
      ap (λ i. run_after p r i x) one ∙ by_step m n x (λ y. further_on m n y) (run_step p r x) refl

  -- ---- where a step ends the run

  no_ask : (s : State) (spot : Spot) (made : List DeviceOp) (e : End) → perform p r 0 s spot ≡ Stops made e → is_ask spot ≡ false
  no_ask s (Does (Ask device register) rest) made e h = cc
  no_ask s (Does act rest) made e h = refl

  stopped : (x : Run) (made : List DeviceOp) (e : End) → step p r 0 x.state ≡ Stops made e → run_step p r x ≡ Stops made e
  stopped x made e h = ap (λ b. advance p r b x.state x.answers) (no_ask x.state x.state.spot made e h) ∙ ap (with_answers x.answers) h

  same_later : (m n : ℕ) (x : Run) (made : List DeviceOp) (e : End) → step p r 0 (run_after p r m x).state ≡ Stops made e → m ≤ n → run_after p r n x ≡ run_after p r m x
  same_later m n x made e h le =
      let split : n ≡ m + (n - m) = omega arith in
      ap (λ i. run_after p r i x) split ∙ further_on m (n - m) x ∙ stays (n - m) (run_after p r m x) made e (stopped (run_after p r m x) made e h)

  same_end : (m n : ℕ) (x : Run) (made more : List DeviceOp) (e f : End) → step p r 0 (run_after p r m x).state ≡ Stops made e → step p r 0 (run_after p r n x).state ≡ Stops more f → run_after p r m x ≡ run_after p r n x
  same_end m n x made more e f h q =
      elim (cases_lt m n) [
        | inl less ↦ sym (same_later m n x made e h (omega arith))
        | inr le ↦ same_later n m x more f q le
      ]

-- ---- denials

denials : (x y : Outcome) (c d i j m n : ℕ) (a b : Bool) → x ≡ y → x ≡ Stops [] (Denied c i m a) → y ≡ Stops [] (Denied d j n b) → (i ≡ j) × (m ≡ n)
denials x y c d i j m n a b e h q = (cc, cc)

pub names_one : NamesAreOne
names_one p r k at image answers found other object offset that byte h q =
    let one : state_at p r answers h.steps ≡ state_at p r answers q.steps = ap (λ (x : Run). x.state) (same_end p r h.steps q.steps (started p answers) [] [] _ _ h.ends q.ends) in
    let same = denials _ _ _ _ object that offset byte _ _ (ap (step p r 0) one) h.ends q.ends in
    let stands : Some h.address ≡ Some q.address =
    sym h.stands ∙ ap (λ (s : State). address_of p r k at s object) one ∙ ap (address_of p r k at (state_at p r answers q.steps)) same.0 ∙ q.stands in
    let address : h.address ≡ q.address = cc in
    let byte_is : h.address + offset ≡ q.address + byte = omega (arith, same.1) in
    (sym h.there ∙ ap (object_at image) byte_is ∙ q.there, same.0, same.1)
