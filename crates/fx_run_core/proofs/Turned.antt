-- What a turn of the machine's answers come to, with the input and the output.
use Rattle.std.proofs.Common.{◌≡◌, ℕ, ◌<◌, inl, inr, List, [], ◌∷◌, ◌++◌, take, Option, None, refl, ap, sym, ◌∙◌, subst, arith}
use Rattle.std.proofs.lemmas.List.{append-nil}
use Rattle.std.proofs.lemmas.Option.{MatchOption-at_none}
use Rattle.fx_base.specs.Faults.{Rose}
use Rattle.fx_base.specs.Sink.{Gains}
use Rattle.fx_base.specs.Told.{Told}
use Rattle.fx_machine_model.specs.declared.stop.Stop.{Stop}
use Rattle.fx_machine_model.specs.declared.stop.Turn.TheVariants as turns
use Rattle.fx_machine.specs.Turns.{Running, Turned, Waits, Gave, console_load}
use Rattle.fx_machine_model.specs.declared.outcome.Outcome.TheVariants.{Stopped, Device, ReadFault, WriteFault, OutOfMemory}
use Rattle.fx_run_core.specs.Ran.{outputs, inputs, Gained, Reads}
use Rattle.fx_run_core.specs.Stepping.{Same, LostOne, WentOn, EndsBy}
use Rattle.fx_run_core.proofs.Telling.{told_same, told_map, went_puts, output_puts, lost_one, nothing_put, nothing_read}

abbrev Tale : Type 0
Tale = Option (List ℕ)

same_told : (o : Tale) → Told Same o o
same_told o = told_same Same (λ x. refl) o

module _ (m n : Running) (v : ℕ) (going : m.stop ≡ None) where
  pub by_went : (taken left : Tale) → Turned m v turns.Went n → WentOn m v n taken taken left left
  by_went taken left h =
      let t = MatchOption-at_none _ _ going h in
      let p = went_puts t.0 t.1.one t.2 in
      (t.0, t.1, inl t.3, told_same (Gained (outputs t.0)) (nothing_put (outputs t.0) p.0) taken, told_same (Reads (inputs t.0)) (nothing_read (inputs t.0) p.1) left)

  pub by_output : (b : ℕ) (taken gained left : Tale) → Turned m v (turns.Output b) n → Told (Gains (b ∷ []) 1) taken gained → WentOn m v n taken gained left left
  by_output b taken gained left h put =
      let t = MatchOption-at_none _ _ going h in
      let p = output_puts t.0 b t.1.one t.2 in
      (t.0, t.1, inl t.3, told_map (Gains (b ∷ []) 1) (Gained (outputs t.0)) (λ x y q. q ∙ ap (λ o. x ++ o) (sym p.0)) taken gained put, told_same (Reads (inputs t.0)) (nothing_read (inputs t.0) p.1) left)

  pub by_unput : (b k input read out failed : ℕ) (taken gained left : Tale) → Turned m v (turns.Output b) n → k < 1 → Told (Gains (b ∷ []) k) taken gained → Rose out failed → EndsBy m v n taken gained left left input read out failed WriteFault
  by_unput b k input read out failed taken gained left h less put rose =
      let t = MatchOption-at_none _ _ going h in
      let p = output_puts t.0 b t.1.one t.2 in
      let none : k ≡ 0 = omega (arith, less) in
      (t.0, t.1, inl t.3, p.1, b, p.0, rose, told_map (Gains (b ∷ []) k) Same (λ x y q. q ∙ ap (λ i. x ++ take i (b ∷ [])) none ∙ append-nil x) taken gained put, same_told left)

  pub by_stop : (stop : Stop) (taken left : Tale) (input read out failed : ℕ) → Turned m v (turns.Stopped stop) n → EndsBy m v n taken taken left left input read out failed (Stopped stop)
  by_stop stop taken left input read out failed h =
      let t = MatchOption-at_none _ _ going h in
      (t.0, ap (λ (r : Running). r.bus) t.1, same_told taken, same_told left)

  pub by_fault : (i : ℕ) (taken left : Tale) (input read out failed : ℕ) → Turned m v (turns.DeviceFault i) n → EndsBy m v n taken taken left left input read out failed (Device i)
  by_fault i taken left input read out failed h =
      let t = MatchOption-at_none _ _ going h in
      (t.0, t.1, t.2, t.3, same_told taken, same_told left)

  pub by_want : (taken left : Tale) (input read out failed : ℕ) → Turned m v turns.OutOfMemory n → EndsBy m v n taken taken left left input read out failed OutOfMemory
  by_want taken left input read out failed h =
      let t = MatchOption-at_none _ _ going h in
      (ap (λ (r : Running). r.bus) t.2, same_told taken, inl (same_told left))

  -- ---- input

  pub waits : Turned m v turns.Input n → Waits n v
  waits h =
      let t = MatchOption-at_none _ _ going h in
      subst (λ (x : Running). Waits x v) (sym t.1) (record { going = going; asks = t.0 })

  pub by_read_fault : (taken left lost : Tale) (input read out failed : ℕ) → Turned m v turns.Input n → Told Same left lost → Rose input read → EndsBy m v n taken taken left lost input read out failed ReadFault
  by_read_fault taken left lost input read out failed h told rose =
      let t = MatchOption-at_none _ _ going h in
      (t.0, rose, ap (λ (r : Running). r.bus) t.1, same_told taken, told)

  module _ (k : Running) (answer : ℕ) (h : Turned m v turns.Input n) where
    same : n ≡ m
    same = let t = MatchOption-at_none _ _ going h in t.1

    pub by_given : (taken left lost : Tale) → Gave n v answer turns.Went k → Told (Reads (answer ∷ [])) left lost → WentOn m v k taken taken left lost
    by_given taken left lost g told =
        let w : Gave m v answer turns.Went k = subst (λ (x : Running). Gave x v answer turns.Went k) same g in
        (console_load answer ∷ [], w.0, inr (answer, refl, w.1), told_same (Gained []) (nothing_put [] refl) taken, told)

    pub by_ungiven : (taken left lost : Tale) (input read out failed : ℕ) → Gave n v answer turns.OutOfMemory k → Told (Reads (answer ∷ [])) left lost → EndsBy m v k taken taken left lost input read out failed OutOfMemory
    by_ungiven taken left lost input read out failed g told =
        (ap (λ (r : Running). r.bus) (g ∙ same), same_told taken, inr (told_map (Reads (answer ∷ [])) LostOne (lost_one answer) left lost told))
