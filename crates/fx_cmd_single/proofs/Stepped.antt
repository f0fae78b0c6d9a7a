-- What the runner's answers come to, with the input and the output.
use Rattle.std.proofs.Common.{◌≡◌, ℕ, ◌≤◌, ◌<◌, ◌⊎◌, inl, inr, List, [], ◌∷◌, ◌++◌, length, take, Option, Some, None, false, arith, append-nil, refl, ap, sym, ◌∙◌, subst}
use Rattle.std.specs.Prelude.{IfSome, IfNone, option_map}
use Rattle.std.proofs.lemmas.Option.{MatchOption-at_none}
use Rattle.fx_base.specs.Faults.{Rose}
use Rattle.fx_base.specs.Sink.{Gains}
use Rattle.fx_base.specs.Told.{Told}
use Rattle.fx_c_mean_model.specs.declared.end.End.{End}
use Rattle.fx_c_mean_model.specs.Steps.{operation}
use Rattle.fx_c_mean.specs.declared.runner.Walk.{Walk}
use Rattle.fx_c_mean.specs.declared.runner.Walk.TheVariants as walk
use Rattle.fx_c_mean.specs.Walks.{Run, GoesOn, Finishes, MakesStep, Walked}
use Rattle.fx_c_mean_law.proofs.Loads.{asking, goes_made}
use Rattle.fx_c_mean_law.proofs.Stepping.{one_of}
use Rattle.fx_cmd_single.specs.declared.outcome.Outcome.{Outcome}
use Rattle.fx_cmd_single.specs.declared.outcome.Outcome.TheVariants.{Ended, Spent, Device, ReadFault, WriteFault, OutOfMemory}
use Rattle.fx_cmd_base.specs.Streams.{Gained}
use Rattle.fx_cmd_single.specs.Streams.{outputs, inputs, Reads, Same}
use Rattle.fx_cmd_single.specs.Stepping.{Taken, NotTaken, NotPut, WentOn, EndsBy}
use Rattle.fx_cmd_single.proofs.Telling.{told_same, told_map, went_puts, output_puts, nothing_put, nothing_read}

abbrev Tale : Type 0
Tale = Option (List ℕ)

same_told : (o : Tale) → Told Same o o
same_told o = told_same Same (λ x. refl) o

pub one_made : (old new : Run) (answer : ℕ) (said : Walk) (went : GoesOn old answer said new) → length went.made ≤ 1
one_made old new answer said went = one_of old.program old.rights answer old.state new.state went.made went.step

module _ (old new : Run) (going : old.finish ≡ None) where
  pub by_went : (taken left : Tale) → Walked old walk.Went new → WentOn old new taken taken left left
  by_went taken left h =
      let t = MatchOption-at_none _ _ going h in
      let p = went_puts t.1.made (one_made old new t.0 walk.Went t.1) t.1.says t.2 in
      (t.0, walk.Went, t.1, told_same (Gained (outputs t.1.made)) (nothing_put (outputs t.1.made) p.0) taken, told_same (Reads (inputs t.1.made)) (nothing_read (inputs t.1.made) p.1) left)

  pub by_output : (b : ℕ) (taken gained left : Tale) → Walked old (walk.Output b) new → Told (Gained (b ∷ [])) taken gained → WentOn old new taken gained left left
  by_output b taken gained left h put =
      let t = MatchOption-at_none _ _ going h in
      let p = output_puts t.1.made b (one_made old new t.0 (walk.Output b) t.1) t.1.says in
      (t.0, walk.Output b, t.1, told_map (Gained (b ∷ [])) (Gained (outputs t.1.made)) (λ x y q. q ∙ ap (λ o. x ++ o) (sym p.0)) taken gained put, told_same (Reads (inputs t.1.made)) (nothing_read (inputs t.1.made) p.1) left)

  pub by_unput : (b input read out failed : ℕ) (taken gained left : Tale) (outcome : Outcome) → Walked old (walk.Output b) new → NotPut taken gained out failed outcome → EndsBy old new taken gained left left input read out failed outcome
  by_unput b input read out failed taken gained left WriteFault h why =
      let t = MatchOption-at_none _ _ going h in
      let p = output_puts t.1.made b (one_made old new t.0 (walk.Output b) t.1) t.1.says in
      (t.0, walk.Output b, t.1, p.1, b, p.0, why.0, why.1, same_told left)
  by_unput b input read out failed taken gained left (Ended e) h why = absurd why
  by_unput b input read out failed taken gained left Spent h why = absurd why
  by_unput b input read out failed taken gained left (Device d) h why = absurd why
  by_unput b input read out failed taken gained left ReadFault h why = absurd why
  by_unput b input read out failed taken gained left OutOfMemory h why = absurd why

  -- ---- ends

  -- an answer ended the run, or the run goes on
  by_step : (said : Walk) → MakesStep old said new → Finishes old said new ⊎ (new.finish ≡ None)
  by_step (walk.Exit v) h = inl h
  by_step (walk.Denied compartment object offset write) h = inl h
  by_step (walk.StackFull thread stack) h = inl h
  by_step walk.Divide h = inl h
  by_step walk.BadThread h = inl h
  by_step walk.ThreadsFull h = inl h
  by_step walk.Undefined h = inl h
  by_step walk.Went h = inr (ap (λ (q : Run). q.finish) h.1.same ∙ going)
  by_step walk.Input h = inr (ap (λ (q : Run). q.finish) h.1 ∙ going)
  by_step (walk.Output b) h = inr (ap (λ (q : Run). q.finish) h.1.same ∙ going)
  by_step (walk.DeviceFault d) h = inr (ap (λ (q : Run). q.finish) h.same ∙ going)
  by_step walk.OutOfMemory h = inr (ap (λ (q : Run). q.finish) h ∙ going)

  pub by_ended : (said : Walk) (taken left : Tale) (input read out failed : ℕ) (result : Option Outcome) → Walked old said new → result ≡ option_map Ended new.finish → IfSome result (EndsBy old new taken taken left left input read out failed)
  by_ended said taken left input read out failed result h that = by (by_step said (MatchOption-at_none _ _ going h))
    where
      at : (o : Option End) → new.finish ≡ o → IfSome (option_map Ended o) (EndsBy old new taken taken left left input read out failed) → IfSome result (EndsBy old new taken taken left left input read out failed)
      at o is done = subst (λ (x : Option Outcome). IfSome x (EndsBy old new taken taken left left input read out failed)) (sym (that ∙ ap (option_map Ended) is)) done

      by : Finishes old said new ⊎ (new.finish ≡ None) → IfSome result (EndsBy old new taken taken left left input read out failed)
      by (inl f) = at (Some f.with_end) (ap (λ (q : Run). q.finish) f.same) (said, f, refl, same_told taken, same_told left)
      by (inr none) = at None none tt

  pub by_fault : (i : ℕ) (taken left : Tale) (input read out failed : ℕ) → Walked old (walk.DeviceFault i) new → EndsBy old new taken taken left left input read out failed (Device i)
  by_fault i taken left input read out failed h = (MatchOption-at_none _ _ going h, same_told taken, same_told left)

  pub by_want : (taken left : Tale) (input read out failed : ℕ) → Walked old walk.OutOfMemory new → EndsBy old new taken taken left left input read out failed OutOfMemory
  by_want taken left input read out failed h = (MatchOption-at_none _ _ going h, same_told taken, inl (same_told left))

  -- ---- input

  module _ (k : Run) (h : Walked old walk.Input new) where
    same : new ≡ old
    same = let t = MatchOption-at_none _ _ going h in t.1

    pub by_taken : (taken left lost : Tale) → Taken new k left lost → WentOn old k taken taken left lost
    by_taken taken left lost took =
        let t = MatchOption-at_none _ _ going h in
        let (answer, went, told) = subst (λ (x : Run). Taken x k left lost) same took in
        let at : operation 0 0 false answer ∷ [] ≡ went.made = goes_made _ _ _ _ _ (asking old.program old.rights old.state answer (0, 0, t.0.0, t.0.1)) went.step in
        let none : outputs went.made ≡ [] = ap outputs (sym at) in
        let one : answer ∷ [] ≡ inputs went.made = ap inputs at in
        (answer, walk.Went, went, told_same (Gained (outputs went.made)) (nothing_put (outputs went.made) none) taken, subst (λ l. Told (Reads l) left lost) one told)

    pub by_not_taken : (taken left lost : Tale) (input read out failed : ℕ) (outcome : Outcome) → NotTaken new k left lost input read outcome → EndsBy old k taken taken left lost input read out failed outcome
    by_not_taken taken left lost input read out failed ReadFault why =
        let t = MatchOption-at_none _ _ going h in (t.0, why.0, why.1 ∙ same, same_told taken, why.2)
    by_not_taken taken left lost input read out failed OutOfMemory why = (why.0 ∙ same, same_told taken, inr why.1)
    by_not_taken taken left lost input read out failed (Ended e) why = absurd why
    by_not_taken taken left lost input read out failed Spent why = absurd why
    by_not_taken taken left lost input read out failed (Device d) why = absurd why
    by_not_taken taken left lost input read out failed WriteFault why = absurd why

-- ---- what holds where a step goes on, or doesn't

pub none_map : {A : Type 0} (o : Option A) (P Q : Type 0) → (P → Q) → IfNone o P → IfNone o Q
none_map None P Q f h = f h
none_map (Some x) P Q f h = h

pub some_map : {A : Type 0} (o : Option A) (P Q : A → Type 0) → ((x : A) → P x → Q x) → IfSome o P → IfSome o Q
some_map None P Q f h = h
some_map (Some x) P Q f h = f x h

-- a byte that a sink did not take
pub by_unfilled : (b k : ℕ) (taken gained : Tale) (out failed : ℕ) → k < 1 → Told (Gains (b ∷ []) k) taken gained → Rose out failed → NotPut taken gained out failed WriteFault
by_unfilled b k taken gained out failed less put rose =
    let none : k ≡ 0 = omega (arith, less) in
    (rose, told_map (Gains (b ∷ []) k) Same (λ x y q. q ∙ ap (λ i. x ++ take i (b ∷ [])) none ∙ append-nil x) taken gained put)
