-- The heights that are found from the first step to the last are those of any table in which each step is right.
use Rattle.std.proofs.Common.{◌≡◌, ◌≢◌, ◌⊎◌, inl, inr, ℕ, zero, suc, ◌+◌, ◌<◌, ◌≤◌, List, [], ◌∷◌, length, Option, Some, None, refl, sym, ap, ◌∙◌, subst, arith}
use Rattle.std.specs.Prelude.{slice_get, slice_index_or, slice_set, replicate}
use Rattle.std.proofs.lemmas.Bool.{cases_eq}
use Rattle.std.proofs.lemmas.List.{length-set, get_or-set_same, get_or-set_other}
use Rattle.fx_c_mean_model.specs.Programs.{Program}
use Rattle.fx_c_lin.specs.Ops.{Op, Step}
use Rattle.fx_c_lower_stack_law.specs.Heights.{takes, behind, leads_to, with_mark, height_with, heights_from}
use Rattle.fx_c_lower_stack_law.proofs.Stands.{Stands, within}
use Rattle.fx_c_lower_stack_law.proofs.Pieces.{IsLed, led_by, IsRight, AreRight}

some_same : {A : Type 0} (x y : A) → Some x ≡ Some y → x ≡ y
some_same x y e = cc

none_marked : (n i : ℕ) → slice_index_or (replicate {A = Option ℕ} n None) i None ≡ None
none_marked zero i = refl
none_marked (suc n) zero = refl
none_marked (suc n) (suc i) = none_marked n i

length_replicate : (n : ℕ) → length (replicate {A = Option ℕ} n None) ≡ n
length_replicate zero = refl
length_replicate (suc n) = ap suc (length_replicate n)

module _ (p : Program) (most : ℕ) (b : ℕ → Op → ℕ) (all : List ℕ) (steps : List Step) (long : length all ≡ length steps) (agrees : (n : ℕ) (o : Op) → takes p o ≤ n → b n o ≡ behind p n o) where
  -- what is known of the marks, where the steps before place k were passed, of which the last one leaves so many
  record IsMarked (marks : List (Option ℕ)) (k count : ℕ) : Type 0 where
    size : length marks ≡ length steps
    true_marks : (i h : ℕ) → slice_index_or marks i None ≡ Some h → slice_get all i ≡ Some h
    all_marks : (j t : ℕ) → j < k → led_by (slice_get steps j) ≡ Some t → (h : ℕ) × (slice_index_or marks t None ≡ Some h)
    fallen : (h : ℕ) → slice_get all k ≡ Some h → (h ≡ count) ⊎ IsLed steps k

  -- the height at place k
  found : (marks : List (Option ℕ)) (k count h : ℕ) → IsMarked marks k count → slice_get all k ≡ Some h → height_with marks k count ≡ h
  found marks k count h known here = by (slice_index_or marks k None) refl where
    unmarked : slice_index_or marks k None ≡ None → (h ≡ count) ⊎ IsLed steps k → count ≡ h
    unmarked e (inl same) = sym same
    unmarked e (inr led) = let m = known.all_marks led.from k led.before led.leads in absurd (none_some m.0 (sym e ∙ m.1)) where
      none_some : (i : ℕ) → None ≡ Some i → ⊥
      none_some i z = cc

    by : (m : Option ℕ) → slice_index_or marks k None ≡ m → height_with marks k count ≡ h
    by None e = rw e (unmarked e (known.fallen h here))
    by (Some x) e = rw e (some_same x h (sym (known.true_marks k x e) ∙ here))

  set_marks : (marks : List (Option ℕ)) (t i h x : ℕ) → ((i h : ℕ) → slice_index_or marks i None ≡ Some h → slice_get all i ≡ Some h) → slice_get all t ≡ Some x → t < length marks → slice_index_or (slice_set marks t (Some x)) i None ≡ Some h → slice_get all i ≡ Some h
  set_marks marks t i h x old new inside e = by (cases_eq i t) where
    by : (i ≡ t) ⊎ (i ≢ t) → slice_get all i ≡ Some h
    by (inl same) =
        let at_t : slice_index_or (slice_set marks t (Some x)) t None ≡ Some x = get_or-set_same marks t (Some x) None inside in
        let is : Some x ≡ Some h = sym at_t ∙ subst (λ k. slice_index_or (slice_set marks t (Some x)) k None ≡ Some h) same e in
        subst (λ k. slice_get all k ≡ Some h) (sym same) (new ∙ is)
    by (inr other) = old i h (sym (get_or-set_other marks t i (Some x) None other) ∙ e)

  kept_mark : (marks : List (Option ℕ)) (t i h x : ℕ) → t < length marks → slice_index_or marks i None ≡ Some h → (y : ℕ) × (slice_index_or (slice_set marks t (Some x)) i None ≡ Some y)
  kept_mark marks t i h x inside e = by (cases_eq i t) where
    by : (i ≡ t) ⊎ (i ≢ t) → (y : ℕ) × (slice_index_or (slice_set marks t (Some x)) i None ≡ Some y)
    by (inl same) = (x, subst (λ k. slice_index_or (slice_set marks t (Some x)) k None ≡ Some x) (sym same) (get_or-set_same marks t (Some x) None inside))
    by (inr other) = (h, get_or-set_other marks t i (Some x) None other ∙ e)

  -- behind a step that leads nowhere, and behind one that leads to a place
  passed : (marks : List (Option ℕ)) (k count : ℕ) (x : Step) (to : Option ℕ) → IsMarked marks k count → slice_get steps k ≡ Some x → (r : IsRight p most all steps k x.op) → leads_to x.op ≡ to → IsMarked (with_mark marks (behind p r.count x.op) to) (k + 1) (behind p r.count x.op)
  passed marks k count x None known here r e = record {
    size = known.size;
    true_marks = known.true_marks;
    all_marks = λ j t l z. by j t l z (cases_eq j k);
    fallen = r.next;
  } where
    none_some : (i : ℕ) → None ≡ Some i → ⊥
    none_some i z = cc

    by : (j t : ℕ) → j < k + 1 → led_by (slice_get steps j) ≡ Some t → (j ≡ k) ⊎ (j ≢ k) → (h : ℕ) × (slice_index_or marks t None ≡ Some h)
    by j t l z (inl same) = absurd (none_some t (sym e ∙ sym (ap led_by here) ∙ subst (λ i. led_by (slice_get steps i) ≡ Some t) same z))
    by j t l z (inr other) = known.all_marks j t (omega arith) z
  passed marks k count x (Some to) known here r e = record {
    size = length-set marks to (Some (behind p r.count x.op)) ∙ known.size;
    true_marks = λ i h z. set_marks marks to i h (behind p r.count x.op) known.true_marks (r.to to e) inside z;
    all_marks = λ j t l z. by j t l z (cases_eq j k);
    fallen = r.next;
  } where
    inside : to < length marks
    inside = omega (arith, within all to (behind p r.count x.op) (r.to to e), known.size, long)

    by : (j t : ℕ) → j < k + 1 → led_by (slice_get steps j) ≡ Some t → (j ≡ k) ⊎ (j ≢ k) → (h : ℕ) × (slice_index_or (slice_set marks to (Some (behind p r.count x.op))) t None ≡ Some h)
    by j t l z (inl same) =
        let same_to : to ≡ t = some_same to t (sym e ∙ sym (ap led_by here) ∙ subst (λ i. led_by (slice_get steps i) ≡ Some t) same z) in
        (behind p r.count x.op, subst (λ i. slice_index_or (slice_set marks to (Some (behind p r.count x.op))) i None ≡ Some (behind p r.count x.op)) same_to (get_or-set_same marks to (Some (behind p r.count x.op)) None inside))
    by j t l z (inr other) = let m = known.all_marks j t (omega arith) z in kept_mark marks to t m.0 (behind p r.count x.op) inside m.1

  scanned : (marks : List (Option ℕ)) (k count : ℕ) (xs : List Step) → IsMarked marks k count → Stands steps k xs → AreRight p most all steps k xs → Stands all k (heights_from b marks k count xs)
  scanned marks k count [] known here right = tt
  scanned marks k count (x ∷ xs) known here right =
      let r = right.0 in
      let same : height_with marks k count ≡ r.count = found marks k count r.count known r.here in
      let left : b (height_with marks k count) x.op ≡ behind p r.count x.op = ap (λ n. b n x.op) same ∙ agrees r.count x.op r.there in
      let after = passed marks k count x (leads_to x.op) known here.0 r refl in
      let after2 = subst (λ n. IsMarked (with_mark marks n (leads_to x.op)) (k + 1) n) (sym left) after in
      (r.here ∙ ap Some (sym same), scanned (with_mark marks (b (height_with marks k count) x.op) (leads_to x.op)) (k + 1) (b (height_with marks k count) x.op) xs after2 here.1 right.1)

  -- the whole table, which begins with 0
  pub scan : slice_get all 0 ≡ Some 0 → Stands steps 0 steps → AreRight p most all steps 0 steps → Stands all 0 (heights_from b (replicate (length steps) None) 0 0 steps)
  scan first here right = scanned (replicate (length steps) None) 0 0 steps (record {
    size = length_replicate (length steps);
    true_marks = λ i h e. absurd (none_some h (sym (none_marked (length steps) i) ∙ e));
    all_marks = λ j t l z. absurd (omega arith);
    fallen = λ h e. inl (some_same h 0 (sym e ∙ first));
  }) here right where
    none_some : (i : ℕ) → None ≡ Some i → ⊥
    none_some i z = cc
