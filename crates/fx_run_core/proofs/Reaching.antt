-- One turn of a run.
use Rattle.std.proofs.Common.{◌≡◌, ℕ, suc, ◌+◌, ◌%◌, ◌≤◌, List, [], ◌∷◌, ◌++◌, length, Some, None, Bool, true, false, cond, refl, ap, sym, ◌∙◌, subst, arith, append_assoc, add-one}
use Rattle.std.specs.Prelude.{not, ◌&&◌}
use Rattle.std.proofs.lemmas.List.{append-nil}
use Rattle.fx_base.specs.declared.device_op.DeviceOp.{DeviceOp}
use Rattle.fx_outcomes.specs.Runs.{Next, Goes, Stops, Outcome, run, before, act, later, turns, after, nothing}
use Rattle.fx_outcomes.specs.Many.{Many, turn}
use Rattle.fx_cpu.specs.declared.registers.Regs.{Regs}
use Rattle.fx_image.specs.declared.forms.Image.{Image}
use Rattle.fx_machine_model.specs.Boot.{vcpus}
use Rattle.fx_machine_model.specs.Moves.{all_ones, World, move}
use Rattle.fx_machine_model.specs.Running.{boot, run_image, image_turns, image_after}
use Rattle.fx_machine_model.specs.declared.stop.Stop.{Stop}
use Rattle.fx_machine.specs.Turns.{Running, state_of, next_of, made_of, taken_by, GoesOn}
use Rattle.fx_run_core.specs.Ran.{named, names, loads, is_starved, is_fed}
use Rattle.fx_run_core.specs.Reached.{Reached}

pub taken-append : (xs ys : List DeviceOp) → taken_by (xs ++ ys) ≡ taken_by xs ++ taken_by ys
taken-append [] ys = refl
taken-append (op ∷ xs) ys =
    let own = cond op.write [] (op.value ∷ []) in
    ap (λ l. own ++ l) (taken-append xs ys) ∙ sym (append_assoc own (taken_by xs) (taken_by ys))

before-append : (a b : List DeviceOp) (x : Outcome DeviceOp Stop) → before (a ++ b) x ≡ before a (before b x)
before-append a b x =
    let f : List DeviceOp → Outcome DeviceOp Stop = λ l. record { made = l; finish = x.finish } in
    ap f (append_assoc a b x.made)

module _ (image : Image) (c : ℕ) (m k : Running) where
  abbrev Turns : List DeviceOp → Type 0
  Turns made = (answers : List ℕ) → turn (move image) c (state_of m (taken_by made ++ answers)) ≡ Goes made (state_of k answers)

  -- a turn that goes on isn't starved
  fed_by : (made : List DeviceOp) (answers : List ℕ) → taken_by made ≡ [] → loads made ≡ false → Turns made → is_starved image c (state_of m (taken_by made ++ answers)) (taken_by made ++ answers) ≡ false
  fed_by made [] none silent h =
      let e : turn (move image) c (state_of m (all_ones ∷ [])) ≡ Goes made (state_of k (all_ones ∷ [])) = subst (λ t. turn (move image) c (state_of m (t ++ all_ones ∷ [])) ≡ Goes made (state_of k (all_ones ∷ []))) none (h (all_ones ∷ [])) in
      ap (λ t. is_starved image c (state_of m (t ++ [])) (t ++ [])) none ∙ ap (λ (x : Next DeviceOp (Many Regs World) Stop). loads (made_of x)) e ∙ silent
  fed_by made (a ∷ more) none silent h = ap (λ t. is_starved image c (state_of m (t ++ a ∷ more)) (t ++ a ∷ more)) none

  unstarved : (made : List DeviceOp) (answers : List ℕ) → length made ≤ 1 → Turns made → is_starved image c (state_of m (taken_by made ++ answers)) (taken_by made ++ answers) ≡ false
  unstarved [] answers one h = fed_by [] answers refl refl h
  unstarved (op ∷ []) answers one h = by op.write refl
    where
      by : (t : Bool) → op.write ≡ t → is_starved image c (state_of m (taken_by (op ∷ []) ++ answers)) (taken_by (op ∷ []) ++ answers) ≡ false
      by true e = fed_by (op ∷ []) answers (ap (λ t. cond t [] (op.value ∷ []) ++ []) e) (ap not e) h
      by false e = ap (λ t. is_starved image c (state_of m ((cond t [] (op.value ∷ []) ++ []) ++ answers)) ((cond t [] (op.value ∷ []) ++ []) ++ answers)) e
  unstarved (op ∷ next ∷ more) answers one h = absurd (omega arith)

module _ (image : Image) (schedule : List ℕ) (m : Running) (n : ℕ) (h : Reached image schedule m n) where
  abbrev u : ℕ
  u = named schedule n

  abbrev c : ℕ
  c = u % vcpus image

  abbrev T : List DeviceOp
  T = m.bus.transcript

  one_more : (rest : List ℕ) → names schedule (n + 1) ++ rest ≡ names schedule n ++ (u ∷ rest)
  one_more rest = ap (λ i. names schedule i ++ rest) (add-one n) ∙ append_assoc (names schedule n) (u ∷ []) rest

  -- the turn is in terms of the machine's own image
  own : (answers : List ℕ) → turn (move image) c (state_of m answers) ≡ next_of m (u % vcpus m.image) answers
  own answers = ap (λ (i : Image). turn (move i) (u % vcpus i) (state_of m answers)) (sym h.image_is)

  module _ (made : List DeviceOp) (k : Running) (goes : GoesOn m (u % vcpus m.image) made k) (more : k.bus.transcript ≡ T ++ made) where
    taken : (answers : List ℕ) → taken_by k.bus.transcript ++ answers ≡ taken_by T ++ (taken_by made ++ answers)
    taken answers = ap (λ t. taken_by t ++ answers) more ∙ ap (λ l. l ++ answers) (taken-append T made) ∙ append_assoc (taken_by T) (taken_by made) answers

    turned : Turns image c m k made
    turned answers = own (taken_by made ++ answers) ∙ goes.moves answers

    shifted : {A : Type 0} (F : List ℕ → Many Regs World → A) (answers rest : List ℕ) → F (names schedule (n + 1) ++ rest) (boot image (taken_by k.bus.transcript ++ answers)) ≡ F (names schedule n ++ (u ∷ rest)) (boot image (taken_by T ++ (taken_by made ++ answers)))
    shifted F answers rest =
        ap (λ l. F l (boot image (taken_by k.bus.transcript ++ answers))) (one_more rest)
        ∙ ap (λ a. F (names schedule n ++ (u ∷ rest)) (boot image a)) (taken answers)

    pub reached_next : Reached image schedule k (n + 1)
    reached_next = record {
      image_is = goes.image ∙ h.image_is;
      going = goes.stop ∙ h.going;
      run_is = λ answers rest.
          shifted (run (turn (move image)) (vcpus image)) answers rest
          ∙ h.run_is (taken_by made ++ answers) (u ∷ rest)
          ∙ ap (λ (x : Next DeviceOp (Many Regs World) Stop). before T (act x (λ s. run (turn (move image)) (vcpus image) rest s))) (turned answers)
          ∙ sym (before-append T made (run (turn (move image)) (vcpus image) rest (state_of k answers)))
          ∙ ap (λ t. before t (run (turn (move image)) (vcpus image) rest (state_of k answers))) (sym more);
      turns_is = λ answers rest.
          let now = turns (turn (move image)) (vcpus image) rest (state_of k answers) in
          let e : n + suc now ≡ n + 1 + now = omega arith in
          shifted (turns (turn (move image)) (vcpus image)) answers rest
          ∙ h.turns_is (taken_by made ++ answers) (u ∷ rest)
          ∙ ap (λ (x : Next DeviceOp (Many Regs World) Stop). n + suc (later x 0 (λ s. turns (turn (move image)) (vcpus image) rest s))) (turned answers)
          ∙ e;
      fed_is = λ answers rest.
          shifted (is_fed image) answers rest
          ∙ h.fed_is (taken_by made ++ answers) (u ∷ rest)
          ∙ ap (λ t. not t && later (turn (move image) c (state_of m (taken_by made ++ answers))) true (λ s. is_fed image rest s)) (unstarved image c m k made answers goes.one turned)
          ∙ ap (λ (x : Next DeviceOp (Many Regs World) Stop). later x true (λ s. is_fed image rest s)) (turned answers);
      after_is = λ answers rest.
          shifted (after (turn (move image)) (vcpus image)) answers rest
          ∙ h.after_is (taken_by made ++ answers) (u ∷ rest)
          ∙ ap (λ (x : Next DeviceOp (Many Regs World) Stop). later x (state_of m (taken_by made ++ answers)) (λ s. after (turn (move image)) (vcpus image) rest s)) (turned answers);
    }

  -- ---- the end, where no turn is made any more

  whole : names schedule n ++ [] ≡ names schedule n
  whole = append-nil (names schedule n)

  ends : {A : Type 0} (F : List ℕ → Many Regs World → A) → F (names schedule n) (boot image (taken_by T)) ≡ F (names schedule n ++ []) (boot image (taken_by T ++ []))
  ends F = ap (λ l. F l (boot image (taken_by T))) (sym whole) ∙ ap (λ a. F (names schedule n ++ []) (boot image a)) (sym (append-nil (taken_by T)))

  pub run_ends : run_image image (taken_by T) (names schedule n) ≡ record { made = T; finish = None }
  run_ends =
      let f : List DeviceOp → Outcome DeviceOp Stop = λ l. record { made = l; finish = None } in
      ends (run (turn (move image)) (vcpus image)) ∙ h.run_is [] [] ∙ ap f (append-nil T)

  pub turns_end : image_turns image (taken_by T) (names schedule n) ≡ n
  turns_end = let e : n + 0 ≡ n = omega arith in ends (turns (turn (move image)) (vcpus image)) ∙ h.turns_is [] [] ∙ e

  pub fed_ends : is_fed image (names schedule n) (boot image (taken_by T)) ≡ true
  fed_ends = ends (is_fed image) ∙ h.fed_is [] []

  pub after_ends : (answers : List ℕ) → image_after image (taken_by T ++ answers) (names schedule n) ≡ state_of m answers
  after_ends answers = ap (λ l. after (turn (move image)) (vcpus image) l (boot image (taken_by T ++ answers))) (sym whole) ∙ h.after_is answers []

  pub next_is : (answers : List ℕ) → turn (move image) c (image_after image (taken_by T ++ answers) (names schedule n)) ≡ next_of m (u % vcpus m.image) answers
  next_is answers = ap (turn (move image) c) (after_ends answers) ∙ own answers

  -- ---- the end by a stop

  module _ (stop : Stop) (stops : (answers : List ℕ) → next_of m (u % vcpus m.image) answers ≡ Stops [] stop) where
    last : {A : Type 0} (F : List ℕ → Many Regs World → A) → F (names schedule (n + 1)) (boot image (taken_by T)) ≡ F (names schedule n ++ (u ∷ [])) (boot image (taken_by T ++ []))
    last F = ap (λ i. F (names schedule i) (boot image (taken_by T))) (add-one n) ∙ ap (λ a. F (names schedule n ++ (u ∷ [])) (boot image a)) (sym (append-nil (taken_by T)))

    halts : (answers : List ℕ) → turn (move image) c (state_of m answers) ≡ Stops [] stop
    halts answers = own answers ∙ stops answers

    pub run_stops : run_image image (taken_by T) (names schedule (n + 1)) ≡ record { made = T; finish = Some stop }
    run_stops =
        let f : List DeviceOp → Outcome DeviceOp Stop = λ l. record { made = l; finish = Some stop } in
        last (run (turn (move image)) (vcpus image)) ∙ h.run_is [] (u ∷ [])
        ∙ ap (λ (x : Next DeviceOp (Many Regs World) Stop). before T (act x (λ s. nothing))) (halts [])
        ∙ ap f (append-nil T)

    pub turns_stop : image_turns image (taken_by T) (names schedule (n + 1)) ≡ n + 1
    turns_stop =
        let e : n + suc 0 ≡ n + 1 = omega arith in
        last (turns (turn (move image)) (vcpus image)) ∙ h.turns_is [] (u ∷ [])
        ∙ ap (λ (x : Next DeviceOp (Many Regs World) Stop). n + suc (later x 0 (λ s. 0))) (halts []) ∙ e

    pub fed_stops : is_fed image (names schedule (n + 1)) (boot image (taken_by T)) ≡ true
    fed_stops =
        last (is_fed image) ∙ h.fed_is [] (u ∷ [])
        ∙ ap (λ (x : Next DeviceOp (Many Regs World) Stop). not (loads (made_of x)) && later (turn (move image) c (state_of m [])) true (λ s. true)) (halts (all_ones ∷ []))
        ∙ ap (λ (x : Next DeviceOp (Many Regs World) Stop). later x true (λ s. true)) (halts [])

-- the boot is the first moment
pub reached_first : (image : Image) (schedule : List ℕ) (m : Running) → m.image ≡ image → m.stop ≡ None → m.bus.transcript ≡ [] → ((answers : List ℕ) → state_of m answers ≡ boot image answers) → Reached image schedule m 0
reached_first image schedule m same going none at = record {
  image_is = same;
  going = going;
  run_is = λ answers rest.
      ap (λ t. run (turn (move image)) (vcpus image) rest (boot image (taken_by t ++ answers))) none
      ∙ ap (run (turn (move image)) (vcpus image) rest) (sym (at answers))
      ∙ ap (λ t. before t (run (turn (move image)) (vcpus image) rest (state_of m answers))) (sym none);
  turns_is = λ answers rest.
      let now = turns (turn (move image)) (vcpus image) rest (state_of m answers) in
      let e : now ≡ 0 + now = omega arith in
      ap (λ t. turns (turn (move image)) (vcpus image) rest (boot image (taken_by t ++ answers))) none
      ∙ ap (turns (turn (move image)) (vcpus image) rest) (sym (at answers)) ∙ e;
  fed_is = λ answers rest.
      ap (λ t. is_fed image rest (boot image (taken_by t ++ answers))) none ∙ ap (is_fed image rest) (sym (at answers));
  after_is = λ answers rest.
      ap (λ t. after (turn (move image)) (vcpus image) rest (boot image (taken_by t ++ answers))) none ∙ ap (after (turn (move image)) (vcpus image) rest) (sym (at answers));
}
