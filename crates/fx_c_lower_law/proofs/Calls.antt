-- Calls, returns and threads.
use Rattle.std.proofs.Common.{◌≡◌, Bool, true, false, not, ℕ, zero, suc, ◌+◌, ◌-◌, ◌/◌, ◌≤◌, inl, inr, List, [], ◌∷◌, ◌++◌, length, map, Option, Some, None, if◌then◌else◌, nat_lt, nat_eq, refl, sym, ap, ◌∙◌, subst, arith}
use Rattle.std.proofs.lemmas.List.{append-nil}
use Rattle.std.specs.Prelude.{slice_get, slice_set}
use Rattle.fx_outcomes.specs.Runs.{Goes, Stops}
use Rattle.fx_c_ast.specs.CheckedTrees.{TyTree, VoidTy, IntTy, StructTy, PtrTy, ArrayTy}
use Rattle.fx_c_mean_blocks.specs.declared.value.Value.{Value}
use Rattle.fx_c_mean_blocks.specs.declared.value.Value.TheVariants.{Void, Number}
use Rattle.fx_c_mean_blocks.specs.declared.block.Place.{Place}
use Rattle.fx_c_mean_blocks.specs.declared.block.Object.{Object}
use Rattle.fx_c_mean_model.specs.declared.end.End.TheVariants.{StackFull, Exit, ThreadsFull}
use Rattle.fx_c_mean_model.specs.declared.rights.Rights.{Rights}
use Rattle.fx_c_mean_model.specs.Programs.{Program, function_at, call_objects}
use Rattle.fx_c_mean_model.specs.Rights.{home, stack_of}
use Rattle.fx_c_mean_model.specs.States.{Way, Plainly, ByGate, First, Frame, Caller, Call, Act, Enter, Spawn, Switch, Leave, FallOff, Spot, Does, begin_all, follow, give, unwind}
use Rattle.fx_c_mean_model.specs.Steps as source
use Rattle.fx_c_mean_model.specs.Steps.{taken}
use Rattle.fx_c_lin.specs.Ops as op
use Rattle.fx_c_lin.specs.Machine as lin
use Rattle.fx_c_lin.specs.Machine.{Saved, At, Begins, Copies, word_of, steps_of, settle, settled, popped}
use Rattle.fx_c_lower_model.specs.Steps.{costing, fall_code}
use Rattle.fx_c_lower_model.specs.Lengths.{stmts_len}
use Rattle.fx_c_lower_model.specs.Code.{call_op, call_step, stmts_code, function_code}
use Rattle.fx_c_lower_law.specs.Fits.{FitsProgram}
use Rattle.fx_c_lower_law.proofs.Places.{HasAt, has_front, has_rest, has_all}
use Rattle.fx_c_lower_law.proofs.Lengths.{stmts_length}
use Rattle.fx_c_lower_law.proofs.Relation.{Knows, places_of, pushed, is_call, fall_stack}
use Rattle.fx_c_lower_law.proofs.Relation as relation
use Rattle.fx_c_lower_law.proofs.Lands as lands
use Rattle.fx_c_lower_law.proofs.Pays as paying
use Rattle.fx_c_lower_law.proofs.Below as below
use Rattle.fx_c_lower_law.proofs.Objects.{places_append, places_without, knows_new}
use Rattle.fx_c_lower_law.proofs.Objects as objects
use Rattle.fx_c_lower_law.proofs.Words.{objects_word, popped_all, exit_word}
use Rattle.fx_c_lower_law.proofs.Results as results
use Rattle.fx_c_lower_law.proofs.Acts as acts

one_more : (a b : ℕ) → 1 ≤ 1 + a + b
one_more a b = omega arith

module _ (p : Program) (r : Rights) (all : List (List op.Step)) (right : (f : ℕ) → steps_of all f ≡ function_code p (function_at p f)) (fits : FitsProgram p) where
  same_use : (places : List Place) (rest : List Frame) (cs : List Saved) (stack : ℕ) → relation.Leaves p all places rest cs → lin.use_of p r stack cs ≡ source.use_of p r stack rest
  same_use places [] cs stack h = ap (λ l. lin.use_of p r stack l) h
  same_use places (Caller call crosses ∷ rest) cs stack h =
      ap (λ l. lin.use_of p r stack l) h.3 ∙ ap (λ n. taken p r stack call crosses + n) (same_use places rest h.2 stack h.6)
  same_use places (x ∷ rest) cs stack h = same_use places rest cs stack h

  body_at : (g : ℕ) → HasAt (steps_of all g) 0 (function_code p (function_at p g))
  body_at g = rw (right g) (has_all (function_code p (function_at p g)) [])

  abbrev pub MaybeAt : List Place → Option source.Thread → Option lin.Thread → Type 0
  MaybeAt places None None = Unit {0}
  MaybeAt places (Some t) (Some u) = relation.ThreadAt p all places t u
  MaybeAt places _ _ = ⊥

  threads_get : (places : List Place) (ts : List source.Thread) (us : List lin.Thread) (i : ℕ) → relation.ThreadsAt p all places ts us → MaybeAt places (slice_get ts i) (slice_get us i)
  threads_get places [] [] i h = tt
  threads_get places (t ∷ ts) (u ∷ us) zero h = h.0
  threads_get places (t ∷ ts) (u ∷ us) (suc i) h = threads_get places ts us i h.1
  threads_get places [] (u ∷ us) i h = absurd h
  threads_get places (t ∷ ts) [] i h = absurd h

  threads_set : (places : List Place) (ts : List source.Thread) (us : List lin.Thread) (i : ℕ) (t : source.Thread) (u : lin.Thread) → relation.ThreadsAt p all places ts us → relation.ThreadAt p all places t u → relation.ThreadsAt p all places (slice_set ts i t) (slice_set us i u)
  threads_set places [] [] i t u h k = tt
  threads_set places (x ∷ ts) (y ∷ us) zero t u h k = (k, h.1)
  threads_set places (x ∷ ts) (y ∷ us) (suc i) t u h k = (h.0, threads_set places ts us i t u h.1 k)
  threads_set places [] (y ∷ us) i t u h k = absurd h
  threads_set places (x ∷ ts) [] i t u h k = absurd h

  threads_append : (places : List Place) (ts : List source.Thread) (us : List lin.Thread) (t : source.Thread) (u : lin.Thread) → relation.ThreadsAt p all places ts us → relation.ThreadAt p all places t u → relation.ThreadsAt p all places (ts ++ t ∷ []) (us ++ u ∷ [])
  threads_append places [] [] t u h k = (k, tt)
  threads_append places (x ∷ ts) (y ∷ us) t u h k = (h.0, threads_append places ts us t u h.1 k)
  threads_append places [] (y ∷ us) t u h k = absurd h
  threads_append places (x ∷ ts) [] t u h k = absurd h

  threads_length : (places : List Place) (ts : List source.Thread) (us : List lin.Thread) → relation.ThreadsAt p all places ts us → length us ≡ length ts
  threads_length places [] [] h = refl
  threads_length places (x ∷ ts) (y ∷ us) h = ap suc (threads_length places ts us h.1)
  threads_length places [] (y ∷ us) h = absurd h
  threads_length places (x ∷ ts) [] h = absurd h

  crossing_is : (places : List Place) (rest : List Frame) (cs : List Saved) → relation.Leaves p all places rest cs → lin.crossing cs ≡ source.return_extra (unwind rest)
  crossing_is places [] cs h = ap lin.crossing h
  crossing_is places (Caller call true ∷ rest) cs h = ap lin.crossing h.3
  crossing_is places (Caller call false ∷ rest) cs h = ap lin.crossing h.3
  crossing_is places (x ∷ rest) cs h = crossing_is places rest cs h

  abbrev called : ℕ → ℕ → Call
  called g base = record { function = g; base = base }

  begins : (memory : List Object) (g base : ℕ) (rest : List Frame) → (HasAt (steps_of all g) (stmts_len p (function_at p g).gives (function_at p g).body) (fall_code (function_at p g).gives) → relation.Follows p all (called g base) rest (stmts_len p (function_at p g).gives (function_at p g).body)) → relation.Jumps p all (called g base) rest 0 0 → lands.Lands p all memory (called g base) (begin_all (function_at p g).body rest (follow rest)) 0 1
  begins memory g base rest falls jumps =
      let t = (function_at p g).gives in
      let body = (function_at p g).body in
      let n = stmts_len p t body in
      let code = stmts_code p t 0 n 0 0 body in
      let l : 0 + length code ≡ n = omega (arith, stmts_length p t 0 n 0 0 body) in
      let z : 0 + n ≡ n = omega arith in
      let behind = falls (has_rest (steps_of all g) 0 n code (fall_code t) l (body_at g)) in
      lands.all_begin p all memory (called g base) body (fits g) rest 0 n 0 0 1 (omega arith) (has_front (steps_of all g) 0 code (fall_code t) (body_at g)) (inl z) behind jumps
      (λ e. lands.moved p all memory (called g base) (follow rest) n 0 1 e (lands.follow_at p all memory (called g base) rest n behind))

  module _ (s : source.State) (us : List lin.Thread) (cs : List Saved) (waiting : relation.ThreadsAt p all (places_of s.memory) s.threads us) where
    enters : (g : ℕ) (values : List Value) (rest : List Frame) (callers : List Saved) (there : lin.Spot) → relation.Leaves p all (places_of s.memory) rest callers → (HasAt (steps_of all g) (stmts_len p (function_at p g).gives (function_at p g).body) (fall_code (function_at p g).gives) → relation.Follows p all (called g (length s.memory)) rest (stmts_len p (function_at p g).gives (function_at p g).body)) → relation.Jumps p all (called g (length s.memory)) rest 0 0 → results.Same p r all (source.enter p r s g values rest) (lin.enter p r (results.built p r all s us cs there) g (map word_of values) callers)
    enters g values rest callers there leaves falls jumps =
        rw (same_use (places_of s.memory) rest callers (stack_of p r g) leaves, objects_word p g 0 (function_at p g).variables values)
        (by (source.has_room p r g rest)) where
          grown : places_of s.memory ++ places_of (call_objects p g 0 (function_at p g).variables values) ≡ places_of (s.memory ++ call_objects p g 0 (function_at p g).variables values)
          grown = sym (places_append s.memory (call_objects p g 0 (function_at p g).variables values))

          by : (b : Bool) → results.Same p r all (if b then Goes [] (source.entered p s g values rest) else Stops [] (StackFull s.current (stack_of p r g))) (if b then Goes [] (record (lin.entered p (results.built p r all s us cs there) g values callers) { spot = At 0 [] }) else Stops [] (StackFull s.current (stack_of p r g)))
          by true =
              let memory = s.memory ++ call_objects p g 0 (function_at p g).variables values in
              let more = places_of (call_objects p g 0 (function_at p g).variables values) in
              let leaves2 = subst (λ l. relation.Leaves p all l rest callers) grown (objects.leaves_more p all rest (places_of s.memory) more callers leaves) in (
                refl,
                record {
                  threads = us;
                  callers = callers;
                  there = settle (steps_of all g) 96 0 [];
                  is = refl;
                  waiting = subst (λ l. relation.ThreadsAt p all l s.threads us) grown (objects.threads_more p all (places_of s.memory) more s.threads us waiting);
                  spot = (
                    (begins memory g (length s.memory) rest falls jumps).by 96 (omega arith),
                    below.below_all p all (places_of memory) callers (function_at p g).body rest (follow rest) leaves2 (below.below_follow p all (places_of memory) callers rest leaves2),
                    results.knows_settled p r all (places_of memory) (called g (length s.memory)) (steps_of all g) 96 0 [] (knows_new p s.memory g values),
                  );
                },
              )
          by false = inl refl

    -- a thread's first call
    pub begin : (g : ℕ) (values : List Value) (answer : ℕ) → relation.Leaves p all (places_of s.memory) [] cs → results.Same p r all (source.perform p r answer s (Does (Enter g First values) [])) (lin.act p r all answer (results.built p r all s us cs (Begins g (map word_of values))) (Begins g (map word_of values)))
    begin g values answer leaves = enters g values [] cs (Begins g (map word_of values)) leaves (λ x. x) tt

    waits_stand : (memory : List Object) (call : Call) (spot : Spot) (there : lin.Spot) (callers : List Saved) → relation.WaitsAt p all (places_of memory) call spot there callers → relation.Stands p all memory call 0 spot (settled (steps_of all call.function) there) callers
    waits_stand memory call spot (At place stack) callers h =
        rw (h.2, h.3) (
          paying.value_at p all memory call h.0 place Void h.1 96 (omega arith) h.4,
          below.below_give p all (places_of memory) callers h.0 Void h.5,
          results.knows_settled p r all (places_of memory) call (steps_of all call.function) 96 place (Void ∷ h.1) h.6,
        )
    waits_stand memory call spot (Begins f values) callers h = rw (h.1, h.2) ((refl, refl, refl, refl), h.3, tt)
    waits_stand memory call spot (Copies a b d e f g h2) callers h = absurd h

    resumes : (left : source.Thread) (left2 : lin.Thread) (t : ℕ) (x : Option source.Thread) (y : Option lin.Thread) (there : lin.Spot) → relation.ThreadAt p all (places_of s.memory) left left2 → MaybeAt (places_of s.memory) x y → results.Same p r all (source.resume s left t x) (lin.resume (results.built p r all s us cs there) left2 t y)
    resumes left left2 t None None there l h = inl refl
    resumes left left2 t (Some source.Running) (Some lin.Running) there l h = inl refl
    resumes left left2 t (Some source.Ended) (Some lin.Ended) there l h = inl refl
    resumes left left2 t (Some (source.Waiting spot call)) (Some (lin.Waiting at2 other callers)) there l h =
        rw h.0 (
          refl,
          record {
            threads = slice_set (slice_set us s.current left2) t lin.Running;
            callers = callers;
            there = settled (steps_of all call.function) at2;
            is = refl;
            waiting = threads_set (places_of s.memory) _ _ t source.Running lin.Running (threads_set (places_of s.memory) s.threads us s.current left left2 waiting l) tt;
            spot = waits_stand s.memory call spot at2 callers h.1;
          },
        )
    resumes left left2 t None (Some y) there l h = absurd h
    resumes left left2 t (Some x) None there l h = absurd h
    resumes left left2 t (Some source.Running) (Some lin.Ended) there l h = absurd h
    resumes left left2 t (Some source.Running) (Some (lin.Waiting a b c)) there l h = absurd h
    resumes left left2 t (Some source.Ended) (Some lin.Running) there l h = absurd h
    resumes left left2 t (Some source.Ended) (Some (lin.Waiting a b c)) there l h = absurd h
    resumes left left2 t (Some (source.Waiting a b)) (Some lin.Running) there l h = absurd h
    resumes left left2 t (Some (source.Waiting a b)) (Some lin.Ended) there l h = absurd h

    ends : (v : Value) (there : lin.Spot) → results.Same p r all (source.ended p s v) (lin.ended p (results.built p r all s us cs there) (word_of v))
    ends v there = by (nat_eq s.current 0) where
      by : (b : Bool) → results.Same p r all (if b then Stops [] (Exit (source.exit_value (function_at p s.call.function).gives v)) else source.resume s source.Ended 0 (slice_get s.threads 0)) (if b then Stops [] (Exit (source.exit_value (function_at p s.call.function).gives (word_of v))) else lin.resume (results.built p r all s us cs there) lin.Ended 0 (slice_get us 0))
      by true = inl (ap (λ x. Stops [] (Exit x)) (exit_word (function_at p s.call.function).gives v))
      by false = resumes source.Ended lin.Ended 0 (slice_get s.threads 0) (slice_get us 0) there tt (threads_get (places_of s.memory) s.threads us 0 waiting)

  module _ (s : source.State) (us : List lin.Thread) (waiting : relation.ThreadsAt p all (places_of s.memory) s.threads us) where
    -- the caller goes on, or the thread ends
    returns : (rest : List Frame) (cs : List Saved) (v : Value) (there : lin.Spot) → relation.Leaves p all (places_of s.memory) rest cs → results.Same p r all (source.returned p s v (unwind rest)) (lin.returned p (results.built p r all s us cs there) (word_of v) cs)
    returns [] cs v there h = rw h (ends s us [] waiting v there)
    returns (Caller call crosses ∷ rest) cs v there h = rw h.3 (results.gave p r all (record s { call = call }) us h.2 waiting rest h.0 v h.1 [] there h.6 h.5 h.4)
    returns (x ∷ rest) cs v there h = returns rest cs v there h

  module _ (s : source.State) (us : List lin.Thread) (cs : List Saved) (waiting : relation.ThreadsAt p all (places_of s.memory) s.threads us) (knows : Knows p (places_of s.memory) s.call) where
    abbrev c : Call
    c = s.call

    abbrev Leaves : List Frame → Type 0
    Leaves rest = relation.Leaves p all (places_of s.memory) rest cs

    abbrev ActAt : ℕ → Act → List Frame → ℕ → List Value → Type 0
    ActAt owed now rest at stack = relation.ActAt p all s.memory c owed now rest at stack

    abbrev Res : ℕ → Act → List Frame → ℕ → List Value → Type 0
    Res owed now rest at stack = results.Result2 p r all owed s now rest (results.built p r all s us cs (At at stack))

    call_extra : (way : Way) (g owed n : ℕ) → is_call way ≡ true → ((1 + owed + n) - 1) + lin.more_cost (call_op way g) cs ≡ owed + n
    call_extra Plainly g owed n e = omega arith
    call_extra ByGate g owed n e = omega arith
    call_extra First g owed n e = absurd cc

    call_load : (way : Way) (g : ℕ) → lin.is_load (call_op way g) ≡ false
    call_load Plainly g = refl
    call_load ByGate g = refl
    call_load First g = refl

    calls : (way : Way) (g : ℕ) (values : List Value) (rest : List Frame) (at answer : ℕ) (stack under : List Value) → is_call way ≡ true → popped (function_at p g).params stack [] ≡ (map word_of values, under) → Leaves rest → relation.Awaits p all c 0 rest (at + 1) under → results.Same p r all (source.perform p r answer s (Does (Enter g way values) rest)) (lin.perform p r answer (results.built p r all s us cs (At at stack)) at (call_op way g) stack)
    calls Plainly g values rest at answer stack under k e leaves h =
        rw e (enters s us cs waiting g values (Caller s.call false ∷ rest) (record { call = s.call; crosses = false; place = at + 1; stack = under } ∷ cs) (At at stack) (at + 1, under, cs, refl, h, knows, leaves) (λ x. x) tt)
    calls ByGate g values rest at answer stack under k e leaves h =
        let crosses = not (nat_eq (home p r c.function) (home p r g)) in
        rw e (enters s us cs waiting g values (Caller s.call crosses ∷ rest) (record { call = s.call; crosses = crosses; place = at + 1; stack = under } ∷ cs) (At at stack) (at + 1, under, cs, refl, h, knows, leaves) (λ x. x) tt)
    calls First g values rest at answer stack under k e leaves h = absurd cc

    pub enter : (g : ℕ) (way : Way) (values : List Value) (rest : List Frame) (owed at : ℕ) (stack : List Value) → Leaves rest → ActAt owed (Enter g way values) rest at stack → Res owed (Enter g way values) rest at stack
    enter g way values rest owed at stack leaves h =
        let n : (function_at p g).params ≡ length values + 0 = omega (arith, h.2) in
        let e = ap (λ k. popped k (pushed values h.0) []) n ∙ popped_all values 0 h.0 [] ∙ ap (λ l. (l, h.0)) (append-nil (map word_of values)) in
        rw h.1 (acts.made p r all s us cs waiting knows owed (Enter g way values) rest at (pushed values h.0) (call_step p owed way g) h.3.0.0 (one_more owed ((function_at p g).frame / 8)) (call_extra way g owed ((function_at p g).frame / 8) h.4) (call_load way g)
        (λ answer. calls way g values rest at answer (pushed values h.0) h.0 h.4 e leaves h.3.1))

    pub spawn : (g : ℕ) (v : Value) (rest : List Frame) (owed at : ℕ) (stack : List Value) → Leaves rest → ActAt owed (Spawn g v) rest at stack → Res owed (Spawn g v) rest at stack
    spawn g v rest owed at stack leaves h =
        rw h.1 (acts.made p r all s us cs waiting knows owed (Spawn g v) rest at (word_of v ∷ h.0) _ h.2.0.0 (omega arith) (omega arith) refl (λ answer. rw (threads_length (places_of s.memory) s.threads us waiting) (by (nat_lt (length s.threads) 16)))) where
          by : (b : Bool) → results.Same p r all (if b then Goes [] (record s { threads = s.threads ++ source.new_thread g v ∷ []; spot = give (Number (length s.threads)) rest }) else Stops [] ThreadsFull) (if b then Goes [] (record (results.built p r all s us cs (At at (word_of v ∷ h.0))) { threads = us ++ lin.new_thread g (word_of v) ∷ []; spot = At (at + 1) (Number (length s.threads) ∷ h.0) }) else Stops [] ThreadsFull)
          by true = results.gave p r all (record s { threads = s.threads ++ source.new_thread g v ∷ [] }) (us ++ lin.new_thread g (word_of v) ∷ []) cs (threads_append (places_of s.memory) s.threads us _ _ waiting (refl, (v, refl, refl, refl))) rest (at + 1) (Number (length s.threads)) h.0 [] (At at (word_of v ∷ h.0)) leaves knows h.2.1
          by false = inl refl

    pub switch : (v : Value) (rest : List Frame) (owed at : ℕ) (stack : List Value) → Leaves rest → ActAt owed (Switch v) rest at stack → Res owed (Switch v) rest at stack
    switch (Number t) rest owed at stack leaves h =
        rw h.1 (acts.made p r all s us cs waiting knows owed (Switch (Number t)) rest at (Number t ∷ h.0) _ h.2.0.0 (omega arith) (omega arith) refl (λ answer. by (nat_eq t s.current))) where
          by : (b : Bool) → results.Same p r all (if b then source.gives s rest Void else source.resume s (source.Waiting (give Void rest) s.call) t (slice_get s.threads t)) (if b then lin.goes_to (results.built p r all s us cs (At at (Number t ∷ h.0))) (at + 1) (Void ∷ h.0) else lin.resume (results.built p r all s us cs (At at (Number t ∷ h.0))) (lin.Waiting (At (at + 1) (Void ∷ h.0)) s.call cs) t (slice_get us t))
          by true = acts.gave p r all s us cs waiting knows rest at (at + 1) Void (Number t ∷ h.0) h.0 leaves h.2.1
          by false = resumes s us cs waiting (source.Waiting (give Void rest) s.call) (lin.Waiting (At (at + 1) (Void ∷ h.0)) s.call cs) t (slice_get s.threads t) (slice_get us t) (At at (Number t ∷ h.0)) (refl, (rest, h.0, refl, refl, h.2.1, leaves, knows)) (threads_get (places_of s.memory) s.threads us t waiting)
    switch v rest owed at stack leaves h = rw h.1 (acts.made p r all s us cs waiting knows owed (Switch v) rest at _ _ h.2.0.0 (omega arith) (omega arith) refl (λ answer. inr (refl, tt)))

    leaves_same : (rest : List Frame) (v : Value) (there : lin.Spot) → Leaves rest → results.Same p r all (source.leave p s v rest) (lin.leave p (results.built p r all s us cs there) (word_of v))
    leaves_same rest v there h =
        let e : places_of s.memory ≡ places_of (source.left p s).memory = sym (places_without s.memory s.call.base (length (function_at p s.call.function).variables)) in
        returns (source.left p s) us (subst (λ l. relation.ThreadsAt p all l s.threads us) e waiting) rest cs v there (subst (λ l. relation.Leaves p all l rest cs) e h)

    fall_is : (t : TyTree) (m : lin.State) (answer at : ℕ) → lin.perform p r answer m at op.Return (fall_stack t) ≡ lin.leave p m (word_of (source.value_at_end t))
    fall_is (IntTy i) m answer at = refl
    fall_is (PtrTy t) m answer at = refl
    fall_is VoidTy m answer at = refl
    fall_is (StructTy n) m answer at = refl
    fall_is (ArrayTy t n) m answer at = refl

    pub leave : (v : Value) (rest : List Frame) (owed at : ℕ) (stack : List Value) → Leaves rest → ActAt owed (Leave v) rest at stack → Res owed (Leave v) rest at stack
    leave v rest owed at stack leaves h =
        rw h.0 (acts.made p r all s us cs waiting knows owed (Leave v) rest at (word_of v ∷ []) (costing (1 + owed) op.Return) h.1.0 (omega arith) (omega (arith, crossing_is (places_of s.memory) rest cs leaves)) refl (λ answer. leaves_same rest v (At at (word_of v ∷ [])) leaves))

    pub fall : (rest : List Frame) (owed at : ℕ) (stack : List Value) → Leaves rest → ActAt owed FallOff rest at stack → Res owed FallOff rest at stack
    fall rest owed at stack leaves h =
        let t = (function_at p s.call.function).gives in
        rw (h.0, h.1) (acts.made p r all s us cs waiting knows 0 FallOff rest at (fall_stack t) (costing 1 op.Return) h.2.0 (omega arith) (omega (arith, crossing_is (places_of s.memory) rest cs leaves)) refl
        (λ answer. rw (fall_is t (results.built p r all s us cs (At at (fall_stack t))) answer at) (leaves_same rest (source.value_at_end t) (At at (fall_stack t)) leaves)))
