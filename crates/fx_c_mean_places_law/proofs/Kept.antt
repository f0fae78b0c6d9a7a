-- What each state of a run keeps: frames fit into their stacks, calls have their objects, and live objects have a call.
use Rattle.std.proofs.Common.{◌≡◌, ◌≢◌, ◌⊎◌, inl, inr, ℕ, zero, suc, ◌+◌, ◌-◌, ◌<◌, ◌≤◌, not, Bool, true, false, nat_eq, nat_lt, nat_le, List, [], ◌∷◌, ◌++◌, length, slice_get, Option, Some, None, Result, Ok, Err, if◌then◌else◌, refl, sym, ap, subst, ◌∙◌, arith}
use Rattle.std.specs.Prelude.{slice_set, slice_index_or}
use Rattle.std.proofs.lemmas.Bool.{cases_eq, cases_lt, not-true, ltb-true, ltb-false, leb-true, lt-ltb, le-leb, and_from, and_parts}
use Rattle.fx_outcomes.specs.Runs.{Goes, Stops}
use Rattle.fx_c_mean_blocks.specs.declared.value.Value.{Value}
use Rattle.fx_c_mean_blocks.specs.declared.value.Value.TheVariants.{Void, Number}
use Rattle.fx_c_mean_blocks.specs.declared.value.Cell.{Cell}
use Rattle.fx_c_mean_blocks.specs.declared.block.Place.{Place}
use Rattle.fx_c_mean_blocks.specs.declared.block.Object.{Object}
use Rattle.fx_c_mean_blocks.specs.declared.fault.Fault.{Fault}
use Rattle.fx_c_mean_blocks.specs.Blocks.{width, byte_read, loaded, writable, object_in, offset_in, cells_of, written, without, moved}
use Rattle.fx_c_mean_blocks.specs.Operators.{unary_result, conversion, binary_result}
use Rattle.fx_c_mean_model.specs.declared.end.End.TheVariants.{Denied, StackFull, ThreadsFull, Exit}
use Rattle.fx_c_mean_model.specs.declared.rights.Rights.{Rights}
use Rattle.fx_c_mean_model.specs.Programs.{Program, Variable, function_at, size_in, first_memory, call_objects}
use Rattle.fx_c_mean_model.specs.Rights.{may, stack_of, stack_size, no_variable}
use Rattle.fx_c_mean_model.specs.States.{Act, Way, Plainly, ByGate, First, Call, Frame, Caller, Arguments, Truth, Spot, Does, Push, SizeOf, GlobalAddress, LiteralAddress, LocalAddress, Load, Apply, Convert, Step, Combine, Decide, Judge, Enter, Ask, Tell, Spawn, Switch, Self, Store, ReadByte, WriteByte, Branch, Test, JumpBack, Break, Continue, Leave, FallOff, Stuck, begin_all, follow, begin_loop, after_loop, next_round, unwind, give}
use Rattle.fx_c_mean_model.specs.Steps.{Thread, Running, Waiting, Ended, State, Outcome, if_value, granted, perform, step, told, switch, resume, ended, returned, leave, left, stores, further, actor, at, gives, gives_result, enter, entered, has_room, waiting_for, crosses_by, taken, use_of, value_at_end, exit_value, truth_value, is_true, new_thread, spawn, member_of, next_byte, decide, branch, tested, place_of, operation, first_state}
use Rattle.fx_c_mean_places.specs.Places.{owns}
use Rattle.fx_c_mean_places_law.proofs.Memory.{Keeps, Wakes, keeps_all, wakes_none, keeps_more, written_keeps, written_wakes, appended_keeps, without_keeps, without_wakes, without_none, get_same, get_other, get_before, get_behind, is_within}
use Rattle.fx_c_mean_places_law.proofs.Silent.{marked, callers, Clean, IsAt, begun, loops, follows, loops_left, rounds, given, decided, branches, tests, copied, unwinds}

-- ---- frames and spots

pub use_callers : (p : Program) (r : Rights) (k : ℕ) (rest : List Frame) → use_of p r k (callers rest) ≡ use_of p r k rest
use_callers p r k [] = refl
use_callers p r k (Caller call crosses ∷ rest) = ap (λ n. taken p r k call crosses + n) (use_callers p r k rest)
use_callers p r k (Arguments f First before more ∷ rest) = use_callers p r k rest
use_callers p r k (Arguments f Plainly before more ∷ rest) = use_callers p r k rest
use_callers p r k (Arguments f ByGate before more ∷ rest) = use_callers p r k rest
use_callers p r k (_ ∷ rest) = use_callers p r k rest

-- a fact of the calls of a thread at a spot, the latest first; another one of a thread before its first step
abbrev pub AtSpot : (List Frame → Type 0) → (List Frame → Type 0) → Call → Spot → Type 0
AtSpot P Q call (Does Stuck rest) = Unit {0}
AtSpot P Q call (Does (Enter f First values) rest) = Q rest
AtSpot P Q call (Does act rest) = P (Caller call false ∷ callers rest)

pub placed : (P Q : List Frame → Type 0) (call : Call) (cs : List Frame) (spot : Spot) → IsAt cs spot → Clean cs → P (Caller call false ∷ cs) → AtSpot P Q call spot
placed P Q call cs (Does Stuck rest) h c k = tt
placed P Q call cs (Does (Enter f First values) rest) h c k = absurd (subst Clean (sym h) c)
placed P Q call cs (Does (Enter f Plainly values) rest) h c k = subst (λ x. P (Caller call false ∷ x)) (sym h) k
placed P Q call cs (Does (Enter f ByGate values) rest) h c k = subst (λ x. P (Caller call false ∷ x)) (sym h) k
placed P Q call cs (Does act rest) h c k = subst (λ x. P (Caller call false ∷ x)) (sym h) k

abbrev pub IsNone : List Frame → Type 0
IsNone rest = rest ≡ []

abbrev pub Never : List Frame → Type 0
Never rest = ⊥

-- ---- objects of a call

size_of : (p : Program) (f n : ℕ) (vars : List Variable) (values : List Value) (i : ℕ) → i < length vars
    → (o : Object) × (slice_get (call_objects p f n vars values) i ≡ Some o) × (o.size ≡ size_in p (slice_index_or vars i no_variable).ty)
size_of p f n [] values i l = absurd (omega arith)
size_of p f n (x ∷ xs) [] zero l = (_, refl, refl)
size_of p f n (x ∷ xs) (v ∷ vs) zero l = (_, refl, refl)
size_of p f n (x ∷ xs) [] (suc i) l = size_of p f (n + 1) xs [] i (omega arith)
size_of p f n (x ∷ xs) (v ∷ vs) (suc i) l = size_of p f (n + 1) xs vs i (omega arith)

count_of : (p : Program) (f n : ℕ) (vars : List Variable) (values : List Value) → length (call_objects p f n vars values) ≡ length vars
count_of p f n [] values = refl
count_of p f n (x ∷ xs) [] = ap suc (count_of p f (n + 1) xs [])
count_of p f n (x ∷ xs) (v ∷ vs) = ap suc (count_of p f (n + 1) xs vs)

module _ (p : Program) (r : Rights) where
  abbrev pub vars : Call → List Variable
  vars call = (function_at p call.function).variables

  -- a call's frame fits, and its objects are there
  abbrev pub Stands : List Object → Call → List Frame → Type 0
  Stands m call rest =
      (use_of p r (stack_of p r call.function) rest + (function_at p call.function).frame + 96 ≤ stack_size r)
      × ((i : ℕ) → i < length (vars call) → (o : Object) × (slice_get m (call.base + i) ≡ Some o) × (o.size ≡ size_in p (slice_index_or (vars call) i no_variable).ty))

  abbrev pub Fits : List Object → List Frame → Type 0
  Fits m [] = Unit {0}
  Fits m (Caller call crosses ∷ rest) = Stands m call rest × Fits m rest
  Fits m (_ ∷ rest) = ⊥

  -- an object is one of these calls'
  abbrev pub Owned : ℕ → List Frame → Type 0
  Owned i [] = ⊥
  Owned i (Caller call crosses ∷ rest) = (owns p call i ≡ true) ⊎ Owned i rest
  Owned i (_ ∷ rest) = Owned i rest

  abbrev pub FitsAt : List Object → Call → Spot → Type 0
  FitsAt m call spot = AtSpot (Fits m) IsNone call spot

  abbrev pub OwnedAt : ℕ → Call → Spot → Type 0
  OwnedAt i call spot = AtSpot (Owned i) Never call spot

  abbrev pub Elsewhere : ℕ → List Thread → Type 0
  Elsewhere i threads = (t : ℕ) × (spot : Spot) × (call : Call) × (slice_get threads t ≡ Some (Waiting spot call)) × OwnedAt i call spot

  abbrev pub statics : ℕ
  statics = length (first_memory p)

  pub record Kept (s : State) : Type 0 where
    pub running : slice_get s.threads s.current ≡ Some Running
    pub here : FitsAt s.memory s.call s.spot
    pub there : (t : ℕ) (spot : Spot) (call : Call) → slice_get s.threads t ≡ Some (Waiting spot call) → FitsAt s.memory call spot
    pub first : Keeps (first_memory p) s.memory
    pub owned : (i : ℕ) (o : Object) → statics ≤ i → slice_get s.memory i ≡ Some o → o.live ≡ true → OwnedAt i s.call s.spot ⊎ Elsewhere i s.threads

  clean : (m : List Object) (cs : List Frame) → Fits m cs → Clean cs
  clean m [] h = tt
  clean m (Caller call crosses ∷ cs) h = clean m cs h.1
  clean m (_ ∷ cs) h = absurd h

  stands_kept : (m n : List Object) (call : Call) (rest : List Frame) → Keeps m n → Stands m call rest → Stands n call rest
  stands_kept m n call rest keeps h = (
    h.0,
    λ i l.
        let (o, e, s) = h.1 i l in
        let (u, f, t) = keeps (call.base + i) o e in
        (u, f, t ∙ s),
  )

  fits_kept : (m n : List Object) (cs : List Frame) → Keeps m n → Fits m cs → Fits n cs
  fits_kept m n [] keeps h = tt
  fits_kept m n (Caller call crosses ∷ cs) keeps h = (stands_kept m n call cs keeps h.0, fits_kept m n cs keeps h.1)
  fits_kept m n (_ ∷ cs) keeps h = absurd h

  at_kept : (m n : List Object) (call : Call) (spot : Spot) → Keeps m n → FitsAt m call spot → FitsAt n call spot
  at_kept m n call (Does Stuck rest) keeps h = tt
  at_kept m n call (Does (Enter f First values) rest) keeps h = h
  at_kept m n call (Does (Enter f Plainly values) rest) keeps h = fits_kept m n (Caller call false ∷ callers rest) keeps h
  at_kept m n call (Does (Enter f ByGate values) rest) keeps h = fits_kept m n (Caller call false ∷ callers rest) keeps h
  at_kept m n call (Does act rest) keeps h = fits_kept m n (Caller call false ∷ callers rest) keeps h

  -- the spot has the thread's calls, and is no thread's first
  abbrev Plain : Call → Spot → List Frame → Type 1
  Plain call spot rest = (P Q : List Frame → Type 0) → AtSpot P Q call spot → P (Caller call false ∷ callers rest)

  -- the same calls at another spot, with other cells in memory
  on : (s : State) (rest : List Frame) (m : List Object) (next : Spot) → Plain s.call s.spot rest → Kept s → Keeps s.memory m → Wakes s.memory m → IsAt (callers rest) next → Kept (record s { memory = m; spot = next })
  on s rest m next plain v keeps wakes is =
      let fits : Fits s.memory (Caller s.call false ∷ callers rest) = plain (Fits s.memory) IsNone v.here in
      let none = clean s.memory (callers rest) fits.1 in
      record {
        running = v.running;
        here = placed (Fits m) IsNone s.call (callers rest) next is none (fits_kept s.memory m (Caller s.call false ∷ callers rest) keeps fits);
        there = λ t spot call e. at_kept s.memory m call spot keeps (v.there t spot call e);
        first = keeps_more (first_memory p) s.memory m v.first keeps;
        owned = λ i o le e live.
            let (u, f, was) = wakes i o e live in
            elim (v.owned i u le f was) [
              | inl h ↦ inl (placed (Owned i) Never s.call (callers rest) next is none (plain (Owned i) Never h))
              | inr h ↦ inr h
            ];
      }

  -- ---- outcomes

  abbrev pub After : Outcome → Type 0
  After (Goes made s) = Kept s
  After (Stops made e) = Unit {0}

  either : (b : Bool) (x y : Outcome) → (b ≡ true → After x) → (b ≡ false → After y) → After (if b then x else y)
  either true x y h k = h refl
  either false x y h k = k refl

  value : {A : Type 0} (x : Result A Fault) (go : A → Outcome) → ((a : A) → After (go a)) → After (if_value x go)
  value (Ok a) go h = h a
  value (Err e) go h = tt

  module _ (s : State) (rest : List Frame) (plain : Plain s.call s.spot rest) (v : Kept s) where
    goes : (next : Spot) → IsAt (callers rest) next → Kept (record s { spot = next })
    goes next is = on s rest s.memory next plain v (keeps_all s.memory) (wakes_none s.memory) is

    gave : (w : Value) → Kept (record s { spot = give w rest })
    gave w = goes (give w rest) (given (callers rest) w rest refl)

    result : (x : Result Value Fault) → After (gives_result s rest x)
    result x = value x (λ w. gives s rest w) gave

    allowed : (w : Value) (write : Bool) (place : Place) (done : Outcome) → After done → After (granted p r s w write place done)
    allowed w write place done h = either (may p r (actor p r s) place write) done (Stops [] (Denied (actor p r s) (object_in w) (offset_in w) write)) (λ e. h) (λ e. tt {0})

    stored : (to : Value) (bytes : ℕ) (cells : List Cell) (next : Spot) → IsAt (callers rest) next → After (stores p r s to bytes cells next)
    stored to bytes cells next is =
        value (writable s.memory to bytes) _ (λ place. allowed to true place (Goes [] (record s { memory = written s.memory to cells; spot = next }))
        (on s rest (written s.memory to cells) next plain v (written_keeps s.memory to cells) (written_wakes s.memory to cells) is))

    tells : (d g : ℕ) (w : Value) → After (told s rest d g w)
    tells d g (Number n) = gave Void
    tells d g _ = tt

  -- ---- threads

  abbrev LeftAt : ℕ → Thread → Type 0
  LeftAt i (Waiting spot call) = OwnedAt i call spot
  LeftAt i _ = ⊥

  left_at : (i : ℕ) (l : Thread) → LeftAt i l → (spot : Spot) × (call : Call) × (l ≡ Waiting spot call) × OwnedAt i call spot
  left_at i (Waiting spot call) h = (spot, call, refl, h)
  left_at i Running h = absurd h
  left_at i Ended h = absurd h

  no_two : (spot : Spot) (call : Call) → Some Running ≡ Some (Waiting spot call) → ⊥
  no_two spot call e = cc

  module _ (s : State) (l : Thread)
      (running : slice_get s.threads s.current ≡ Some Running)
      (leaves : (spot : Spot) (call : Call) → l ≡ Waiting spot call → FitsAt s.memory call spot)
      (there : (t : ℕ) (spot : Spot) (call : Call) → slice_get s.threads t ≡ Some (Waiting spot call) → FitsAt s.memory call spot)
      (first : Keeps (first_memory p) s.memory)
      (owned : (i : ℕ) (o : Object) → statics ≤ i → slice_get s.memory i ≡ Some o → o.live ≡ true → LeftAt i l ⊎ Elsewhere i s.threads) where
    abbrev mid : List Thread
    mid = slice_set s.threads s.current l

    module _ (t : ℕ) (spot : Spot) (call : Call) (waits : slice_get s.threads t ≡ Some (Waiting spot call)) where
      abbrev all : List Thread
      all = slice_set mid t Running

      other : t ≡ s.current → ⊥
      other e = no_two spot call (sym running ∙ ap (slice_get s.threads) (sym e) ∙ waits)

      at_mid : slice_get mid t ≡ Some (Waiting spot call)
      at_mid = get_other s.threads t s.current l other ∙ waits

      left_there : slice_get all s.current ≡ Some l
      left_there = get_other mid s.current t Running (λ e. other (sym e)) ∙ get_same s.threads s.current l Running running

      others : (u : ℕ) → (u ≡ t → ⊥) → (u ≡ s.current → ⊥) → slice_get all u ≡ slice_get s.threads u
      others u d e = get_other mid u t Running d ∙ get_other s.threads u s.current l e

      waiting_there : (u : ℕ) (at : Spot) (c : Call) → slice_get all u ≡ Some (Waiting at c) → FitsAt s.memory c at
      waiting_there u at c h =
          elim (cases_eq u t) [
            | inl same ↦ absurd (no_two at c (sym (get_same mid t Running (Waiting spot call) at_mid) ∙ ap (slice_get all) (sym same) ∙ h))
            | inr d ↦ elim (cases_eq u s.current) [
              | inl same ↦
                  let both : Some l ≡ Some (Waiting at c) = sym left_there ∙ ap (slice_get all) (sym same) ∙ h in
                  leaves at c cc
              | inr e ↦ there u at c (sym (others u d e) ∙ h)
            ]
          ]

      owned_there : (i : ℕ) (o : Object) → statics ≤ i → slice_get s.memory i ≡ Some o → o.live ≡ true → OwnedAt i call spot ⊎ Elsewhere i all
      owned_there i o le e live =
          elim (owned i o le e live) [
            | inl h ↦
                let (at, c, is, own) = left_at i l h in
                inr (s.current, at, c, left_there ∙ ap Some is, own)
            | inr h ↦
                let (u, at, c, is, own) = h in
                elim (cases_eq u t) [
                  | inl same ↦
                      let both : Some (Waiting spot call) ≡ Some (Waiting at c) = sym waits ∙ ap (slice_get s.threads) (sym same) ∙ is in
                      let one : Waiting spot call ≡ Waiting at c = cc in
                      inl (subst (LeftAt i) (sym one) own)
                  | inr d ↦ elim (cases_eq u s.current) [
                    | inl same ↦ absurd (no_two at c (sym running ∙ ap (slice_get s.threads) (sym same) ∙ is))
                    | inr e ↦ inr (u, at, c, others u d e ∙ is, own)
                  ]
                ]
          ]

      resumes : Kept (record s { threads = all; current = t; call = call; spot = spot })
      resumes = record {
        running = get_same mid t Running (Waiting spot call) at_mid;
        here = there t spot call waits;
        there = waiting_there;
        first = first;
        owned = owned_there;
      }

    resumed : (t : ℕ) (x : Option Thread) → slice_get s.threads t ≡ x → After (resume s l t x)
    resumed t (Some (Waiting spot call)) e = resumes t spot call e
    resumed t (Some Running) e = tt
    resumed t (Some Ended) e = tt
    resumed t None e = tt

  waits_on : (spot at : Spot) (call c : Call) (m : List Object) → Waiting spot call ≡ Waiting at c → FitsAt m call spot → FitsAt m c at
  waits_on spot at call c m e h =
      let one : spot ≡ at = cc in
      let two : call ≡ c = cc in
      subst (λ x. FitsAt m x at) two (subst (λ x. FitsAt m call x) one h)

  switched : (s : State) (rest : List Frame) → Plain s.call s.spot rest → Kept s → (w : Value) → After (switch s rest w)
  switched s rest plain v (Number t) =
      let next = gave s rest plain v Void in
      either (nat_eq t s.current) (gives s rest Void) (resume s (Waiting (give Void rest) s.call) t (slice_get s.threads t)) (λ e. next)
      (λ e. resumed s (Waiting (give Void rest) s.call) v.running (λ spot call is. waits_on (give Void rest) spot s.call call s.memory is next.here) v.there v.first
      (λ i o le f live. next.owned i o le f live) t (slice_get s.threads t) refl)
  switched s rest plain v _ = tt

  -- a thread more
  spawned : (s : State) (rest : List Frame) → Plain s.call s.spot rest → Kept s → (f : ℕ) (w : Value) → After (spawn s rest f w)
  spawned s rest plain v f w =
      let spot = give (Number (length s.threads)) rest in
      let next = gave s rest plain v (Number (length s.threads)) in
      let new = new_thread f w ∷ [] in
      let more : Kept (record s { threads = s.threads ++ new; spot = spot }) = record {
        running = get_before s.threads new s.current (is_within s.threads s.current Running v.running) ∙ v.running;
        here = next.here;
        there = λ t at call e. elim (cases_lt t (length s.threads)) [
          | inl less ↦ v.there t at call (sym (get_before s.threads new t less) ∙ e)
          | inr le ↦ unstarted s.threads f w t at call s.memory le e
        ];
        first = v.first;
        owned = λ i o le e live. elim (next.owned i o le e live) [
          | inl h ↦ inl h
          | inr h ↦ let (t, at, call, is, own) = h in inr (t, at, call, get_before s.threads new t (is_within s.threads t (Waiting at call) is) ∙ is, own)
        ];
      } in
      either (nat_lt (length s.threads) 16) (Goes [] (record s { threads = s.threads ++ new; spot = spot })) (Stops [] ThreadsFull) (λ e. more) (λ e. tt {0})
    where
      behind : (xs : List Thread) (t : ℕ) (x : Thread) → length xs ≤ t → slice_get (xs ++ x ∷ []) t ≡ slice_get (x ∷ []) (t - length xs)
      behind xs t x le =
          let e : t ≡ length xs + (t - length xs) = omega arith in
          ap (slice_get (xs ++ x ∷ [])) e ∙ get_behind xs (x ∷ []) (t - length xs)

      only : (x y : Thread) (k : ℕ) → slice_get (x ∷ []) k ≡ Some y → x ≡ y
      only x y zero e = cc
      only x y (suc k) e = cc

      unstarted : (xs : List Thread) (f : ℕ) (w : Value) (t : ℕ) (at : Spot) (call : Call) (m : List Object) → length xs ≤ t → slice_get (xs ++ new_thread f w ∷ []) t ≡ Some (Waiting at call) → FitsAt m call at
      unstarted xs f w t at call m le e =
          let is : new_thread f w ≡ Waiting at call = only (new_thread f w) (Waiting at call) (t - length xs) (sym (behind xs t (new_thread f w) le) ∙ e) in
          waits_on (Does (Enter f First (w ∷ [])) []) at (record { function = f; base = 0 }) call m is refl

  -- ---- calls

  below_fits : (s : State) (f : ℕ) (way : Way) (values : List Value) (rest : List Frame) → FitsAt s.memory s.call (Does (Enter f way values) rest) → Fits s.memory (callers (waiting_for p r way f s.call rest))
  below_fits s f First values rest h = subst (λ x. Fits s.memory (callers x)) (sym h) tt
  below_fits s f Plainly values rest h = h
  below_fits s f ByGate values rest h = h

  below_owned : (s : State) (i f : ℕ) (way : Way) (values : List Value) (rest : List Frame) → OwnedAt i s.call (Does (Enter f way values) rest) → Owned i (callers (waiting_for p r way f s.call rest))
  below_owned s i f First values rest h = absurd h
  below_owned s i f Plainly values rest h = h
  below_owned s i f ByGate values rest h = h

  module _ (s : State) (f : ℕ) (values : List Value) (rest : List Frame) (v : Kept s)
      (fits : Fits s.memory (callers rest))
      (below : (i : ℕ) → OwnedAt i s.call s.spot → Owned i (callers rest))
      (room : has_room p r f rest ≡ true) where
    abbrev new : List Object
    new = call_objects p f 0 (function_at p f).variables values

    abbrev own : Call
    own = record { function = f; base = length s.memory }

    abbrev next : Spot
    next = begin_all (function_at p f).body rest (follow rest)

    fits_own : Stands (s.memory ++ new) own (callers rest)
    fits_own =
        let le = ltb-false (stack_size r) (use_of p r (stack_of p r f) rest + (function_at p f).frame + 96) (not-true _ room) in (
          omega (arith, use_callers p r (stack_of p r f) rest),
          λ i l.
              let (o, e, size) = size_of p f 0 (function_at p f).variables values i l in
              (o, get_behind s.memory new i ∙ e, size),
        )

    is_at : IsAt (callers rest) next
    is_at = begun (callers rest) (function_at p f).body rest refl

    all_fit : Fits (s.memory ++ new) (Caller own false ∷ callers rest)
    all_fit = (fits_own, fits_kept s.memory (s.memory ++ new) (callers rest) (appended_keeps s.memory new) fits)

    is_own : (i : ℕ) (o : Object) → length s.memory ≤ i → slice_get (s.memory ++ new) i ≡ Some o → owns p own i ≡ true
    is_own i o le e =
        let split : i ≡ length s.memory + (i - length s.memory) = omega arith in
        let there : slice_get new (i - length s.memory) ≡ Some o = sym (ap (slice_get (s.memory ++ new)) split ∙ get_behind s.memory new (i - length s.memory)) ∙ e in
        let less = is_within new (i - length s.memory) o there in
        let count = count_of p f 0 (function_at p f).variables values in
        and_from _ _ (le-leb (length s.memory) i le) (lt-ltb i (length s.memory + length (function_at p f).variables) (omega arith))

    calls : Kept (entered p s f values rest)
    calls = record {
      running = v.running;
      here = placed (Fits (s.memory ++ new)) IsNone own (callers rest) next is_at (clean s.memory (callers rest) fits) all_fit;
      there = λ t spot call e. at_kept s.memory (s.memory ++ new) call spot (appended_keeps s.memory new) (v.there t spot call e);
      first = keeps_more (first_memory p) s.memory (s.memory ++ new) v.first (appended_keeps s.memory new);
      owned = λ i o le e live. elim (cases_lt i (length s.memory)) [
        | inl less ↦ elim (v.owned i o le (sym (get_before s.memory new i less) ∙ e) live) [
          | inl h ↦ inl (placed (Owned i) Never own (callers rest) next is_at (clean s.memory (callers rest) fits) (inr (below i h)))
          | inr h ↦ inr h
        ]
        | inr behind ↦ inl (placed (Owned i) Never own (callers rest) next is_at (clean s.memory (callers rest) fits) (inl (is_own i o behind e)))
      ];
    }

  entering : (s : State) (f : ℕ) (way : Way) (values : List Value) (rest : List Frame) → Kept s → s.spot ≡ Does (Enter f way values) rest → After (enter p r s f values (waiting_for p r way f s.call rest))
  entering s f way values rest v is =
      let fs = waiting_for p r way f s.call rest in
      either (has_room p r f fs) (Goes [] (entered p s f values fs)) (Stops [] (StackFull s.current (stack_of p r f)))
      (λ room. calls s f values fs v (below_fits s f way values rest (subst (FitsAt s.memory s.call) is v.here)) (λ i h. below_owned s i f way values rest (subst (OwnedAt i s.call) is h)) room) (λ e. tt {0})

  -- ---- returns

  unwound : (rest : List Frame) → (unwind rest ≡ []) ⊎ ((call : Call) × (crosses : Bool) × (below : List Frame) × (unwind rest ≡ Caller call crosses ∷ below))
  unwound [] = inl refl
  unwound (Caller call crosses ∷ rest) = inr (call, crosses, rest, refl)
  unwound (_ ∷ rest) = unwound rest

  module _ (s : State) (rest : List Frame) (plain : Plain s.call s.spot rest) (v : Kept s) where
    abbrev m : List Object
    m = without s.memory s.call.base (length (vars s.call))

    keeps : Keeps s.memory m
    keeps = without_keeps s.memory s.call.base (length (vars s.call))

    fits_now : Fits s.memory (Caller s.call false ∷ callers rest)
    fits_now = plain (Fits s.memory) IsNone v.here

    no_more : (i : ℕ) (o : Object) → slice_get m i ≡ Some o → o.live ≡ true → owns p s.call i ≡ true → ⊥
    no_more i o e live own =
        let both = and_parts (nat_le s.call.base i) (nat_lt i (s.call.base + length (vars s.call))) own in
        let a = leb-true s.call.base i both.0 in
        let b = ltb-true i (s.call.base + length (vars s.call)) both.1 in
        elim (without_none s.memory s.call.base (length (vars s.call)) i o e live) [ inl lower ↦ absurd (omega arith) | inr le ↦ absurd (omega arith) ]

    -- who has an object once the call's are dead
    remains : (i : ℕ) (o : Object) → statics ≤ i → slice_get m i ≡ Some o → o.live ≡ true → Owned i (callers rest) ⊎ Elsewhere i s.threads
    remains i o le e live =
        let (u, f, was) = without_wakes s.memory s.call.base (length (vars s.call)) i o e live in
        elim (v.owned i u le f was) [
          | inl h ↦ elim (plain (Owned i) Never h) [
            | inl own ↦ absurd (no_more i o e live own)
            | inr more ↦ inl more
          ]
          | inr h ↦ inr h
        ]

    there_now : (t : ℕ) (spot : Spot) (call : Call) → slice_get s.threads t ≡ Some (Waiting spot call) → FitsAt m call spot
    there_now t spot call e = at_kept s.memory m call spot keeps (v.there t spot call e)

    first_now : Keeps (first_memory p) m
    first_now = keeps_more (first_memory p) s.memory m v.first keeps

    same_callers : callers (unwind rest) ≡ callers rest
    same_callers = unwinds rest (clean s.memory (callers rest) fits_now.1)

    to_caller : (w : Value) (call : Call) (crosses : Bool) (below : List Frame) → unwind rest ≡ Caller call crosses ∷ below → Kept (record s { memory = m; call = call; spot = give w below })
    to_caller w call crosses below is =
        let same : callers rest ≡ Caller call crosses ∷ callers below = sym same_callers ∙ ap callers is in
        let fits : Fits m (Caller call false ∷ callers below) = fits_kept s.memory m (Caller call crosses ∷ callers below) keeps (subst (Fits s.memory) same fits_now.1) in
        let none = clean m (callers below) fits.1 in
        let is_at = given (callers below) w below refl in
        record {
          running = v.running;
          here = placed (Fits m) IsNone call (callers below) (give w below) is_at none fits;
          there = there_now;
          first = first_now;
          owned = λ i o le e live. elim (remains i o le e live) [
            | inl h ↦ inl (placed (Owned i) Never call (callers below) (give w below) is_at none (subst (Owned i) same h))
            | inr h ↦ inr h
          ];
        }

    ends : (w : Value) → unwind rest ≡ [] → After (ended p (left p s) w)
    ends w is =
        let none : callers rest ≡ [] = sym same_callers ∙ ap callers is in
        either (nat_eq s.current 0) (Stops [] (Exit (exit_value (function_at p s.call.function).gives w))) (resume (left p s) Ended 0 (slice_get s.threads 0)) (λ e. tt {0})
        (λ e. resumed (left p s) Ended v.running (λ spot call bad. absurd (ended_waits spot call bad)) there_now first_now
        (λ i o le f live. elim (remains i o le f live) [ inl h ↦ absurd (subst (Owned i) none h) | inr h ↦ inr h ]) 0 (slice_get s.threads 0) refl)
      where
        ended_waits : (spot : Spot) (call : Call) → Ended ≡ Waiting spot call → ⊥
        ended_waits spot call e = cc

    leaves_to : (w : Value) (fs : List Frame) → unwind rest ≡ fs → ((fs ≡ []) ⊎ ((call : Call) × (crosses : Bool) × (below : List Frame) × (fs ≡ Caller call crosses ∷ below))) → After (returned p (left p s) w fs)
    leaves_to w fs is (inl e) = subst (λ x. After (returned p (left p s) w x)) (sym e) (ends w (is ∙ e))
    leaves_to w fs is (inr (call, crosses, below, e)) = subst (λ x. After (returned p (left p s) w x)) (sym e) (to_caller w call crosses below (is ∙ e))

    leaving : (w : Value) → After (leave p s w rest)
    leaving w = leaves_to w (unwind rest) refl (unwound rest)

  -- ---- steps

  module _ (s : State) (answer : ℕ) where
    abbrev Whole : Act → List Frame → Type 0
    Whole act rest = s.spot ≡ Does act rest

    performed : (act : Act) (rest : List Frame) → Kept s → Whole act rest → After (perform p r answer s (Does act rest))
    performed (Enter f way values) rest v is = entering s f way values rest v is
    performed Stuck rest v is = tt
    performed (Push w) rest v is = gave s rest (λ P Q h. subst (AtSpot P Q s.call) is h) v w
    performed (SizeOf ty) rest v is = gave s rest (λ P Q h. subst (AtSpot P Q s.call) is h) v _
    performed (GlobalAddress n) rest v is = gave s rest (λ P Q h. subst (AtSpot P Q s.call) is h) v _
    performed (LiteralAddress n) rest v is = gave s rest (λ P Q h. subst (AtSpot P Q s.call) is h) v _
    performed (LocalAddress n) rest v is = gave s rest (λ P Q h. subst (AtSpot P Q s.call) is h) v _
    performed (Load ty w) rest v is =
        let plain : Plain s.call s.spot rest = λ P Q h. subst (AtSpot P Q s.call) is h in
        value (loaded s.memory ty w) _ (λ x. allowed s rest plain v w false x.1 (gives s rest x.0) (gave s rest plain v x.0))
    performed (Apply op ty w) rest v is = result s rest (λ P Q h. subst (AtSpot P Q s.call) is h) v (unary_result op ty w)
    performed (Convert from to w) rest v is = result s rest (λ P Q h. subst (AtSpot P Q s.call) is h) v (conversion s.memory from to w)
    performed (Step struct member w) rest v is = result s rest (λ P Q h. subst (AtSpot P Q s.call) is h) v (moved s.memory w (member_of p struct member))
    performed (Combine op first second w u) rest v is = result s rest (λ P Q h. subst (AtSpot P Q s.call) is h) v (binary_result p.structs s.memory op first second w u)
    performed (Decide op b w) rest v is = goes s rest (λ P Q h. subst (AtSpot P Q s.call) is h) v _ (decided (callers rest) op (is_true w) b rest refl)
    performed (Judge w) rest v is = gave s rest (λ P Q h. subst (AtSpot P Q s.call) is h) v _
    performed (Ask device register) rest v is = gave s rest (λ P Q h. subst (AtSpot P Q s.call) is h) v (Number answer)
    performed (Tell device register w) rest v is = tells s rest (λ P Q h. subst (AtSpot P Q s.call) is h) v device register w
    performed (Spawn f w) rest v is = spawned s rest (λ P Q h. subst (AtSpot P Q s.call) is h) v f w
    performed (Switch w) rest v is = switched s rest (λ P Q h. subst (AtSpot P Q s.call) is h) v w
    performed Self rest v is = gave s rest (λ P Q h. subst (AtSpot P Q s.call) is h) v _
    performed (Store ty to w) rest v is = stored s rest (λ P Q h. subst (AtSpot P Q s.call) is h) v to (width ty) (cells_of (width ty) w) (follow rest) (follows (callers rest) rest refl)
    performed (ReadByte ty to w done) rest v is =
        let plain : Plain s.call s.spot rest = λ P Q h. subst (AtSpot P Q s.call) is h in
        value (byte_read s.memory (further w done)) _ (λ x. allowed s rest plain v (further w done) false x.1 (at s (Does (WriteByte ty to w done x.0) rest)) (goes s rest plain v (Does (WriteByte ty to w done x.0) rest) refl))
    performed (WriteByte ty to w done cell) rest v is =
        stored s rest (λ P Q h. subst (AtSpot P Q s.call) is h) v (further to done) 1 (cell ∷ []) (next_byte p rest ty to w (done + 1)) (copied (callers rest) p ty to w (done + 1) rest refl)
    performed (Branch w s1 s2) rest v is = goes s rest (λ P Q h. subst (AtSpot P Q s.call) is h) v _ (branches (callers rest) (is_true w) s1 s2 rest refl)
    performed (Test w loop) rest v is = goes s rest (λ P Q h. subst (AtSpot P Q s.call) is h) v _ (tests (callers rest) (is_true w) loop rest refl)
    performed (JumpBack loop) rest v is = goes s rest (λ P Q h. subst (AtSpot P Q s.call) is h) v _ (loops (callers rest) loop rest refl)
    performed Break rest v is =
        let plain : Plain s.call s.spot rest = λ P Q h. subst (AtSpot P Q s.call) is h in
        goes s rest plain v _ (loops_left (callers rest) rest refl (clean s.memory (callers rest) (plain (Fits s.memory) IsNone v.here).1))
    performed Continue rest v is =
        let plain : Plain s.call s.spot rest = λ P Q h. subst (AtSpot P Q s.call) is h in
        goes s rest plain v _ (rounds (callers rest) rest refl (clean s.memory (callers rest) (plain (Fits s.memory) IsNone v.here).1))
    performed (Leave w) rest v is = leaving s rest (λ P Q h. subst (AtSpot P Q s.call) is h) v w
    performed FallOff rest v is = leaving s rest (λ P Q h. subst (AtSpot P Q s.call) is h) v (value_at_end (function_at p s.call.function).gives)

    at_spot : (spot : Spot) → s.spot ≡ spot → Kept s → After (perform p r answer s spot)
    at_spot (Does act rest) is v = performed act rest v is

  pub stepped : (s : State) (answer : ℕ) → Kept s → After (step p r answer s)
  stepped s answer v = at_spot s answer s.spot refl v

  pub begins : Kept (first_state p)
  begins = record {
    running = refl;
    here = refl;
    there = λ t spot call e. absurd (nobody t spot call e);
    first = keeps_all (first_memory p);
    owned = λ i o le e live. absurd (let less = is_within (first_memory p) i o e in omega arith);
  }
    where
      nobody : (t : ℕ) (spot : Spot) (call : Call) → slice_get (Running ∷ []) t ≡ Some (Waiting spot call) → ⊥
      nobody zero spot call e = cc
      nobody (suc t) spot call e = cc
