-- One step under two rights.
use Rattle.std.proofs.Common.{◌≡◌, ℕ, ◌+◌, ◌⊎◌, inl, inr, Bool, true, false, nat_eq, nat_lt, List, [], ◌∷◌, ◌++◌, length, map, slice_get, Option, Some, None, Result, Ok, Err, if◌then◌else◌, refl, sym, ap, subst, ◌∙◌}
use Rattle.std.specs.Prelude.{option_map, slice_set}
use Rattle.std.proofs.lemmas.List.{length-map, map-append, map-set}
use Rattle.std.proofs.lemmas.Option.{slice_get-map}
use Rattle.fx_outcomes.specs.Runs.{Goes, Stops}
use Rattle.fx_c_mean_blocks.specs.declared.value.Value.{Value}
use Rattle.fx_c_mean_blocks.specs.declared.value.Value.TheVariants.{Void, Number, Null, Address}
use Rattle.fx_c_mean_blocks.specs.declared.value.Cell.{Cell}
use Rattle.fx_c_mean_blocks.specs.declared.block.Place.{Place}
use Rattle.fx_c_mean_blocks.specs.declared.block.Object.{Object}
use Rattle.fx_c_mean_blocks.specs.declared.fault.Fault.{Fault}
use Rattle.fx_c_mean_blocks.specs.Blocks.{width, byte_read, loaded, writable, object_in, offset_in, cells_of, written, without, moved}
use Rattle.fx_c_mean_blocks.specs.Operators.{unary_result, conversion, binary_result}
use Rattle.fx_c_mean_model.specs.declared.end.End.TheVariants.{Denied, StackFull, ThreadsFull}
use Rattle.fx_c_mean_model.specs.declared.rights.Rights.{Rights}
use Rattle.fx_c_mean_model.specs.Programs.{Program, function_at, size_in, call_objects}
use Rattle.fx_c_mean_model.specs.Rights.{may, stack_of}
use Rattle.fx_c_mean_model.specs.States.{Act, Way, Plainly, ByGate, First, Call, Frame, Caller, Spot, Does, Push, SizeOf, GlobalAddress, LiteralAddress, LocalAddress, Load, Apply, Convert, Step, Combine, Decide, Judge, Enter, Ask, Tell, Spawn, Switch, Self, Store, ReadByte, WriteByte, Branch, Test, JumpBack, Break, Continue, Leave, FallOff, Stuck, begin_all, follow, begin_loop, after_loop, next_round, unwind, give}
use Rattle.fx_c_mean_model.specs.Steps.{Thread, Running, Waiting, Ended, State, Outcome, if_value, granted, perform, step, told, switch, resume, ended, returned, leave, stores, further, actor, at, gives, gives_result, enter, entered, has_room, waiting_for, crosses_by, value_at_end, truth_value, is_true, new_thread, spawn, member_of, next_byte, decide, branch, tested, place_of}
use Rattle.fx_c_mean_rights_law.specs.Marks.{marked_frame, marked_spot, marked_thread, marked, never, uncrossed}
use Rattle.fx_c_mean_rights_law.specs.Laws.{SameBut, RightsChangeLittle}
use Rattle.fx_c_mean_rights_law.proofs.Commutes as commutes

-- the frames above the nearest caller are dropped
pub unwound : (rest : List Frame) → (unwind rest ≡ []) ⊎ ((call : Call) × (crosses : Bool) × (below : List Frame) × (unwind rest ≡ Caller call crosses ∷ below))
unwound [] = inl refl
unwound (Caller call crosses ∷ rest) = inr (call, crosses, rest, refl)
unwound (_ ∷ rest) = unwound rest

abbrev make : List Object → List Thread → ℕ → Call → Spot → State
make memory threads current call spot = record { memory = memory; threads = threads; current = current; call = call; spot = spot }

module _ (p : Program) (r q : Rights) (mark : Bool → Bool) (plain : mark false ≡ false) (gates : (from to : ℕ) → mark (crosses_by p q ByGate from to) ≡ false) where
  abbrev Same : Outcome → Outcome → Type 0
  Same x y = SameBut mark x y

  -- frames, spots and threads of the two
  abbrev Frames : List Frame → List Frame → Type 0
  Frames f g = map (marked_frame never) f ≡ map (marked_frame mark) g

  abbrev Spots : Spot → Spot → Type 0
  Spots x y = marked_spot never x ≡ marked_spot mark y

  abbrev Threads : List Thread → List Thread → Type 0
  Threads x y = map (marked_thread never) x ≡ map (marked_thread mark) y

  same_states : (memory : List Object) (threads others : List Thread) (current : ℕ) (call : Call) (here there : Spot) → Threads threads others → Spots here there
      → uncrossed (make memory threads current call here) ≡ marked mark (make memory others current call there)
  same_states memory threads others current call here there t s =
      ap (λ (x : List Thread). make memory x current call (marked_spot never here)) t ∙ ap (λ (x : Spot). make memory (map (marked_thread mark) others) current call x) s

  by_frames : (F : List Frame → Spot) → ((m : Bool → Bool) (x : List Frame) → marked_spot m (F x) ≡ F (map (marked_frame m) x)) → (f g : List Frame) → Frames f g → Spots (F f) (F g)
  by_frames F commutes f g h = commutes never f ∙ ap F h ∙ sym (commutes mark g)

  valued : {A : Type 0} (x : Result A Fault) (go to : A → Outcome) → ((a : A) → Same (go a) (to a)) → Same (if_value x go) (if_value x to)
  valued (Ok a) go to h = h a
  valued (Err e) go to h = (refl, inl refl)

  module _ (memory : List Object) (threads others : List Thread) (current : ℕ) (call : Call) (here there : Spot) (alike : Threads threads others) where
    abbrev s : State
    s = make memory threads current call here

    abbrev t : State
    t = make memory others current call there

    goes : (F : List Frame → Spot) → ((m : Bool → Bool) (x : List Frame) → marked_spot m (F x) ≡ F (map (marked_frame m) x)) → (f g : List Frame) → Frames f g → Same (at s (F f)) (at t (F g))
    goes F commutes f g h = (refl, same_states memory threads others current call (F f) (F g) alike (by_frames F commutes f g h))

    given : (v : Value) (f g : List Frame) → Frames f g → Same (gives s f v) (gives t g v)
    given v f g h = goes (give v) (λ m x. commutes.given m v x) f g h

    result : (x : Result Value Fault) (f g : List Frame) → Frames f g → Same (gives_result s f x) (gives_result t g x)
    result x f g h = valued x _ _ (λ v. given v f g h)

    -- ---- accesses

    chosen : (a b : Bool) (x y : State) (c d object offset : ℕ) (write : Bool) → uncrossed x ≡ marked mark y
        → Same (if a then Goes [] x else Stops [] (Denied c object offset write)) (if b then Goes [] y else Stops [] (Denied d object offset write))
    chosen true true x y c d object offset write h = (refl, h)
    chosen true false x y c d object offset write h = (refl, tt)
    chosen false true x y c d object offset write h = (refl, tt)
    chosen false false x y c d object offset write h = (refl, inr (tt, tt))

    allowed : (v : Value) (write : Bool) (place : Place) (x y : State) → uncrossed x ≡ marked mark y → Same (granted p r s v write place (Goes [] x)) (granted p q t v write place (Goes [] y))
    allowed v write place x y h = chosen (may p r (actor p r s) place write) (may p q (actor p q t) place write) x y (actor p r s) (actor p q t) (object_in v) (offset_in v) write h

    stored : (to : Value) (bytes : ℕ) (cells : List Cell) (x y : Spot) → Spots x y → Same (stores p r s to bytes cells x) (stores p q t to bytes cells y)
    stored to bytes cells x y h =
        valued (writable memory to bytes) _ _ (λ place. allowed to true place (make (written memory to cells) threads current call x) (make (written memory to cells) others current call y) (same_states (written memory to cells) threads others current call x y alike h))

    -- ---- calls

    waiting : (way : Way) (f : ℕ) (x y : List Frame) → Frames x y → Frames (waiting_for p r way f call x) (waiting_for p q way f call y)
    waiting First f x y h = h
    waiting Plainly f x y h = ap (λ rest. Caller call false ∷ rest) h ∙ ap (λ b. Caller call b ∷ map (marked_frame mark) y) (sym plain)
    waiting ByGate f x y h = ap (λ rest. Caller call false ∷ rest) h ∙ ap (λ b. Caller call b ∷ map (marked_frame mark) y) (sym (gates call.function f))

    entering : (a b : Bool) (x y : State) (thread k n : ℕ) → uncrossed x ≡ marked mark y → Same (if a then Goes [] x else Stops [] (StackFull thread k)) (if b then Goes [] y else Stops [] (StackFull thread n))
    entering true true x y thread k n h = (refl, h)
    entering true false x y thread k n h = (refl, tt)
    entering false true x y thread k n h = (refl, tt)
    entering false false x y thread k n h = (refl, inr (tt, tt))

    entered_alike : (f : ℕ) (values : List Value) (x y : List Frame) → Frames x y → Same (enter p r s f values x) (enter p q t f values y)
    entered_alike f values x y h =
        let made = memory ++ call_objects p f 0 (function_at p f).variables values in
        let own : Call = record { function = f; base = length memory } in
        entering (has_room p r f x) (has_room p q f y) (entered p s f values x) (entered p t f values y) current (stack_of p r f) (stack_of p q f)
        (same_states made threads others current own _ _ alike (by_frames (λ rest. begin_all (function_at p f).body rest (follow rest)) (λ m rest. commutes.begun m (function_at p f).body rest) x y h))

    -- ---- threads

    abbrev Someone : Option Thread → Option Thread → Type 0
    Someone x y = option_map (marked_thread never) x ≡ option_map (marked_thread mark) y

    set_alike : (n : ℕ) (x y : Thread) → marked_thread never x ≡ marked_thread mark y → Threads (slice_set (slice_set threads current x) n Running) (slice_set (slice_set others current y) n Running)
    set_alike n x y h =
        let both : (m : Bool → Bool) (l : List Thread) (z : Thread) → map (marked_thread m) (slice_set (slice_set l current z) n Running) ≡ slice_set (slice_set (map (marked_thread m) l) current (marked_thread m z)) n Running
        = λ m l z. map-set (marked_thread m) (slice_set l current z) n Running ∙ ap (λ w. slice_set w n Running) (map-set (marked_thread m) l current z) in
        both never threads x ∙ ap (λ w. slice_set (slice_set w current (marked_thread never x)) n Running) alike ∙ ap (λ w. slice_set (slice_set (map (marked_thread mark) others) current w) n Running) h ∙ sym (both mark others y)

    resumed : (mem : List Object) (left gone : Thread) (n : ℕ) (x y : Option Thread) → marked_thread never left ≡ marked_thread mark gone → Someone x y
        → Same (resume (make mem threads current call here) left n x) (resume (make mem others current call there) gone n y)
    resumed mem left gone n (Some (Waiting a c)) (Some (Waiting b d)) l h =
        let spots : Spots a b = cc in
        let calls : c ≡ d = cc in
        (refl, ap (λ k. uncrossed (make mem (slice_set (slice_set threads current left) n Running) n k a)) calls ∙ same_states mem _ _ n d a b (set_alike n left gone l) spots)
    resumed mem left gone n (Some Running) (Some Running) l h = (refl, inl refl)
    resumed mem left gone n (Some Ended) (Some Ended) l h = (refl, inl refl)
    resumed mem left gone n None None l h = (refl, inl refl)
    resumed mem left gone n (Some Running) (Some Ended) l h = (refl, inl refl)
    resumed mem left gone n (Some Ended) (Some Running) l h = (refl, inl refl)
    resumed mem left gone n (Some Running) None l h = (refl, inl refl)
    resumed mem left gone n None (Some Running) l h = (refl, inl refl)
    resumed mem left gone n (Some Ended) None l h = (refl, inl refl)
    resumed mem left gone n None (Some Ended) l h = (refl, inl refl)
    resumed mem left gone n (Some (Waiting a c)) (Some Running) l h = cc
    resumed mem left gone n (Some (Waiting a c)) (Some Ended) l h = cc
    resumed mem left gone n (Some (Waiting a c)) None l h = cc
    resumed mem left gone n (Some Running) (Some (Waiting b d)) l h = cc
    resumed mem left gone n (Some Ended) (Some (Waiting b d)) l h = cc
    resumed mem left gone n None (Some (Waiting b d)) l h = cc

    someone : (n : ℕ) → Someone (slice_get threads n) (slice_get others n)
    someone n = sym (slice_get-map (marked_thread never) threads n) ∙ ap (λ l. slice_get l n) alike ∙ slice_get-map (marked_thread mark) others n

    either : (b : Bool) (x y z w : Outcome) → Same x z → Same y w → Same (if b then x else y) (if b then z else w)
    either true x y z w h k = h
    either false x y z w h k = k

    switched : (v : Value) (f g : List Frame) → Frames f g → Same (switch s f v) (switch t g v)
    switched (Number n) f g h =
        either (nat_eq n current) _ _ _ _ (given Void f g h)
        (resumed memory (Waiting (give Void f) call) (Waiting (give Void g) call) n (slice_get threads n) (slice_get others n) (ap (λ x. Waiting x call) (by_frames (give Void) (λ m x. commutes.given m Void x) f g h)) (someone n))
    switched Void f g h = (refl, inl refl)
    switched Null f g h = (refl, inl refl)
    switched (Address x) f g h = (refl, inl refl)

    abbrev spawned_by : ℕ → State → List Frame → ℕ → Value → Outcome
    spawned_by n x rest f v = if nat_lt n 16 then Goes [] (record x { threads = x.threads ++ new_thread f v ∷ []; spot = give (Number n) rest }) else Stops [] ThreadsFull

    spawning : (n f : ℕ) (v : Value) (x y : List Frame) → Frames x y → Same (spawned_by n s x f v) (spawned_by n t y f v)
    spawning n f v x y h =
        let more : Threads (threads ++ new_thread f v ∷ []) (others ++ new_thread f v ∷ [])
        = map-append (marked_thread never) threads (new_thread f v ∷ []) ∙ ap (λ l. l ++ new_thread f v ∷ []) alike ∙ sym (map-append (marked_thread mark) others (new_thread f v ∷ [])) in
        either (nat_lt n 16) _ _ _ _ (refl, same_states memory _ _ current call _ _ more (by_frames (give (Number n)) (λ m z. commutes.given m (Number n) z) x y h)) (refl, inl refl)

    many : length threads ≡ length others
    many = sym (length-map threads (marked_thread never)) ∙ ap (λ l. length l) alike ∙ length-map others (marked_thread mark)

    spawned : (f : ℕ) (v : Value) (x y : List Frame) → Frames x y → Same (spawn s x f v) (spawn t y f v)
    spawned f v x y h = subst (λ n. Same (spawned_by (length threads) s x f v) (spawned_by n t y f v)) many (spawning (length threads) f v x y h)

    -- ---- returns

    abbrev left : List Object
    left = without memory call.base (length (function_at p call.function).variables)

    ended_alike : (v : Value) → Same (ended p (make left threads current call here) v) (ended p (make left others current call there) v)
    ended_alike v = either (nat_eq current 0) _ _ _ _ (refl, inl refl) (resumed left Ended Ended 0 (slice_get threads 0) (slice_get others 0) refl (someone 0))

    abbrev back : Value → List Frame → Outcome
    back v f = returned p (make left threads current call here) v f

    abbrev forth : Value → List Frame → Outcome
    forth v g = returned p (make left others current call there) v g

    to_caller : (v : Value) (c d : Call) (a b : Bool) (f g : List Frame) → Frames (Caller c a ∷ f) (Caller d b ∷ g) → Same (back v (Caller c a ∷ f)) (forth v (Caller d b ∷ g))
    to_caller v c d a b f g h =
        let calls : c ≡ d = cc in
        let below : Frames f g = cc in
        (refl, ap (λ k. uncrossed (make left threads current k (give v f))) calls ∙ same_states left threads others current d (give v f) (give v g) alike (by_frames (give v) (λ m x. commutes.given m v x) f g below))

    returns : (v : Value) (x y : List Frame) → Frames x y
        → (x ≡ []) ⊎ ((c : Call) × (a : Bool) × (below : List Frame) × (x ≡ Caller c a ∷ below)) → (y ≡ []) ⊎ ((c : Call) × (a : Bool) × (below : List Frame) × (y ≡ Caller c a ∷ below))
        → Same (back v x) (forth v y)
    returns v x y h (inl i) (inl j) = subst (λ z. Same (back v z) (forth v y)) (sym i) (subst (λ z. Same (back v []) (forth v z)) (sym j) (ended_alike v))
    returns v x y h (inl i) (inr (d, b, low, j)) =
        let bad : map (marked_frame never) [] ≡ Caller d (mark b) ∷ map (marked_frame mark) low = ap (map (marked_frame never)) (sym i) ∙ h ∙ ap (map (marked_frame mark)) j in
        cc
    returns v x y h (inr (c, a, low, i)) (inl j) =
        let bad : Caller c false ∷ map (marked_frame never) low ≡ map (marked_frame mark) [] = ap (map (marked_frame never)) (sym i) ∙ h ∙ ap (map (marked_frame mark)) j in
        cc
    returns v x y h (inr (c, a, low, i)) (inr (d, b, lower, j)) =
        let both : Frames (Caller c a ∷ low) (Caller d b ∷ lower) = ap (map (marked_frame never)) (sym i) ∙ h ∙ ap (map (marked_frame mark)) j in
        subst (λ z. Same (back v z) (forth v y)) (sym i) (subst (λ z. Same (back v (Caller c a ∷ low)) (forth v z)) (sym j) (to_caller v c d a b low lower both))

    leaves : (v : Value) (f g : List Frame) → Frames f g → Same (leave p s v f) (leave p t v g)
    leaves v f g h = returns v (unwind f) (unwind g) (commutes.unwinds never f ∙ ap unwind h ∙ sym (commutes.unwinds mark g)) (unwound f) (unwound g)

    -- ---- each step

    performed : (answer : ℕ) (act : Act) (f g : List Frame) → Frames f g → Same (perform p r answer s (Does act f)) (perform p q answer t (Does act g))
    performed answer (Push v) f g h = given v f g h
    performed answer (SizeOf ty) f g h = given (Number (size_in p ty)) f g h
    performed answer (GlobalAddress n) f g h = given (place_of n 0) f g h
    performed answer (LiteralAddress n) f g h = given (place_of (length p.globals + n) 0) f g h
    performed answer (LocalAddress n) f g h = given (place_of (call.base + n) 0) f g h
    performed answer (Load ty v) f g h =
        valued (loaded memory ty v) _ _ (λ x. allowed v false x.1 (make memory threads current call (give x.0 f)) (make memory others current call (give x.0 g)) (same_states memory threads others current call _ _ alike (by_frames (give x.0) (λ m z. commutes.given m x.0 z) f g h)))
    performed answer (Apply op ty v) f g h = result (unary_result op ty v) f g h
    performed answer (Convert from to v) f g h = result (conversion memory from to v) f g h
    performed answer (Step struct member v) f g h = result (moved memory v (member_of p struct member)) f g h
    performed answer (Combine op first second v w) f g h = result (binary_result p.structs memory op first second v w) f g h
    performed answer (Decide op b v) f g h = goes (λ x. decide op (is_true v) b x) (λ m x. commutes.decided m op (is_true v) b x) f g h
    performed answer (Judge v) f g h = given (truth_value (is_true v)) f g h
    performed answer (Enter n way values) f g h = entered_alike n values (waiting_for p r way n call f) (waiting_for p q way n call g) (waiting way n f g h)
    performed answer (Ask device register) f g h = (refl, same_states memory threads others current call _ _ alike (by_frames (give (Number answer)) (λ m x. commutes.given m (Number answer) x) f g h))
    performed answer (Tell device register v) f g h = tells v
      where
        tells : (w : Value) → Same (told s f device register w) (told t g device register w)
        tells (Number w) = (refl, same_states memory threads others current call _ _ alike (by_frames (give Void) (λ m x. commutes.given m Void x) f g h))
        tells Void = (refl, inl refl)
        tells Null = (refl, inl refl)
        tells (Address w) = (refl, inl refl)
    performed answer (Spawn n v) f g h = spawned n v f g h
    performed answer (Switch v) f g h = switched v f g h
    performed answer Self f g h = given (Number current) f g h
    performed answer (Store ty to v) f g h = stored to (width ty) (cells_of (width ty) v) (follow f) (follow g) (by_frames follow (λ m x. commutes.follows m x) f g h)
    performed answer (ReadByte ty to v done) f g h =
        valued (byte_read memory (further v done)) _ _ (λ x. allowed (further v done) false x.1 (make memory threads current call (Does (WriteByte ty to v done x.0) f)) (make memory others current call (Does (WriteByte ty to v done x.0) g)) (same_states memory threads others current call (Does (WriteByte ty to v done x.0) f) (Does (WriteByte ty to v done x.0) g) alike (ap (λ z. Does (WriteByte ty to v done x.0) z) h)))
    performed answer (WriteByte ty to v done cell) f g h =
        stored (further to done) 1 (cell ∷ []) (next_byte p f ty to v (done + 1)) (next_byte p g ty to v (done + 1)) (by_frames (λ z. next_byte p z ty to v (done + 1)) (λ m z. commutes.copied m p ty to v (done + 1) z) f g h)
    performed answer (Branch v s1 other) f g h = goes (λ x. branch (is_true v) s1 other x) (λ m x. commutes.branches m (is_true v) s1 other x) f g h
    performed answer (Test v loop) f g h = goes (λ x. tested (is_true v) loop x) (λ m x. commutes.tests m (is_true v) loop x) f g h
    performed answer (JumpBack loop) f g h = goes (begin_loop loop) (λ m x. commutes.loops m loop x) f g h
    performed answer Break f g h = goes after_loop (λ m x. commutes.left m x) f g h
    performed answer Continue f g h = goes next_round (λ m x. commutes.rounds m x) f g h
    performed answer (Leave v) f g h = leaves v f g h
    performed answer FallOff f g h = leaves (value_at_end (function_at p call.function).gives) f g h
    performed answer Stuck f g h = (refl, inl refl)

  -- at states that are the same but for marks
  at_spots : (answer : ℕ) (memory : List Object) (threads others : List Thread) (current : ℕ) (call : Call) (here there : Spot) → Threads threads others → Spots here there
      → Same (step p r answer (make memory threads current call here)) (step p q answer (make memory others current call there))
  at_spots answer memory threads others current call (Does act f) (Does other g) alike h =
      let acts : act ≡ other = cc in
      let rests : Frames f g = cc in
      subst (λ a. Same (perform p r answer (make memory threads current call (Does act f)) (Does act f)) (perform p q answer (make memory others current call (Does a g)) (Does a g))) acts
      (performed memory threads others current call (Does act f) (Does act g) alike answer act f g rests)

  pub steps_alike : (answer : ℕ) (s t : State) → uncrossed s ≡ marked mark t → Same (step p r answer s) (step p q answer t)
  steps_alike answer s t h =
      let memory : s.memory ≡ t.memory = ap (λ (x : State). x.memory) h in
      let current : s.current ≡ t.current = ap (λ (x : State). x.current) h in
      let call : s.call ≡ t.call = ap (λ (x : State). x.call) h in
      subst (λ m. Same (step p r answer s) (step p q answer (make m t.threads t.current t.call t.spot))) memory
      (subst (λ c. Same (step p r answer s) (step p q answer (make s.memory t.threads c t.call t.spot))) current
      (subst (λ k. Same (step p r answer s) (step p q answer (make s.memory t.threads s.current k t.spot))) call
      (at_spots answer s.memory s.threads t.threads s.current s.call s.spot t.spot (ap (λ (x : State). x.threads) h) (ap (λ (x : State). x.spot) h))))

pub change_little : RightsChangeLittle
change_little p r q answer s t h = steps_alike p r q never refl (λ from to. refl) answer s t h
