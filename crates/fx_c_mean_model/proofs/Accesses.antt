-- A denial is of an access of its step.
use Rattle.std.proofs.Common.{◌≡◌, ℕ, ◌+◌, Bool, true, false, nat_eq, nat_lt, List, [], ◌∷◌, ◌++◌, length, slice_get, slice_index_or, Option, Some, None, Result, Ok, Err, if◌then◌else◌, refl, ap, sym, ◌∙◌, subst}
use Rattle.fx_outcomes.specs.Runs.{Goes, Stops}
use Rattle.fx_c_ast.specs.CheckedTrees.{TyTree}
use Rattle.fx_c_mean_blocks.specs.declared.value.Pointer.{Pointer}
use Rattle.fx_c_mean_blocks.specs.declared.value.Value.{Value}
use Rattle.fx_c_mean_blocks.specs.declared.value.Value.TheVariants.{Void, Number, Null, Address}
use Rattle.fx_c_mean_blocks.specs.declared.value.Cell.{Cell}
use Rattle.fx_c_mean_blocks.specs.declared.value.Cell.TheVariants.{Byte}
use Rattle.fx_c_mean_blocks.specs.declared.block.Place.{Place}
use Rattle.fx_c_mean_blocks.specs.declared.block.Place.TheVariants.{Global, Literal, Local}
use Rattle.fx_c_mean_blocks.specs.declared.fault.Fault.{Fault}
use Rattle.fx_c_mean_blocks.specs.declared.fault.Fault.TheVariants as fault
use Rattle.fx_c_mean_blocks.specs.declared.block.Object.{Object}
use Rattle.fx_c_mean_blocks.specs.Blocks.{and_then, with_place, holds, if_holds, reached, unless_literal, cells_at, width, byte_read, loaded, writable, value_in, object_in, offset_in, cells_of, written, moved}
use Rattle.fx_c_mean_blocks.specs.Operators.{unary_result, conversion, binary_result}
use Rattle.fx_c_mean_model.specs.declared.end.End.TheVariants.{Denied, Exit, StackFull, ThreadsFull}
use Rattle.fx_c_mean_model.specs.declared.rights.Rights.{Rights}
use Rattle.fx_c_mean_model.specs.Programs.{Program, function_at}
use Rattle.fx_c_mean_model.specs.Rights.{may, stack_of}
use Rattle.fx_c_mean_model.specs.States.{Frame, Caller, Spot, Does, Push, SizeOf, GlobalAddress, LiteralAddress, LocalAddress, Load, Apply, Convert, Step, Combine, Decide, Judge, Enter, Ask, Tell, Spawn, Switch, Self, Store, ReadByte, WriteByte, Branch, Test, JumpBack, Break, Continue, Leave, FallOff, Stuck, give, follow, unwind}
use Rattle.fx_c_mean_model.specs.Steps.{Thread, Running, Waiting, Ended, State, Outcome, if_value, granted, perform, step, told, switch, resume, ended, returned, stores, further, actor, at, gives, gives_result, enter, entered, has_room, exit_value, left, value_at_end, waiting_for, new_thread, member_of, next_byte, place_of}
use Rattle.fx_c_mean_model.specs.Laws.{DeniesAccess, access, access_at, access_of}

module _ (p : Program) (r : Rights) (s : State) where
  abbrev Fits : Outcome → Type 0
  Fits o = DeniesAccess p r s o

  either : (b : Bool) (x y : Outcome) → Fits x → Fits y → Fits (if b then x else y)
  either true x y h k = h
  either false x y h k = k

  value : {A : Type 0} (x : Result A Fault) (go : A → Outcome) → ((a : A) → x ≡ Ok a → Fits (go a)) → Fits (if_value x go)
  value (Ok a) go h = h a refl
  value (Err fault.Divide) go h = tt
  value (Err fault.Undefined) go h = tt

  resumed : (t : State) (left : Thread) (n : ℕ) (x : Option Thread) → Fits (resume t left n x)
  resumed t left n (Some (Waiting spot call)) = tt
  resumed t left n (Some Running) = tt
  resumed t left n (Some Ended) = tt
  resumed t left n None = tt

  switched : (rest : List Frame) (v : Value) → Fits (switch s rest v)
  switched rest (Number t) = either (nat_eq t s.current) (gives s rest Void) _ tt (resumed s (Waiting (give Void rest) s.call) t (slice_get s.threads t))
  switched rest Void = tt
  switched rest Null = tt
  switched rest (Address q) = tt

  tells : (rest : List Frame) (d g : ℕ) (v : Value) → Fits (told s rest d g v)
  tells rest d g (Number w) = tt
  tells rest d g Void = tt
  tells rest d g Null = tt
  tells rest d g (Address q) = tt

  ends : (t : State) (v : Value) → Fits (ended p t v)
  ends t v = either (nat_eq t.current 0) (Stops [] (Exit (exit_value (function_at p t.call.function).gives v))) _ tt (resumed t Ended 0 (slice_get t.threads 0))

  returns : (t : State) (v : Value) (rest : List Frame) → Fits (returned p t v rest)
  returns t v (Caller call crosses ∷ rest) = tt
  returns t v _ = ends t v

  -- ---- accesses

  -- the object that an access of n bytes through a value is made at
  record Reaches (v : Value) (n : ℕ) (o : Object) : Type 0 where
    points : v ≡ place_of (object_in v) (offset_in v)
    there : slice_get s.memory (object_in v) ≡ Some o
    held : holds (offset_in v) n o ≡ true

  by_holds : (q : Pointer) (n : ℕ) (x o : Object) (b : Bool) → slice_get s.memory q.object ≡ Some x → holds q.offset n x ≡ b → (if b then Ok x else Err fault.Undefined) ≡ Ok o → Reaches (Address q) n o
  by_holds q n x o true at e h =
      let same : x ≡ o = cc in
      subst (λ y. Reaches (Address q) n y) same (record { points = refl; there = at; held = e })
  by_holds q n x o false at e h = cc

  by_object : (q : Pointer) (n : ℕ) (x : Option Object) (o : Object) → slice_get s.memory q.object ≡ x → if_holds q.offset n x ≡ Ok o → Reaches (Address q) n o
  by_object q n None o e h = cc
  by_object q n (Some x) o e h = by_holds q n x o (holds q.offset n x) e refl h

  reaches : (v : Value) (n : ℕ) (o : Object) → reached s.memory v n ≡ Ok o → Reaches v n o
  reaches (Address q) n o h = by_object q n (slice_get s.memory q.object) o refl h
  reaches Void n o h = cc
  reaches Null n o h = cc
  reaches (Number w) n o h = cc

  placed : (o : Object) (w : Result Value Fault) (x : Value × Place) → and_then w (with_place o.place) ≡ Ok x → x.1 ≡ o.place
  placed o (Ok w) x h = let e : (w, o.place) ≡ x = cc in sym (ap (λ (y : Value × Place). y.1) e)
  placed o (Err e) x h = cc

  loads_of : (y : Result Object Fault) (ty : TyTree) (at : ℕ) (x : Value × Place) → and_then y (λ o. and_then (value_in ty (cells_at o at (width ty))) (with_place o.place)) ≡ Ok x → (o : Object) × (y ≡ Ok o) × (x.1 ≡ o.place)
  loads_of (Ok o) ty at x h = (o, refl, placed o (value_in ty (cells_at o at (width ty))) x h)
  loads_of (Err e) ty at x h = cc

  byte_of : (y : Result Object Fault) (at : ℕ) (x : Cell × Place) → and_then y (λ o. Ok (slice_index_or o.cells at (Byte 0), o.place)) ≡ Ok x → (o : Object) × (y ≡ Ok o) × (x.1 ≡ o.place)
  byte_of (Ok o) at x h = let e : (slice_index_or o.cells at (Byte 0), o.place) ≡ x = cc in (o, refl, sym (ap (λ (y : Cell × Place). y.1) e))
  byte_of (Err e) at x h = cc

  unless : (place x : Place) → unless_literal place ≡ Ok x → x ≡ place
  unless (Global n) x h = cc
  unless (Literal n) x h = cc
  unless (Local f n) x h = cc

  target_of : (y : Result Object Fault) (x : Place) → and_then y (λ o. unless_literal o.place) ≡ Ok x → (o : Object) × (y ≡ Ok o) × (x ≡ o.place)
  target_of (Ok o) x h = (o, refl, unless o.place x h)
  target_of (Err e) x h = cc

  by_right : (v : Value) (n : ℕ) (write : Bool) (place : Place) (o : Object) (done : Outcome) (b : Bool) → access_of s ≡ access write v n → Reaches v n o → place ≡ o.place → Fits done
      → may p r (actor p r s) place write ≡ b → Fits (if b then done else Stops [] (Denied (actor p r s) (object_in v) (offset_in v) write))
  by_right v n write place o done true at reach same h e = h
  by_right v n write place o done false at reach same h e = record {
    bytes = n;
    accesses = at ∙ ap (λ w. access write w n) reach.points;
    acts = refl;
    named = o;
    there = reach.there;
    held = reach.held;
    refused = ap (λ x. may p r (actor p r s) x write) (sym same) ∙ e;
  }

  guards : (v : Value) (n : ℕ) (write : Bool) (place : Place) (done : Outcome) → access_of s ≡ access write v n → (o : Object) × (reached s.memory v n ≡ Ok o) × (place ≡ o.place) → Fits done → Fits (granted p r s v write place done)
  guards v n write place done at (o, is, same) h = by_right v n write place o done (may p r (actor p r s) place write) at (reaches v n o is) same h refl

  stored : (to : Value) (bytes : ℕ) (cells : List Cell) (next : Spot) → access_of s ≡ access true to bytes → Fits (stores p r s to bytes cells next)
  stored to bytes cells next at =
      value (writable s.memory to bytes) _ (λ place e. guards to bytes true place (Goes [] (record s { memory = written s.memory to cells; spot = next })) at (target_of (reached s.memory to bytes) place e) tt)

  result : (rest : List Frame) (x : Result Value Fault) → Fits (gives_result s rest x)
  result rest x = value x _ (λ v e. tt)

  -- ---- each step

  performed : (answer : ℕ) (spot : Spot) → s.spot ≡ spot → Fits (perform p r answer s spot)
  performed answer (Does (Push v) rest) e = tt
  performed answer (Does (SizeOf ty) rest) e = tt
  performed answer (Does (GlobalAddress n) rest) e = tt
  performed answer (Does (LiteralAddress n) rest) e = tt
  performed answer (Does (LocalAddress n) rest) e = tt
  performed answer (Does (Load ty v) rest) e =
      value (loaded s.memory ty v) _ (λ x h. guards v (width ty) false x.1 (gives s rest x.0) (ap access_at e) (loads_of (reached s.memory v (width ty)) ty (offset_in v) x h) tt)
  performed answer (Does (Apply op ty v) rest) e = result rest (unary_result op ty v)
  performed answer (Does (Convert from to v) rest) e = result rest (conversion s.memory from to v)
  performed answer (Does (Step struct member v) rest) e = result rest (moved s.memory v (member_of p struct member))
  performed answer (Does (Combine op first second v w) rest) e = result rest (binary_result p.structs s.memory op first second v w)
  performed answer (Does (Decide op b v) rest) e = tt
  performed answer (Does (Judge v) rest) e = tt
  performed answer (Does (Enter f way values) rest) e = entering f values (waiting_for p r way f s.call rest)
    where
      entering : (f : ℕ) (values : List Value) (below : List Frame) → Fits (enter p r s f values below)
      entering f values below = either (has_room p r f below) (Goes [] (entered p s f values below)) (Stops [] (StackFull s.current (stack_of p r f))) tt tt
  performed answer (Does (Ask device register) rest) e = tt
  performed answer (Does (Tell device register v) rest) e = tells rest device register v
  performed answer (Does (Spawn f v) rest) e =
      either (nat_lt (length s.threads) 16) (Goes [] (record s { threads = s.threads ++ new_thread f v ∷ []; spot = give (Number (length s.threads)) rest })) (Stops [] ThreadsFull) tt tt
  performed answer (Does (Switch v) rest) e = switched rest v
  performed answer (Does Self rest) e = tt
  performed answer (Does (Store ty to v) rest) e = stored to (width ty) (cells_of (width ty) v) (follow rest) (ap access_at e)
  performed answer (Does (ReadByte ty to v done) rest) e =
      value (byte_read s.memory (further v done)) _ (λ x h. guards (further v done) 1 false x.1 (at s (Does (WriteByte ty to v done x.0) rest)) (ap access_at e) (byte_of (reached s.memory (further v done) 1) (offset_in (further v done)) x h) tt)
  performed answer (Does (WriteByte ty to v done cell) rest) e = stored (further to done) 1 (cell ∷ []) (next_byte p rest ty to v (done + 1)) (ap access_at e)
  performed answer (Does (Branch v s1 s2) rest) e = tt
  performed answer (Does (Test v loop) rest) e = tt
  performed answer (Does (JumpBack loop) rest) e = tt
  performed answer (Does Break rest) e = tt
  performed answer (Does Continue rest) e = tt
  performed answer (Does (Leave v) rest) e = returns (left p s) v (unwind rest)
  performed answer (Does FallOff rest) e = returns (left p s) (value_at_end (function_at p s.call.function).gives) (unwind rest)
  performed answer (Does Stuck rest) e = tt

pub denies_access : (p : Program) (r : Rights) (answer : ℕ) (s : State) → DeniesAccess p r s (step p r answer s)
denies_access p r answer s = performed p r s answer s.spot refl
