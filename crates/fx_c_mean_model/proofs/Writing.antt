-- What steps do to memory.
use Rattle.std.proofs.Common.{◌≡◌, ℕ, ◌+◌, Bool, true, false, nat_eq, nat_lt, List, [], ◌∷◌, ◌++◌, length, slice_get, Option, Some, None, Result, Ok, Err, if◌then◌else◌, refl}
use Rattle.fx_outcomes.specs.Runs.{Goes, Stops}
use Rattle.fx_c_mean_blocks.specs.declared.value.Value.{Value}
use Rattle.fx_c_mean_blocks.specs.declared.value.Value.TheVariants.{Void, Number}
use Rattle.fx_c_mean_blocks.specs.declared.value.Cell.{Cell}
use Rattle.fx_c_mean_blocks.specs.declared.block.Place.{Place}
use Rattle.fx_c_mean_blocks.specs.declared.fault.Fault.{Fault}
use Rattle.fx_c_mean_blocks.specs.declared.block.Object.{Object}
use Rattle.fx_c_mean_blocks.specs.Blocks.{width, byte_read, loaded, writable, object_in, offset_in, cells_of, written, moved}
use Rattle.fx_c_mean_blocks.specs.Operators.{unary_result, conversion, binary_result}
use Rattle.fx_c_mean_model.specs.declared.end.End.TheVariants.{Denied, ThreadsFull}
use Rattle.fx_c_mean_model.specs.Rights.{may}
use Rattle.fx_c_mean_model.specs.declared.rights.Rights.{Rights}
use Rattle.fx_c_mean_model.specs.Programs.{Program}
use Rattle.fx_c_mean_model.specs.States.{Frame, Spot, Does, Push, SizeOf, GlobalAddress, LiteralAddress, LocalAddress, Load, Apply, Convert, Step, Combine, Decide, Judge, Enter, Ask, Tell, Spawn, Switch, Self, Store, ReadByte, WriteByte, Branch, Test, JumpBack, Break, Continue, Leave, FallOff, Stuck, give, follow}
use Rattle.fx_c_mean_model.specs.Steps.{Thread, Running, Waiting, Ended, State, Outcome, if_value, granted, perform, told, switch, resume, stores, further, actor, at, gives, gives_result, spawn, new_thread, member_of, next_byte}
use Rattle.fx_c_mean_model.specs.Laws.{Writes, access, access_at, IsCallOrReturn}

-- memory after an outcome, and nothing of an end
abbrev After : State → (List Object → Type 0) → Outcome → Type 0
After s P (Goes made after) = P after.memory
After s P (Stops made e) = Unit {0}

either : (P : Outcome → Type 0) (b : Bool) (x y : Outcome) → P x → P y → P (if b then x else y)
either P true x y h k = h
either P false x y h k = k

value : (s : State) (P : List Object → Type 0) → {A : Type 0} (x : Result A Fault) (go : A → Outcome) → ((a : A) → After s P (go a)) → After s P (if_value x go)
value s P (Ok a) go h = h a
value s P (Err e) go h = tt

access_granted : (p : Program) (r : Rights) (s : State) (P : List Object → Type 0) (v : Value) (write : Bool) (place : Place) (done : Outcome) → After s P done → After s P (granted p r s v write place done)
access_granted p r s P v write place done h = either (After s P) (may p r (actor p r s) place write) done (Stops [] (Denied (actor p r s) (object_in v) (offset_in v) write)) h (tt {0})

stored : (p : Program) (r : Rights) (s : State) (to : Value) (bytes : ℕ) (cells : List Cell) (next : Spot) → After s (Writes (access true to bytes) s.memory) (stores p r s to bytes cells next)
stored p r s to bytes cells next = value s (Writes (access true to bytes) s.memory) (writable s.memory to bytes) _
    (λ place. access_granted p r s (Writes (access true to bytes) s.memory) to true place (Goes [] (record s { memory = written s.memory to cells; spot = next })) (cells, refl))

resumed : (s : State) (left : Thread) (t : ℕ) (x : Option Thread) → After s (λ m. m ≡ s.memory) (resume s left t x)
resumed s left t (Some (Waiting spot call)) = refl
resumed s left t (Some Running) = tt
resumed s left t (Some Ended) = tt
resumed s left t None = tt

switched : (s : State) (rest : List Frame) (v : Value) → After s (λ m. m ≡ s.memory) (switch s rest v)
switched s rest (Number t) = either (After s (λ m. m ≡ s.memory)) (nat_eq t s.current) (gives s rest Void) (resume s (Waiting (give Void rest) s.call) t (slice_get s.threads t)) refl (resumed s (Waiting (give Void rest) s.call) t (slice_get s.threads t))
switched s rest _ = tt

tells : (s : State) (rest : List Frame) (d g : ℕ) (v : Value) → After s (λ m. m ≡ s.memory) (told s rest d g v)
tells s rest d g (Number w) = refl
tells s rest d g _ = tt

spawned : (s : State) (rest : List Frame) (f : ℕ) (v : Value) → After s (λ m. m ≡ s.memory) (spawn s rest f v)
spawned s rest f v = either (After s (λ m. m ≡ s.memory)) (nat_lt (length s.threads) 16)
    (Goes [] (record s { threads = s.threads ++ new_thread f v ∷ []; spot = give (Number (length s.threads)) rest })) (Stops [] ThreadsFull) refl (tt {0})

kept : (s : State) (rest : List Frame) (x : Result Value Fault) → After s (λ m. m ≡ s.memory) (gives_result s rest x)
kept s rest (Ok v) = refl
kept s rest (Err e) = tt

pub by_access : (p : Program) (r : Rights) (answer : ℕ) (s : State) (spot : Spot) → (IsCallOrReturn spot → ⊥) → After s (Writes (access_at spot) s.memory) (perform p r answer s spot)
by_access p r answer s (Does (Push v) rest) other = refl
by_access p r answer s (Does (SizeOf ty) rest) other = refl
by_access p r answer s (Does (GlobalAddress n) rest) other = refl
by_access p r answer s (Does (LiteralAddress n) rest) other = refl
by_access p r answer s (Does (LocalAddress n) rest) other = refl
by_access p r answer s (Does (Load ty v) rest) other =
    value s (λ m. m ≡ s.memory) (loaded s.memory ty v) _ (λ x. access_granted p r s (λ m. m ≡ s.memory) v false x.1 (gives s rest x.0) refl)
by_access p r answer s (Does (Apply op ty v) rest) other = kept s rest (unary_result op ty v)
by_access p r answer s (Does (Convert from to v) rest) other = kept s rest (conversion s.memory from to v)
by_access p r answer s (Does (Step struct member v) rest) other = kept s rest (moved s.memory v (member_of p struct member))
by_access p r answer s (Does (Combine op first second v w) rest) other = kept s rest (binary_result p.structs s.memory op first second v w)
by_access p r answer s (Does (Decide op b v) rest) other = refl
by_access p r answer s (Does (Judge v) rest) other = refl
by_access p r answer s (Does (Enter f way values) rest) other = absurd (other tt)
by_access p r answer s (Does (Ask device register) rest) other = refl
by_access p r answer s (Does (Tell device register v) rest) other = tells s rest device register v
by_access p r answer s (Does (Spawn f v) rest) other = spawned s rest f v
by_access p r answer s (Does (Switch v) rest) other = switched s rest v
by_access p r answer s (Does Self rest) other = refl
by_access p r answer s (Does (Store ty to v) rest) other = stored p r s to (width ty) (cells_of (width ty) v) (follow rest)
by_access p r answer s (Does (ReadByte ty to v done) rest) other =
    value s (λ m. m ≡ s.memory) (byte_read s.memory (further v done)) _ (λ x. access_granted p r s (λ m. m ≡ s.memory) (further v done) false x.1 (at s (Does (WriteByte ty to v done x.0) rest)) refl)
by_access p r answer s (Does (WriteByte ty to v done cell) rest) other = stored p r s (further to done) 1 (cell ∷ []) (next_byte p rest ty to v (done + 1))
by_access p r answer s (Does (Branch v s1 s2) rest) other = refl
by_access p r answer s (Does (Test v loop) rest) other = refl
by_access p r answer s (Does (JumpBack loop) rest) other = refl
by_access p r answer s (Does Break rest) other = refl
by_access p r answer s (Does Continue rest) other = refl
by_access p r answer s (Does (Leave v) rest) other = absurd (other tt)
by_access p r answer s (Does FallOff rest) other = absurd (other tt)
by_access p r answer s (Does Stuck rest) other = tt
