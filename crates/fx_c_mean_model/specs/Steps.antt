-- One step of a run.
use Rattle.std.specs.Prelude.{ℕ, ◌+◌, ◌/◌, Bool, true, false, not, nat_eq, nat_lt, ℤ, pos, List, [], ◌∷◌, ◌++◌, length, slice_get, slice_set, Option, Some, Result, Ok, Err, if◌then◌else◌}
use Rattle.fx_outcomes.specs.Runs.{Next, Goes, Stops}
use Rattle.fx_base.specs.declared.device_op.DeviceOp.{DeviceOp}
use Rattle.fx_c_ast.specs.declared.operator.IntType.TheVariants.{Long}
use Rattle.fx_c_ast.specs.declared.operator.Binop.{Binop}
use Rattle.fx_c_ast.specs.declared.operator.Binop.TheVariants.{Land, Lor}
use Rattle.fx_c_ast.specs.CheckedTrees.{TyTree, IntTy, StructTy, PtrTy, TExprTree, TStmtTree, MaybeTStmt}
use Rattle.fx_c_mean_blocks.specs.declared.value.Value.{Value}
use Rattle.fx_c_mean_blocks.specs.declared.value.Value.TheVariants.{Void, Number, Null, Address}
use Rattle.fx_c_mean_blocks.specs.declared.value.Cell.{Cell}
use Rattle.fx_c_mean_blocks.specs.declared.block.Place.{Place}
use Rattle.fx_c_mean_blocks.specs.declared.fault.Fault.{Fault}
use Rattle.fx_c_mean_blocks.specs.declared.fault.Fault.TheVariants as fault
use Rattle.fx_c_mean_model.specs.declared.end.End.{End}
use Rattle.fx_c_mean_model.specs.declared.end.End.TheVariants.{Exit, Denied, StackFull, Divide, BadThread, ThreadsFull, Undefined}
use Rattle.fx_c_mean_blocks.specs.Integers.{number, converted}
use Rattle.fx_c_mean_blocks.specs.declared.block.Object.{Object}
use Rattle.fx_c_mean_blocks.specs.Blocks.{cells_of, width, object_in, offset_in, byte_read, loaded, writable, written, without, moved}
use Rattle.fx_c_mean_blocks.specs.Operators.{unary_result, conversion, binary_result}
use Rattle.fx_c_mean_model.specs.declared.rights.Rights.{Rights}
use Rattle.fx_c_mean_model.specs.Programs.{Program, function_at, size_in, offset_of, first_memory, call_objects}
use Rattle.fx_c_mean_model.specs.Rights.{home, may, stack_of, stack_size}
use Rattle.fx_c_mean_model.specs.States.{Loop, Way, Plainly, ByGate, First, Call, Frame, Truth}
use Rattle.fx_c_mean_model.specs.States.{Caller, Spot, Does, Push, SizeOf, GlobalAddress}
use Rattle.fx_c_mean_model.specs.States.{LiteralAddress, LocalAddress, Load, Apply, Convert, Step}
use Rattle.fx_c_mean_model.specs.States.{Combine, Decide, Judge, Enter, Ask, Tell, Spawn, Switch}
use Rattle.fx_c_mean_model.specs.States.{Self, Store, ReadByte, WriteByte, Branch, Test, JumpBack}
use Rattle.fx_c_mean_model.specs.States.{Break, Continue, Leave, FallOff, Stuck, start, begin}
use Rattle.fx_c_mean_model.specs.States.{begin_maybe, begin_all, follow, begin_loop, begin_body}
use Rattle.fx_c_mean_model.specs.States.{loop_body, after_loop, next_round, unwind, give}

-- a thread that was made: it runs now, it waits at a spot of a call, or it has ended
pub data Thread : Type 0 where
  Running : Thread
  Waiting : (spot : Spot) (call : Call) → Thread
  Ended : Thread

-- `threads` are those that were made, at most sixteen, by their numbers
pub record State : Type 0 where
  pub memory : List Object
  pub threads : List Thread
  pub current : ℕ
  pub call : Call
  pub spot : Spot

-- a state goes on, with an operation or none, or the run ends
abbrev pub Outcome : Type 0
Outcome = Next DeviceOp State End

abbrev pub at : State → Spot → Outcome
at s spot = Goes [] (record s { spot = spot })

abbrev pub gives : State → List Frame → Value → Outcome
gives s rest v = at s (give v rest)

abbrev pub end_of : Fault → End
end_of fault.Divide = Divide
end_of fault.Undefined = Undefined

-- what gives a value goes on with it; what gives none ends the run
abbrev pub if_value : {A : Type 0} → Result A Fault → (A → Outcome) → Outcome
if_value (Ok v) go = go v
if_value (Err e) go = Stops [] (end_of e)

abbrev pub gives_result : State → List Frame → Result Value Fault → Outcome
gives_result s rest result = if_value result (λ v. gives s rest v)

-- ---- accesses

-- the compartment that acts
abbrev pub actor : Program → Rights → State → ℕ
actor p r s = home p r s.call.function

-- an access that the compartment is not granted ends the run
abbrev pub granted : Program → Rights → State → Value → Bool → Place → Outcome → Outcome
granted p r s v write place done =
    if may p r (actor p r s) place write then done
    else Stops [] (Denied (actor p r s) (object_in v) (offset_in v) write)

-- a load: the object must hold the bytes, they must hold a value of the type, and then the read must be
-- granted
abbrev pub loads : Program → Rights → State → List Frame → TyTree → Value → Outcome
loads p r s rest ty v = if_value (loaded s.memory ty v) (λ x. granted p r s v false x.1 (gives s rest x.0))

-- a write of so many bytes: the object must hold them and be no literal, and then the write must be granted
abbrev pub stores : Program → Rights → State → Value → ℕ → List Cell → Spot → Outcome
stores p r s to bytes cells next =
    if_value (writable s.memory to bytes) (λ place. granted p r s to true place (Goes [] (record s { memory = written s.memory to cells; spot = next })))

-- so many bytes on in an object
abbrev pub further : Value → ℕ → Value
further (Address q) n = Address (record { object = q.object; offset = q.offset + n })
further v n = v

abbrev pub reads_byte : Program → Rights → State → List Frame → TyTree → Value → Value → ℕ → Outcome
reads_byte p r s rest ty to v done =
    if_value (byte_read s.memory (further v done)) (λ x. granted p r s (further v done) false x.1 (at s (Does (WriteByte ty to v done x.0) rest)))

abbrev pub next_byte : Program → List Frame → TyTree → Value → Value → ℕ → Spot
next_byte p rest ty to v done = if nat_lt done (size_in p ty) then Does (ReadByte ty to v done) rest else follow rest

-- ---- tests

abbrev pub is_true : Value → Bool
is_true (Number w) = not (nat_eq w 0)
is_true _ = false

abbrev pub truth_value : Bool → Value
truth_value true = Number 1
truth_value false = Number 0

-- the first operand of `&&` or `||` decides, or the second one is evaluated (6.5.13, 6.5.14)
abbrev pub decide : Binop → Bool → TExprTree → List Frame → Spot
decide Land true b rest = start b (Truth ∷ rest)
decide Land false b rest = give (Number 0) rest
decide Lor true b rest = give (Number 1) rest
decide Lor false b rest = start b (Truth ∷ rest)
decide op v b rest = Does Stuck rest

abbrev pub branch : Bool → TStmtTree → MaybeTStmt → List Frame → Spot
branch true s other rest = begin s rest (follow rest)
branch false s other rest = begin_maybe other rest (follow rest)

abbrev pub tested : Bool → Loop → List Frame → Spot
tested true loop rest = begin_body loop (loop_body loop) rest
tested false loop rest = follow rest

-- ---- calls

-- what a waiting caller takes of a stack: its frame, and 16 bytes where a gate between compartments waits
abbrev pub taken : Program → Rights → ℕ → Call → Bool → ℕ
taken p r stack c crosses =
    if nat_eq (stack_of p r c.function) stack then (function_at p c.function).frame + (if crosses then 16 else 0) else 0

-- the use of a stack by the callers that wait
abbrev pub use_of : Program → Rights → ℕ → List Frame → ℕ
use_of p r stack [] = 0
use_of p r stack (Caller c crosses ∷ rest) = taken p r stack c crosses + use_of p r stack rest
use_of p r stack (_ ∷ rest) = use_of p r stack rest

abbrev pub has_room : Program → Rights → ℕ → List Frame → Bool
has_room p r f rest = not (nat_lt (stack_size r) (use_of p r (stack_of p r f) rest + (function_at p f).frame + 96))

-- whether a call is one of a gate between compartments
abbrev pub crosses_by : Program → Rights → Way → ℕ → ℕ → Bool
crosses_by p r ByGate from to = not (nat_eq (home p r from) (home p r to))
crosses_by p r _ from to = false

-- what waits for a call to return: the caller, but for a thread's first call
abbrev pub waiting_for : Program → Rights → Way → ℕ → Call → List Frame → List Frame
waiting_for p r First f call rest = rest
waiting_for p r Plainly f call rest = Caller call false ∷ rest
waiting_for p r ByGate f call rest = Caller call (crosses_by p r ByGate call.function f) ∷ rest

-- the objects of the call are made, and its body begins (6.5.2.2)
abbrev pub entered : Program → State → ℕ → List Value → List Frame → State
entered p s f values rest = record s {
  memory = s.memory ++ call_objects p f 0 (function_at p f).variables values;
  call = record { function = f; base = length s.memory };
  spot = begin_all (function_at p f).body rest (follow rest);
}

abbrev pub enter : Program → Rights → State → ℕ → List Value → List Frame → Outcome
enter p r s f values rest =
    if has_room p r f rest then Goes [] (entered p s f values rest)
    else Stops [] (StackFull s.current (stack_of p r f))

-- the value of a return that names none: 0, null for a pointer, and none for `void`
abbrev pub value_at_end : TyTree → Value
value_at_end (IntTy i) = Number 0
value_at_end (PtrTy t) = Null
value_at_end _ = Void

-- the value of `main`, extended to 64 bits, as a signed number
abbrev pub exit_value : TyTree → Value → ℤ
exit_value (IntTy i) (Number w) = number Long (converted i Long w)
exit_value _ _ = pos 0

-- ---- threads

-- another thread goes on; the running one is left as told
abbrev pub resume : State → Thread → ℕ → Option Thread → Outcome
resume s left t (Some (Waiting spot call)) =
    Goes [] (record s { threads = slice_set (slice_set s.threads s.current left) t Running; current = t; call = call; spot = spot })
resume s left t _ = Stops [] BadThread

abbrev pub switch : State → List Frame → Value → Outcome
switch s rest (Number t) =
    if nat_eq t s.current then gives s rest Void
    else resume s (Waiting (give Void rest) s.call) t (slice_get s.threads t)
switch s rest v = Stops [] Undefined

-- a thread's first call, which its first step makes
abbrev pub new_thread : ℕ → Value → Thread
new_thread f v = Waiting (Does (Enter f First (v ∷ [])) []) (record { function = f; base = 0 })

abbrev pub spawn : State → List Frame → ℕ → Value → Outcome
spawn s rest f v =
    if nat_lt (length s.threads) 16 then Goes [] (record s { threads = s.threads ++ new_thread f v ∷ []; spot = give (Number (length s.threads)) rest })
    else Stops [] ThreadsFull

-- ---- returns

abbrev pub ended : Program → State → Value → Outcome
ended p s v =
    if nat_eq s.current 0 then Stops [] (Exit (exit_value (function_at p s.call.function).gives v))
    else resume s Ended 0 (slice_get s.threads 0)

-- the caller goes on with the value
abbrev pub returned : Program → State → Value → List Frame → Outcome
returned p s v (Caller call crosses ∷ rest) = Goes [] (record s { call = call; spot = give v rest })
returned p s v _ = ended p s v

-- the objects of the call die (6.2.4)
abbrev pub left : Program → State → State
left p s = record s { memory = without s.memory s.call.base (length (function_at p s.call.function).variables) }

abbrev pub leave : Program → State → Value → List Frame → Outcome
leave p s v rest = returned p (left p s) v (unwind rest)

-- ---- operations

abbrev pub operation : ℕ → ℕ → Bool → ℕ → DeviceOp
operation device register write value = record { device = device; reg = register; write = write; value = value }

abbrev pub told : State → List Frame → ℕ → ℕ → Value → Outcome
told s rest device register (Number w) = Goes (operation device register true w ∷ []) (record s { spot = give Void rest })
told s rest device register v = Stops [] Undefined

abbrev pub asked : State → List Frame → ℕ → ℕ → ℕ → Outcome
asked s rest device register answer = Goes (operation device register false answer ∷ []) (record s { spot = give (Number answer) rest })

abbrev pub place_of : ℕ → ℕ → Value
place_of object offset = Address (record { object = object; offset = offset })

abbrev pub member_of : Program → TyTree → ℕ → ℤ
member_of p (StructTy n) member = pos (offset_of p n member)
member_of p _ member = pos 0

-- One step. The answer is that of a load of a device, and looked at by such a step alone.
abbrev pub perform : Program → Rights → ℕ → State → Spot → Outcome
perform p r answer s (Does (Push v) rest) = gives s rest v
perform p r answer s (Does (SizeOf ty) rest) = gives s rest (Number (size_in p ty))
perform p r answer s (Does (GlobalAddress n) rest) = gives s rest (place_of n 0)
perform p r answer s (Does (LiteralAddress n) rest) = gives s rest (place_of (length p.globals + n) 0)
perform p r answer s (Does (LocalAddress n) rest) = gives s rest (place_of (s.call.base + n) 0)
perform p r answer s (Does (Load ty v) rest) = loads p r s rest ty v
perform p r answer s (Does (Apply op ty v) rest) = gives_result s rest (unary_result op ty v)
perform p r answer s (Does (Convert from to v) rest) = gives_result s rest (conversion s.memory from to v)
perform p r answer s (Does (Step struct member v) rest) = gives_result s rest (moved s.memory v (member_of p struct member))
perform p r answer s (Does (Combine op first second v w) rest) = gives_result s rest (binary_result p.structs s.memory op first second v w)
perform p r answer s (Does (Decide op b v) rest) = at s (decide op (is_true v) b rest)
perform p r answer s (Does (Judge v) rest) = gives s rest (truth_value (is_true v))
perform p r answer s (Does (Enter f way values) rest) = enter p r s f values (waiting_for p r way f s.call rest)
perform p r answer s (Does (Ask device register) rest) = asked s rest device register answer
perform p r answer s (Does (Tell device register v) rest) = told s rest device register v
perform p r answer s (Does (Spawn f v) rest) = spawn s rest f v
perform p r answer s (Does (Switch v) rest) = switch s rest v
perform p r answer s (Does Self rest) = gives s rest (Number s.current)
perform p r answer s (Does (Store ty to v) rest) = stores p r s to (width ty) (cells_of (width ty) v) (follow rest)
perform p r answer s (Does (ReadByte ty to v done) rest) = reads_byte p r s rest ty to v done
perform p r answer s (Does (WriteByte ty to v done cell) rest) = stores p r s (further to done) 1 (cell ∷ []) (next_byte p rest ty to v (done + 1))
perform p r answer s (Does (Branch v s1 other) rest) = at s (branch (is_true v) s1 other rest)
perform p r answer s (Does (Test v loop) rest) = at s (tested (is_true v) loop rest)
perform p r answer s (Does (JumpBack loop) rest) = at s (begin_loop loop rest)
perform p r answer s (Does Break rest) = at s (after_loop rest)
perform p r answer s (Does Continue rest) = at s (next_round rest)
perform p r answer s (Does (Leave v) rest) = leave p s v rest
perform p r answer s (Does FallOff rest) = leave p s (value_at_end (function_at p s.call.function).gives) rest
perform p r answer s (Does Stuck rest) = Stops [] Undefined

abbrev pub step : Program → Rights → ℕ → State → Outcome
step p r answer s = perform p r answer s s.spot

-- ---- cost

-- the return of a gate call between compartments costs 2 more
abbrev pub return_extra : List Frame → ℕ
return_extra (Caller call true ∷ rest) = 2
return_extra _ = 0

-- what a step costs beyond one unit
abbrev pub act_extra : Program → Spot → ℕ
act_extra p (Does (Enter f way values) rest) = (function_at p f).frame / 8
act_extra p (Does (Leave v) rest) = return_extra (unwind rest)
act_extra p (Does FallOff rest) = return_extra (unwind rest)
act_extra p (Does _ rest) = 0

abbrev pub extra : Program → State → ℕ
extra p s = act_extra p s.spot

-- before the first step, which calls `main` on thread 0
abbrev pub first_state : Program → State
first_state p = record {
  memory = first_memory p;
  threads = Running ∷ [];
  current = 0;
  call = record { function = p.main; base = 0 };
  spot = Does (Enter p.main First []) [];
}
