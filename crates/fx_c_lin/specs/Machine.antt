-- What linear code does, over the memory of the source meaning and at the same rights.
--
-- The stack holds words: values of the source, but for the null pointer, which is the number 0. An op on a variable of
-- the running call, and one whose right operand isn't pending, does at once what the ops do that it stands for; such an
-- access is to the call's own object, which its compartment always may access.
use Rattle.std.specs.Prelude.{ℕ, zero, suc, ◌+◌, ◌-◌, ◌/◌, Bool, true, false, not, ◌&&◌, nat_eq}
use Rattle.std.specs.Prelude.{nat_lt, pos, neg_ℤ, List, [], ◌∷◌, ◌++◌, length, slice_get, slice_set}
use Rattle.std.specs.Prelude.{slice_index_or, Option, Some, None, Result, Ok, Err, if◌then◌else◌}
use Rattle.fx_outcomes.specs.Runs.{Next, Goes, Stops}
use Rattle.fx_outcomes.specs.Runs as runs
use Rattle.fx_base.specs.declared.device_op.DeviceOp.{DeviceOp}
use Rattle.fx_c_ast.specs.declared.operator.IntType.{IntType}
use Rattle.fx_c_ast.specs.declared.operator.IntType.TheVariants.{Long}
use Rattle.fx_c_ast.specs.declared.operator.Binop.{Binop}
use Rattle.fx_c_ast.specs.CheckedTrees.{TyTree, IntTy}
use Rattle.fx_c_mean_blocks.specs.declared.value.Value.{Value}
use Rattle.fx_c_mean_blocks.specs.declared.value.Value.TheVariants.{Void, Number, Null}
use Rattle.fx_c_mean_blocks.specs.declared.value.Cell.{Cell}
use Rattle.fx_c_mean_blocks.specs.declared.block.Place.{Place}
use Rattle.fx_c_mean_blocks.specs.declared.block.Object.{Object}
use Rattle.fx_c_mean_blocks.specs.declared.fault.Fault.{Fault}
use Rattle.fx_c_mean_blocks.specs.declared.fault.Fault.TheVariants as fault
use Rattle.fx_c_mean_blocks.specs.Integers.{number, converted}
use Rattle.fx_c_mean_blocks.specs.Blocks.{byte_read, cells_of, width, object_in, offset_in, loaded}
use Rattle.fx_c_mean_blocks.specs.Blocks.{writable, written, without, moved}
use Rattle.fx_c_mean_blocks.specs.Operators.{elements, difference, pointer_result, integers}
use Rattle.fx_c_mean_blocks.specs.Operators.{unary_result}
use Rattle.fx_c_mean_model.specs.declared.end.End.{End}
use Rattle.fx_c_mean_model.specs.declared.end.End.TheVariants.{Exit, Denied, StackFull, BadThread}
use Rattle.fx_c_mean_model.specs.declared.end.End.TheVariants.{ThreadsFull, Undefined}
use Rattle.fx_c_mean_model.specs.declared.rights.Rights.{Rights}
use Rattle.fx_c_mean_model.specs.Programs.{Program, function_at, first_memory, call_objects}
use Rattle.fx_c_mean_model.specs.Rights.{home, may, stack_of, stack_size, no_variable}
use Rattle.fx_c_mean_model.specs.States.{Call}
use Rattle.fx_c_mean_model.specs.Steps.{end_of, is_true, taken, exit_value, further, operation}
use Rattle.fx_c_mean_model.specs.Steps.{place_of}
use Rattle.fx_c_lin.specs.declared.op.Right.{Right}
use Rattle.fx_c_lin.specs.declared.op.Right.TheVariants as right
use Rattle.fx_c_lin.specs.declared.op.Compared.{Compared}
use Rattle.fx_c_lin.specs.declared.op.Compared.TheVariants.{Integers, Pointers}
use Rattle.fx_c_lin.specs.Ops.{Op, Step}
use Rattle.fx_c_lin.specs.Ops as op

-- ---- words

-- the word of a value: null is the number 0
abbrev pub word_of : Value → Value
word_of Null = Number 0
word_of v = v

-- a word where a pointer is asked for
abbrev pub null_or : Bool → ℕ → Value
null_or true w = Null
null_or false w = Number w

abbrev pub pointer_of_word : Value → Value
pointer_of_word (Number w) = null_or (nat_eq w 0) w
pointer_of_word v = v

-- ---- states

-- a caller that waits: where it goes on, with what stands below the answer
pub record Saved : Type 0 where
  pub call : Call
  pub crosses : Bool
  pub place : ℕ
  pub stack : List Value

pub data Spot : Type 0 where
  At : (place : ℕ) (stack : List Value) → Spot
  -- a thread's first call
  Begins : (f : ℕ) (values : List Value) → Spot
  -- amid a copy of so many bytes, of which some are done; the byte that was read and is to be written, if there is one
  Copies : (place : ℕ) (stack : List Value) (bytes : ℕ) (to from : Value) (done : ℕ)
      (read : Option Cell)
      → Spot

pub data Thread : Type 0 where
  Running : Thread
  Waiting : (spot : Spot) (call : Call) (callers : List Saved) → Thread
  Ended : Thread

pub record State : Type 0 where
  pub memory : List Object
  pub threads : List Thread
  pub current : ℕ
  pub call : Call
  pub callers : List Saved
  pub spot : Spot

abbrev pub Outcome : Type 0
Outcome = Next DeviceOp State End

-- ---- code

-- a function that isn't there returns at once
abbrev pub no_code : List Step
no_code = record { op = op.Return; cost = 1 } ∷ []

abbrev pub steps_of : List (List Step) → ℕ → List Step
steps_of all f = slice_index_or all f no_code

-- ---- ops of cost 0, which neither stop nor touch memory

abbrev pub conversion_of : Op → Value → Value
conversion_of (op.Convert i j) (Number w) = Number (converted i j w)
conversion_of o v = v

abbrev pub free_op : Op → ℕ → List Value → Option (ℕ × List Value)
free_op (op.Number w) place stack = Some (place + 1, Number w ∷ stack)
free_op (op.Convert i j) place (v ∷ stack) =
    Some (place + 1, conversion_of (op.Convert i j) v ∷ stack)
free_op op.Drop place (v ∷ stack) = Some (place + 1, stack)
free_op (op.Jump to) place stack = Some (to, stack)
free_op o place stack = None

abbrev pub free_at : ℕ → Op → ℕ → List Value → Option (ℕ × List Value)
free_at zero o place stack = free_op o place stack
free_at (suc n) o place stack = None

abbrev pub freed : Option Step → ℕ → List Value → Option (ℕ × List Value)
freed None place stack = None
freed (Some x) place stack = free_at x.cost x.op place stack

abbrev pub settle_on : Option (ℕ × List Value) → Spot → (ℕ → List Value → Spot) → Spot
settle_on None here go = here
settle_on (Some x) here go = go x.0 x.1

-- at most n ops of cost 0 are done; where more follow, the state's next op costs nothing and the code stands still
abbrev pub settle : List Step → ℕ → ℕ → List Value → Spot
settle code zero place stack = At place stack
settle code (suc n) place stack =
    settle_on (freed (slice_get code place) place stack) (At place stack) (settle code n)

-- at most so many ops of cost 0 follow one another
abbrev pub most_free : ℕ
most_free = 96

abbrev pub settled : List Step → Spot → Spot
settled code (At place stack) = settle code most_free place stack
settled code spot = spot

-- ---- ops

abbrev pub goes_to : State → ℕ → List Value → Outcome
goes_to s place stack = Goes [] (record s { spot = At place stack })

-- what gives a value goes on with it; what gives none ends the run
abbrev pub checked : {A : Type 0} → Result A Fault → (A → Outcome) → Outcome
checked (Ok a) go = go a
checked (Err e) go = Stops [] (end_of e)

abbrev pub pushes : State → ℕ → List Value → Result Value Fault → Outcome
pushes s place stack x = checked x (λ v. goes_to s (place + 1) (word_of v ∷ stack))

abbrev pub allowed : Program → Rights → State → Value → Bool → Place → Outcome → Outcome
allowed p r s v write place done =
    if may p r (home p r s.call.function) place write then done
    else Stops [] (Denied (home p r s.call.function) (object_in v) (offset_in v) write)

abbrev pub loads : Program → Rights → State → ℕ → List Value → TyTree → Value → Outcome
loads p r s place stack ty v =
    checked (loaded s.memory ty v)
    (λ x. allowed p r s v false x.1 (goes_to s (place + 1) (word_of x.0 ∷ stack)))

abbrev pub stores : Program → Rights → State → ℕ → List Value → TyTree → Value → Value → Outcome
stores p r s place stack ty to v =
    checked (writable s.memory to (width ty))
    (λ at. allowed p r s to true at
    (Goes []
    (record s {
      memory = written s.memory to (cells_of (width ty) v);
      spot = At (place + 1) stack;
    })))

-- a variable of the running call: its type, its place, and its value
abbrev pub local_type : Program → State → ℕ → TyTree
local_type p s n = (slice_index_or (function_at p s.call.function).variables n no_variable).ty

abbrev pub local_place : State → ℕ → Value
local_place s n = place_of (s.call.base + n) 0

abbrev pub first_of : Result (Value × Place) Fault → Result Value Fault
first_of (Ok x) = Ok x.0
first_of (Err e) = Err e

abbrev pub local_value : Program → State → ℕ → Result Value Fault
local_value p s n = first_of (loaded s.memory (local_type p s n) (local_place s n))

abbrev pub stores_local : Program → State → ℕ → List Value → ℕ → Value → Outcome
stores_local p s place stack n v =
    checked (writable s.memory (local_place s n) (width (local_type p s n)))
    (λ at. Goes []
    (record s {
      memory = written s.memory (local_place s n)
          (cells_of (width (local_type p s n)) v);
      spot = At (place + 1) stack;
    }))

-- the right operand's word, and the stack below it
abbrev pub with_right : Program → State → Right → List Value → (Value → List Value → Outcome)
    → Outcome
with_right p s right.Pending [] go = Stops [] Undefined
with_right p s right.Pending (w ∷ stack) go = go w stack
with_right p s (right.Number w) stack go = go (Number w) stack
with_right p s (right.Local n) stack go = checked (local_value p s n) (λ w. go (word_of w) stack)

-- of a number of elements: a pending one and one in the op are longs, a variable's is read as its type says
abbrev pub integer_of : TyTree → IntType
integer_of (IntTy i) = i
integer_of _ = Long

abbrev pub index_type : Program → State → Right → IntType
index_type p s (right.Local n) = integer_of (local_type p s n)
index_type p s _ = Long

-- the use of a stack by the callers that wait
abbrev pub use_of : Program → Rights → ℕ → List Saved → ℕ
use_of p r stack [] = 0
use_of p r stack (c ∷ callers) = taken p r stack c.call c.crosses + use_of p r stack callers

abbrev pub has_room : Program → Rights → ℕ → List Saved → Bool
has_room p r f callers =
    not (nat_lt (stack_size r) (use_of p r (stack_of p r f) callers + (function_at p f).frame + 96))

abbrev pub entered : Program → State → ℕ → List Value → List Saved → State
entered p s f values callers = record s {
  memory = s.memory ++ call_objects p f 0 (function_at p f).variables values;
  call = record { function = f; base = length s.memory };
  callers = callers;
  spot = At 0 [];
}

abbrev pub enter : Program → Rights → State → ℕ → List Value → List Saved → Outcome
enter p r s f values callers =
    if has_room p r f callers then Goes [] (entered p s f values callers)
    else Stops [] (StackFull s.current (stack_of p r f))

-- so many words from the top, the last one pushed the last, and what is below them
abbrev pub popped : ℕ → List Value → List Value → List Value × List Value
popped zero stack values = (values, stack)
popped (suc n) [] values = (values, [])
popped (suc n) (v ∷ stack) values = popped n stack (v ∷ values)

abbrev pub calls : Program → Rights → State → ℕ → ℕ → Bool → List Value × List Value → Outcome
calls p r s place f crosses x =
    enter p r s f x.0
    (record { call = s.call; crosses = crosses; place = place + 1; stack = x.1 } ∷ s.callers)

abbrev pub crosses_to : Program → Rights → State → ℕ → Bool
crosses_to p r s f = not (nat_eq (home p r s.call.function) (home p r f))

abbrev pub resume : State → Thread → ℕ → Option Thread → Outcome
resume s left t (Some (Waiting spot call callers)) =
    Goes []
    (record s {
      threads = slice_set (slice_set s.threads s.current left) t Running;
      current = t;
      call = call;
      callers = callers;
      spot = spot;
    })
resume s left t _ = Stops [] BadThread

abbrev pub switch : State → ℕ → List Value → Value → Outcome
switch s place stack (Number t) =
    if nat_eq t s.current then goes_to s (place + 1) (Void ∷ stack)
    else resume s (Waiting (At (place + 1) (Void ∷ stack)) s.call s.callers) t
    (slice_get s.threads t)
switch s place stack v = Stops [] Undefined

abbrev pub new_thread : ℕ → Value → Thread
new_thread f v = Waiting (Begins f (v ∷ [])) (record { function = f; base = 0 }) []

abbrev pub spawn : State → ℕ → List Value → ℕ → Value → Outcome
spawn s place stack f v =
    if nat_lt (length s.threads) 16
    then Goes []
    (record s {
      threads = s.threads ++ new_thread f v ∷ [];
      spot = At (place + 1) (Number (length s.threads) ∷ stack);
    })
    else Stops [] ThreadsFull

abbrev pub ended : Program → State → Value → Outcome
ended p s v =
    if nat_eq s.current 0 then Stops [] (Exit (exit_value (function_at p s.call.function).gives v))
    else resume s Ended 0 (slice_get s.threads 0)

abbrev pub returned : Program → State → Value → List Saved → Outcome
returned p s v [] = ended p s v
returned p s v (c ∷ callers) =
    Goes [] (record s { call = c.call; callers = callers; spot = At c.place (v ∷ c.stack) })

abbrev pub left : Program → State → State
left p s =
    record s
    { memory = without s.memory s.call.base (length (function_at p s.call.function).variables) }

abbrev pub leave : Program → State → Value → Outcome
leave p s v = returned p (left p s) v s.callers

abbrev pub told : State → ℕ → List Value → ℕ → ℕ → Value → Outcome
told s place stack device register (Number w) =
    Goes (operation device register true w ∷ []) (record s { spot = At (place + 1) (Void ∷ stack) })
told s place stack device register v = Stops [] Undefined

abbrev pub asked : State → ℕ → List Value → ℕ → ℕ → ℕ → Outcome
asked s place stack device register answer =
    Goes (operation device register false answer ∷ [])
    (record s { spot = At (place + 1) (Number answer ∷ stack) })

abbrev pub copy_reads : Program → Rights → State → ℕ → List Value → ℕ → Value → Value → ℕ → Outcome
copy_reads p r s place stack bytes to v done =
    checked (byte_read s.memory (further v done))
    (λ x. allowed p r s (further v done) false x.1
    (Goes [] (record s { spot = Copies place stack bytes to v done (Some x.0) })))

abbrev pub next_copy : ℕ → List Value → ℕ → Value → Value → ℕ → Spot
next_copy place stack bytes to v done =
    if nat_lt done bytes then Copies place stack bytes to v done None else At (place + 1) stack

abbrev pub copy_writes : Program → Rights → State → ℕ → List Value → ℕ → Value → Value → ℕ → Cell
    → Outcome
copy_writes p r s place stack bytes to v done cell =
    checked (writable s.memory (further to done) 1)
    (λ at. allowed p r s (further to done) true at
    (Goes []
    (record s {
      memory = written s.memory (further to done) (cell ∷ []);
      spot = next_copy place stack bytes to v (done + 1);
    })))

abbrev pub jump_zero : State → ℕ → List Value → ℕ → Bool → Outcome
jump_zero s place stack to true = goes_to s (place + 1) stack
jump_zero s place stack to false = goes_to s to stack

-- a pointer so many elements on
abbrev pub indexed : List Object → ℕ → IntType → Value → Value → Result Value Fault
indexed memory bytes i v (Number w) = moved memory v (elements bytes (number i w))
indexed memory bytes i v w = Err fault.Undefined

abbrev pub indexed_back : List Object → ℕ → Value → Value → Result Value Fault
indexed_back memory bytes v (Number w) = moved memory v (neg_ℤ (elements bytes (number Long w)))
indexed_back memory bytes v w = Err fault.Undefined

-- ops of two operands, told the right one's word
abbrev pub binary : State → ℕ → Binop → IntType → Value → List Value → Outcome
binary s place o i w [] = Stops [] Undefined
binary s place o i w (v ∷ stack) = pushes s place stack (integers o i v w)

abbrev pub compare_pointers : State → ℕ → Binop → Value → List Value → Outcome
compare_pointers s place o w [] = Stops [] Undefined
compare_pointers s place o w (v ∷ stack) =
    pushes s place stack (pointer_result s.memory o 1 (pointer_of_word v) (pointer_of_word w))

abbrev pub index : State → ℕ → ℕ → IntType → Value → List Value → Outcome
index s place bytes i w [] = Stops [] Undefined
index s place bytes i w (v ∷ stack) = pushes s place stack (indexed s.memory bytes i v w)

abbrev pub comparison : List Object → Binop → Compared → Value → Value → Result Value Fault
comparison memory o (Integers i) v w = integers o i v w
comparison memory o Pointers v w = pointer_result memory o 1 (pointer_of_word v) (pointer_of_word w)

abbrev pub compare_jump : State → ℕ → Binop → Compared → ℕ → Value → List Value → Outcome
compare_jump s place o of to w [] = Stops [] Undefined
compare_jump s place o of to w (v ∷ stack) = checked (comparison s.memory o of v w) (λ x. jump_zero s place stack to (is_true x))

abbrev pub perform : Program → Rights → ℕ → State → ℕ → Op → List Value → Outcome
perform p r answer s place (op.Number w) stack = goes_to s (place + 1) (Number w ∷ stack)
perform p r answer s place (op.LocalAddr n) stack =
    goes_to s (place + 1) (place_of (s.call.base + n) 0 ∷ stack)
perform p r answer s place (op.LoadLocal n) stack = pushes s place stack (local_value p s n)
perform p r answer s place (op.StoreLocal n) (v ∷ stack) = stores_local p s place stack n v
perform p r answer s place (op.GlobalAddr n) stack = goes_to s (place + 1) (place_of n 0 ∷ stack)
perform p r answer s place (op.LiteralAddr n) stack =
    goes_to s (place + 1) (place_of (length p.globals + n) 0 ∷ stack)
perform p r answer s place (op.Load ty) (v ∷ stack) = loads p r s place stack ty v
perform p r answer s place (op.Store ty) (v ∷ (to ∷ stack)) = stores p r s place stack ty to v
perform p r answer s place (op.Copy bytes) (v ∷ (to ∷ stack)) =
    copy_reads p r s place stack bytes to v 0
perform p r answer s place (op.Unary o i) (v ∷ stack) =
    pushes s place stack (unary_result o (IntTy i) v)
perform p r answer s place (op.Binary o i right) stack =
    with_right p s right stack (binary s place o i)
perform p r answer s place (op.PtrCompare o right) stack =
    with_right p s right stack (compare_pointers s place o)
perform p r answer s place (op.CompareJump o of right to) stack = with_right p s right stack (compare_jump s place o of to)
perform p r answer s place (op.Convert i j) (v ∷ stack) =
    goes_to s (place + 1) (conversion_of (op.Convert i j) v ∷ stack)
perform p r answer s place (op.Index bytes right) stack =
    with_right p s right stack (index s place bytes (index_type p s right))
perform p r answer s place (op.IndexLeft bytes) (w ∷ (v ∷ stack)) =
    pushes s place stack (indexed s.memory bytes Long w v)
perform p r answer s place (op.Back bytes) (w ∷ (v ∷ stack)) =
    pushes s place stack (indexed_back s.memory bytes v w)
perform p r answer s place (op.Difference bytes) (w ∷ (v ∷ stack)) =
    pushes s place stack (difference bytes v w)
perform p r answer s place (op.Offset bytes) (v ∷ stack) =
    pushes s place stack (moved s.memory v (pos bytes))
perform p r answer s place (op.Jump to) stack = goes_to s to stack
perform p r answer s place (op.JumpZero to) (v ∷ stack) = jump_zero s place stack to (is_true v)
perform p r answer s place (op.Call f) stack =
    calls p r s place f false (popped (function_at p f).params stack [])
perform p r answer s place (op.Gate f) stack =
    calls p r s place f (crosses_to p r s f) (popped (function_at p f).params stack [])
perform p r answer s place (op.Spawn f) (v ∷ stack) = spawn s place stack f v
perform p r answer s place op.Switch (v ∷ stack) = switch s place stack v
perform p r answer s place op.Me stack = goes_to s (place + 1) (Number s.current ∷ stack)
perform p r answer s place (op.DevLoad d n) stack = asked s place stack d n answer
perform p r answer s place (op.DevStore d n) (v ∷ stack) = told s place stack d n v
perform p r answer s place op.Getc stack = asked s place stack 0 0 answer
perform p r answer s place op.Putc (v ∷ stack) = told s place stack 0 0 v
perform p r answer s place op.Drop (v ∷ stack) = goes_to s (place + 1) stack
perform p r answer s place op.Return [] = leave p s Void
perform p r answer s place op.Return (v ∷ stack) = leave p s v
perform p r answer s place o stack = Stops [] Undefined

abbrev pub perform_at : Program → Rights → ℕ → State → ℕ → Option Step → List Value → Outcome
perform_at p r answer s place None stack = Stops [] Undefined
perform_at p r answer s place (Some x) stack = perform p r answer s place x.op stack

abbrev pub act : Program → Rights → List (List Step) → ℕ → State → Spot → Outcome
act p r all answer s (At place stack) =
    perform_at p r answer s place (slice_get (steps_of all s.call.function) place) stack
act p r all answer s (Begins f values) = enter p r s f values s.callers
act p r all answer s (Copies place stack bytes to v done None) =
    copy_reads p r s place stack bytes to v done
act p r all answer s (Copies place stack bytes to v done (Some cell)) =
    copy_writes p r s place stack bytes to v done cell

-- and the ops of cost 0 behind it
abbrev pub onward : List (List Step) → Outcome → Outcome
onward all (Goes o s) = Goes o (record s { spot = settled (steps_of all s.call.function) s.spot })
onward all (Stops o e) = Stops o e

-- an op of cost 0 isn't done by itself
abbrev pub costs_something : ℕ → Bool
costs_something zero = false
costs_something (suc n) = true

abbrev pub costs_at : Option Step → Bool
costs_at None = true
costs_at (Some x) = costs_something x.cost

abbrev pub goes_on : List Step → Spot → Bool
goes_on code (At place stack) = costs_at (slice_get code place)
goes_on code spot = true

abbrev pub if_goes_on : Bool → State → Outcome → Outcome
if_goes_on true s done = done
if_goes_on false s done = Goes [] s

abbrev pub step : Program → Rights → List (List Step) → ℕ → State → Outcome
step p r all answer s =
    if_goes_on (goes_on (steps_of all s.call.function) s.spot) s
    (onward all (act p r all answer s s.spot))

-- ---- cost

-- the return of a gate call between compartments costs 2 more
abbrev pub crossing : List Saved → ℕ
crossing [] = 0
crossing (c ∷ callers) = if c.crosses then 2 else 0

abbrev pub more_cost : Op → List Saved → ℕ
more_cost op.Return callers = crossing callers
more_cost o callers = 0

abbrev pub step_extra : Option Step → List Saved → ℕ
step_extra None callers = 0
step_extra (Some x) callers = (x.cost - 1) + more_cost x.op callers

-- what a step costs beyond one unit
abbrev pub spot_extra : Program → List Step → List Saved → Spot → ℕ
spot_extra p code callers (At place stack) = step_extra (slice_get code place) callers
spot_extra p code callers (Begins f values) = (function_at p f).frame / 8
spot_extra p code callers _ = 0

abbrev pub extra : Program → List (List Step) → State → ℕ
extra p all s = spot_extra p (steps_of all s.call.function) s.callers s.spot

abbrev pub first_state : Program → State
first_state p = record {
  memory = first_memory p;
  threads = Running ∷ [];
  current = 0;
  call = record { function = p.main; base = 0 };
  callers = [];
  spot = Begins p.main [];
}

-- ---- runs, as those of the source

pub record Run : Type 0 where
  pub state : State
  pub answers : List ℕ

abbrev pub with_answers : List ℕ → Outcome → Next DeviceOp Run End
with_answers answers (Goes made s) = Goes made (record { state = s; answers = answers })
with_answers answers (Stops made e) = Stops made e

abbrev pub is_load : Op → Bool
is_load (op.DevLoad d n) = true
is_load op.Getc = true
is_load o = false

abbrev pub is_load_at : Option Step → Bool
is_load_at None = false
is_load_at (Some x) = costs_something x.cost && is_load x.op

abbrev pub asks_at : List Step → Spot → Bool
asks_at code (At place stack) = is_load_at (slice_get code place)
asks_at code spot = false

abbrev pub asks : List (List Step) → State → Bool
asks all s = asks_at (steps_of all s.call.function) s.spot

abbrev pub advance : Program → Rights → List (List Step) → Bool → State → List ℕ
    → Next DeviceOp Run End
advance p r all false s answers = with_answers answers (step p r all 0 s)
advance p r all true s [] = Goes [] (record { state = s; answers = [] })
advance p r all true s (answer ∷ answers) = with_answers answers (step p r all answer s)

abbrev pub run_step : Program → Rights → List (List Step) → Run → Next DeviceOp Run End
run_step p r all x = advance p r all (asks all x.state) x.state x.answers

-- the operations and the end of the code within a cost
abbrev pub performed : Program → Rights → List (List Step) → List ℕ → ℕ → runs.Outcome DeviceOp End
performed p r all answers k =
    runs.expected (run_step p r all) (λ x. extra p all x.state) k
    (record { state = first_state p; answers = answers })
