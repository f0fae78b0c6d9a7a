-- When a state of the source and one of its code stand for each other.
--
-- Everything is a recursion on the frames, so that at a frame that is known the relation is the pair of what stands in
-- the code there and of the same for the frames below. `c` is the call whose code runs.
--
-- An op may stand for several steps of the source. Until the source has made the last of them but one, the code stands
-- at the op: `owed` counts those that were made. What the source knows by then is not on the code's stack: a number with
-- its conversions (`Kept`), a variable's address (`Held`) or value, or the truth that a jump depends on (`Judged`).
use Rattle.std.specs.Prelude.{◌≡◌, ℕ, ◌+◌, ◌<◌, Bool, true, false, not, ◌⊎◌, List, [], ◌∷◌, ◌++◌, length, map, Option, Some, None, Ok, slice_get}
use mathlib.Core.Bool.{beq}
use Rattle.fx_c_ast.specs.declared.operator.IntType.{IntType}
use Rattle.fx_c_ast.specs.declared.operator.IntType.TheVariants.{Long, Ulong}
use Rattle.fx_c_ast.specs.declared.operator.Unop.TheVariants.{Lnot, Deref, Addr}
use Rattle.fx_c_ast.specs.declared.operator.Binop.{Binop}
use Rattle.fx_c_ast.specs.declared.operator.Binop.TheVariants.{Add, Sub, Ne}
use Rattle.fx_c_ast.specs.CheckedTrees.{TyTree, IntTy, PtrTy, TExprTree, TStmtTree, MaybeTStmt}
use Rattle.fx_c_mean_blocks.specs.declared.value.Value.{Value}
use Rattle.fx_c_mean_blocks.specs.declared.value.Value.TheVariants.{Void, Number}
use Rattle.fx_c_mean_blocks.specs.declared.value.Cell.{Cell}
use Rattle.fx_c_mean_blocks.specs.declared.block.Place.{Place}
use Rattle.fx_c_mean_blocks.specs.declared.block.Place.TheVariants.{Local}
use Rattle.fx_c_mean_blocks.specs.declared.block.Object.{Object}
use Rattle.fx_c_mean_blocks.specs.Integers.{converted}
use Rattle.fx_c_mean_blocks.specs.Blocks.{loaded}
use Rattle.fx_c_mean_model.specs.declared.rights.Rights.{Rights}
use Rattle.fx_c_mean_model.specs.Programs.{Program, Variable, function_at, size_in}
use Rattle.fx_c_mean_model.specs.States.{Loop, While, For, Way, First, Call, Frame, Loads, Applies, Converts, Steps, Second, Combines, Decides, Truth, Arguments, Tells, Spawns, Switches, Target, Into, Discards, Forks, Tests, Answers, Then, Enters, Body, Third, Caller, Act, Push, SizeOf, GlobalAddress, LiteralAddress, LocalAddress, Load, Apply, Convert, Step, Combine, Decide, Judge, Enter, Ask, Tell, Spawn, Switch, Self, Store, ReadByte, WriteByte, Branch, Test, JumpBack, Break, Continue, Leave, FallOff, Stuck, Spot, Does, type_of, is_scalar, loop_body, give}
use Rattle.fx_c_mean_model.specs.Steps as source
use Rattle.fx_c_mean_model.specs.Steps.{place_of, is_true}
use Rattle.fx_c_lin.specs.declared.op.Right.{Right}
use Rattle.fx_c_lin.specs.declared.op.Right.TheVariants as right
use Rattle.fx_c_lin.specs.declared.op.Compared.TheVariants.{Pointers}
use Rattle.fx_c_lin.specs.Ops as op
use Rattle.fx_c_lin.specs.Machine as lin
use Rattle.fx_c_lin.specs.Machine.{Saved, At, Begins, Copies, word_of, steps_of}
use Rattle.fx_c_lower_model.specs.Steps.{costing, free, chosen, unary_code, member_offset, tell_op, ask_op, assign_op, fall_code, is_logical, stops, is_comparison, jumping, compared}
use Rattle.fx_c_lower_model.specs.Direct.{direct, right_of, right_owed, right_len}
use Rattle.fx_c_lower_model.specs.Operands.{left_code, left_len, left_late, combine_code, combine_len, truth_code, test_code, test_len}
use Rattle.fx_c_lower_model.specs.Late.{value_late}
use Rattle.fx_c_lower_model.specs.Lengths.{jump_len, value_len, args_len, maybe_condition_len, stmt_len, maybe_len, stmts_len}
use Rattle.fx_c_lower_model.specs.Code.{right_code, call_step, decided_at, jump_code, args_code, value_code, else_at, else_jump, maybe_condition_code, stmt_code, maybe_code, stmts_code}
use Rattle.fx_c_lower_law.specs.Fits.{Fits, FitsAll, FitsPair, FitsLocal, FitsStmt, FitsOther, FitsStmts, FitsMaybe, count}
use Rattle.fx_c_lower_law.proofs.Places.{HasAt}

-- ---- words

-- an integer that is widened before a pointer is moved
abbrev pub is_wide : IntType → Bool
is_wide Long = false
is_wide Ulong = false
is_wide i = true

abbrev pub if_widened : Bool → IntType → Value → Value
if_widened true i v = lin.conversion_of (op.Convert i Long) v
if_widened false i v = v

-- the words of two operands where the op that combines them stands: a pending number of elements is a long
abbrev pub left_word : TyTree → TyTree → Value → Value
left_word (IntTy i) (PtrTy t) v = if_widened (is_wide i) i v
left_word s t v = v

abbrev pub right_word : TyTree → TyTree → Value → Value
right_word (PtrTy t) (IntTy i) v = if_widened (is_wide i) i v
right_word s t v = v

-- a number in an op, as the right operand
abbrev pub number_in_op : TyTree → TyTree → ℕ → ℕ
number_in_op (PtrTy t) (IntTy i) w = converted i Long w
number_in_op s t w = w

-- a constant's word behind a conversion
abbrev pub converted_word : TyTree → TyTree → ℕ → ℕ
converted_word (IntTy i) (IntTy j) w = converted i j w
converted_word s t w = w

-- the words of values, the last one on top
abbrev pub pushed : List Value → List Value → List Value
pushed [] stack = stack
pushed (v ∷ vs) stack = pushed vs (word_of v ∷ stack)

-- ---- ops

abbrev pub pointers_op : Right → Binop → ℕ → op.Op
pointers_op r Sub bytes = op.Difference bytes
pointers_op r o bytes = op.PtrCompare o r

abbrev pub move_op : Right → Binop → ℕ → op.Op
move_op r Sub bytes = op.Back bytes
move_op r o bytes = op.Index bytes r

-- the op that combines two operands
abbrev pub combine_op : Program → Right → Binop → TyTree → TyTree → op.Op
combine_op p r o (IntTy i) (IntTy j) = op.Binary o i r
combine_op p r o (PtrTy t) (IntTy i) = move_op r o (size_in p t)
combine_op p r o (IntTy i) (PtrTy t) = op.IndexLeft (size_in p t)
combine_op p r o (PtrTy s) (PtrTy t) = pointers_op r o (size_in p s)
combine_op p r o s t = op.Drop

-- an op that has its right operand in it, where that isn't pending
abbrev pub takes : Right → Binop → TyTree → TyTree → Bool
takes right.Pending o s t = true
takes r o (IntTy i) (IntTy j) = true
takes r Add (PtrTy t) (IntTy i) = true
takes r Sub (PtrTy s) (PtrTy t) = false
takes r o (PtrTy s) (PtrTy t) = true
takes r o s t = false

abbrev pub is_call : Way → Bool
is_call First = false
is_call _ = true

abbrev pub fall_stack : TyTree → List Value
fall_stack (IntTy i) = Number 0 ∷ []
fall_stack (PtrTy t) = Number 0 ∷ []
fall_stack _ = []

-- ---- loops

abbrev pub FitsLoop : Program → ℕ → Loop → Type 0
FitsLoop p f (While test s) = Fits p f test × FitsStmt p f s
FitsLoop p f (For test next s) = FitsMaybe p f test × FitsOther p f next × FitsStmt p f s

-- a loop's code from its test on, as `stmt_code` has it
abbrev pub loop_code : Program → TyTree → (at exit leave again : ℕ) → Loop → List op.Step
loop_code p g at exit leave again (While test s) =
    maybe_condition_code p at exit (Some test)
    ++ (stmt_code p g (at + maybe_condition_len p (Some test)) (at + maybe_condition_len p (Some test) + stmt_len p g s) exit at s ++ costing 1 (op.Jump at) ∷ [])
loop_code p g at exit leave again (For test next s) =
    maybe_condition_code p at exit test
    ++ (stmt_code p g (at + maybe_condition_len p test) (at + maybe_condition_len p test + stmt_len p g s) exit (at + maybe_condition_len p test + stmt_len p g s) s
    ++ (maybe_code p g (at + maybe_condition_len p test + stmt_len p g s) (at + maybe_condition_len p test + stmt_len p g s + maybe_len p g next) leave again next
    ++ costing 1 (op.Jump at) ∷ []))

-- ---- objects

-- the declarations of a call's objects
abbrev pub own_places : ℕ → ℕ → List Variable → List Place
own_places f n [] = []
own_places f n (x ∷ xs) = Local f n ∷ own_places f (n + 1) xs

abbrev pub places_of : List Object → List Place
places_of memory = map (λ (o : Object). o.place) memory

-- the objects of a call are there
abbrev pub Knows : Program → List Place → Call → Type 0
Knows p places c =
    (before : List Place) × (after : List Place) × (length before ≡ c.base)
    × (places ≡ before ++ (own_places c.function 0 (function_at p c.function).variables ++ after))

module _ (p : Program) (all : List (List op.Step)) where
  abbrev pub gives : Call → TyTree
  gives c = (function_at p c.function).gives

  abbrev pub K : Call → List op.Step
  K c = steps_of all c.function

  -- ---- statements

  -- at the end of a statement: where it leads to, or a jump to there
  abbrev pub Reaches : Call → ℕ → ℕ → Type 0
  Reaches c at exit = (at ≡ exit) ⊎ HasAt (K c) at (free (op.Jump exit) ∷ [])

  abbrev pub LoopAt : Call → (ℕ → Type 0) → (ℕ → ℕ → Type 0) → Loop → ℕ → Type 0
  LoopAt c Follows Jumps loop at =
      (exit : ℕ) × (leave : ℕ) × (again : ℕ) × FitsLoop p c.function loop × HasAt (K c) at (loop_code p (gives c) at exit leave again loop) × Follows exit × Jumps leave again

  abbrev pub BackAt : Call → (ℕ → Type 0) → (ℕ → ℕ → Type 0) → Loop → ℕ → Type 0
  BackAt c Follows Jumps loop at = (first : ℕ) × HasAt (K c) at (costing 1 (op.Jump first) ∷ []) × LoopAt c Follows Jumps loop first

  -- after a loop's body
  abbrev pub AfterAt : Call → (ℕ → Type 0) → (ℕ → ℕ → Type 0) → Loop → ℕ → Type 0
  AfterAt c Follows Jumps (While test s) at = BackAt c Follows Jumps (While test s) at
  AfterAt c Follows Jumps (For test next s) at =
      (leave : ℕ) × (again : ℕ) × Jumps leave again × FitsOther p c.function next
      × HasAt (K c) at (maybe_code p (gives c) at (at + maybe_len p (gives c) next) leave again next)
      × BackAt c Follows Jumps (For test next s) (at + maybe_len p (gives c) next)

  abbrev pub ContinuedAt : Call → (ℕ → Type 0) → (ℕ → ℕ → Type 0) → Loop → ℕ → Type 0
  ContinuedAt c Follows Jumps (While test s) at = LoopAt c Follows Jumps (While test s) at
  ContinuedAt c Follows Jumps (For test next s) at = AfterAt c Follows Jumps (For test next s) at

  abbrev mutual
    -- what follows a statement stands at a place
    pub Follows : Call → List Frame → ℕ → Type 0
    Follows c [] at = HasAt (K c) at (fall_code (gives c))
    Follows c (Then more ∷ rest) at =
        (exit : ℕ) × (leave : ℕ) × (again : ℕ) × FitsStmts p c.function more × HasAt (K c) at (stmts_code p (gives c) at exit leave again more) × Jumps c rest leave again
        × (((stmts_len p (gives c) more ≡ 0) × Follows c rest at) ⊎ ((0 < stmts_len p (gives c) more) × Reaches c (at + stmts_len p (gives c) more) exit × Follows c rest exit))
    Follows c (Enters loop ∷ rest) at = LoopAt c (Follows c rest) (Jumps c rest) loop at
    Follows c (Body loop ∷ rest) at = AfterAt c (Follows c rest) (Jumps c rest) loop at
    Follows c (Third loop ∷ rest) at = BackAt c (Follows c rest) (Jumps c rest) loop at
    Follows c (Caller call crosses ∷ rest) at = HasAt (K c) at (fall_code (gives c))
    Follows c (_ ∷ rest) at = ⊥

    -- where `break` and `continue` lead to
    pub Jumps : Call → List Frame → ℕ → ℕ → Type 0
    Jumps c [] leave again = Unit {0}
    Jumps c (Body loop ∷ rest) leave again = Follows c rest leave × ContinuedAt c (Follows c rest) (Jumps c rest) loop again
    Jumps c (Caller call crosses ∷ rest) leave again = Unit {0}
    Jumps c (_ ∷ rest) leave again = Jumps c rest leave again

  -- a statement's last op stands before this place
  abbrev pub Done : Call → List Frame → ℕ → Type 0
  Done c rest at = (exit : ℕ) × Reaches c at exit × Follows c rest exit

  -- ---- truths

  -- the branches of a choice stand at places, and a truth leads to one of them
  abbrev pub ForkTurns : Call → (ℕ → Type 0) → (ℕ → ℕ → Type 0) → TStmtTree → MaybeTStmt → Bool → ℕ → Type 0
  ForkTurns c Follows Jumps s other b to =
      (at : ℕ) × (exit : ℕ) × (leave : ℕ) × (again : ℕ) × FitsStmt p c.function s × FitsOther p c.function other
      × HasAt (K c) at (stmt_code p (gives c) at exit leave again s ++ (else_jump other exit ++ maybe_code p (gives c) (at + stmt_len p (gives c) s + 1) exit leave again other))
      × Reaches c (at + stmt_len p (gives c) s + length (else_jump other exit) + maybe_len p (gives c) other) exit × Follows exit × Jumps leave again
      × (to ≡ chosen b at (else_at other (at + stmt_len p (gives c) s) exit))

  -- a loop's body, or what follows the loop
  abbrev pub TestTurns : Call → (ℕ → Type 0) → (ℕ → Type 0) → (ℕ → ℕ → Type 0) → Loop → Bool → ℕ → Type 0
  TestTurns c Follows AfterBody BodyJumps loop b to =
      (at : ℕ) × (exit : ℕ) × (leave : ℕ) × (again : ℕ) × FitsStmt p c.function (loop_body loop)
      × HasAt (K c) at (stmt_code p (gives c) at (at + stmt_len p (gives c) (loop_body loop)) leave again (loop_body loop))
      × AfterBody (at + stmt_len p (gives c) (loop_body loop)) × BodyJumps leave again × Follows exit
      × (to ≡ chosen b at exit)

  -- the truth of the second operand of `&&` or `||`: a value, or the whole's truth
  abbrev pub TruthTurns : Call → (ℕ → List Value → Type 0) → (ℕ → Bool → ℕ → List Value → Type 0) → (cost : ℕ) → Bool → ℕ → List Value → Type 0
  TruthTurns c Awaits Turns cost b to below =
      ((cost ≡ 1) × (ones : ℕ) × HasAt (K c) ones (truth_code ones) × (to ≡ chosen b ones (ones + 2)) × Awaits (ones + 3) below)
      ⊎ ((less : ℕ) × (cost ≡ less + 1) × Turns less b to below)

  -- the first operand decides, or doesn't
  abbrev pub DecideTurns : Call → (ℕ → List Value → Type 0) → (ℕ → Bool → ℕ → List Value → Type 0) → Binop → TExprTree → Bool → ℕ → List Value → Type 0
  DecideTurns c Awaits Turns o e true to below =
      ((ones : ℕ) × HasAt (K c) ones (truth_code ones) × (to ≡ decided_at (stops o) ones) × Awaits (ones + 3) below)
      ⊎ ((more : ℕ) × (next : ℕ) × HasAt (K c) to (costing more (op.Jump next) ∷ []) × Turns more (stops o) next below)
  DecideTurns c Awaits Turns o e false to below =
      Fits p c.function e × (more : ℕ) × (sense : Bool) × (next : ℕ)
      × HasAt (K c) to (jump_code p to 0 more sense next e (value_code p to 0 e))
      × TruthTurns c Awaits Turns more sense next below × TruthTurns c Awaits Turns more (not sense) (to + jump_len p sense e (value_len p e)) below

  abbrev pub LnotTurns : (ℕ → Bool → ℕ → List Value → Type 0) → (cost : ℕ) → Bool → ℕ → List Value → Type 0
  LnotTurns Turns cost b to below = (less : ℕ) × (cost ≡ less + 1) × Turns less (not b) to below

  -- a word's truth is tested at a place
  abbrev pub Tested : Call → (owed : ℕ) → (ℕ → Bool → ℕ → List Value → Type 0) → ℕ → List Value → Type 0
  Tested c owed Turns at stack =
      (sense : Bool) × (more : ℕ) × (to : ℕ) × HasAt (K c) at (test_code at (more + owed) sense to)
      × Turns more sense to stack × Turns more (not sense) (at + test_len sense) stack

  -- a comparison's truth is tested at a place, by the op that compares
  abbrev pub ComparedAt : Call → (owed : ℕ) → (Bool → ℕ → op.Op) → (ℕ → Bool → ℕ → List Value → Type 0) → ℕ → List Value → Type 0
  ComparedAt c owed jump Turns at below =
      (sense : Bool) × (more : ℕ) × (to : ℕ) × HasAt (K c) at (costing (1 + more + owed) (jump sense to) ∷ [])
      × Turns more sense to below × Turns more (not sense) (at + 1) below

  abbrev pub compare_op : Right → Binop → TyTree → Bool → ℕ → op.Op
  compare_op r o first sense to = op.CompareJump (jumping sense o) (compared first) r to

  abbrev pub null_op : Bool → ℕ → op.Op
  null_op sense to = op.CompareJump (jumping sense Ne) Pointers (right.Number 0) to

  -- ---- values

  -- both operands are there but for the widening of a pending right one
  abbrev pub Combined : Call → (owed : ℕ) → (ℕ → List Value → Type 0) → (ℕ → Bool → ℕ → List Value → Type 0) → Right → Binop → TyTree → TyTree → ℕ → List Value → Type 0
  Combined c owed Awaits Turns r o first second at below =
      (HasAt (K c) at (combine_code p owed r o first second) × Awaits (at + combine_len r o first second) below)
      ⊎ ((is_comparison o ≡ true) × ComparedAt c owed (compare_op r o first) Turns at below)

  -- the op that combines two operands stands at a place
  abbrev pub CombinesAt : Call → (owed : ℕ) → (ℕ → List Value → Type 0) → (ℕ → Bool → ℕ → List Value → Type 0) → Right → Binop → TyTree → TyTree → ℕ → List Value → Type 0
  CombinesAt c owed Awaits Turns r o first second at below =
      (HasAt (K c) at (costing (1 + owed) (combine_op p r o first second) ∷ []) × Awaits (at + 1) below × (takes r o first second ≡ true))
      ⊎ ((is_comparison o ≡ true) × ComparedAt c owed (compare_op r o first) Turns at below)

  abbrev pub right_operand : Binop → TyTree → TExprTree → Right
  right_operand o first b = right_of o first (type_of b) (direct p b)

  -- behind the left operand: the right one, if it is pending, and the op that combines both
  abbrev pub SecondAt : Call → (owed : ℕ) → (ℕ → List Value → Type 0) → (ℕ → Bool → ℕ → List Value → Type 0) → Right → Binop → TyTree → TExprTree → ℕ → List Value → Type 0
  SecondAt c owed Awaits Turns r o first b at stack =
      (HasAt (K c) at (left_code o owed first (type_of b) ++ (right_code r (value_code p (at + left_len o first (type_of b)) (left_late o owed first (type_of b)) b)
      ++ combine_code p (right_owed r (direct p b) (left_late o owed first (type_of b)) (value_late p b)) r o first (type_of b)))
      × Awaits (at + left_len o first (type_of b) + (right_len r (value_len p b) + combine_len r o first (type_of b))) stack)
      ⊎ ((is_comparison o ≡ true) × (sense : Bool) × (more : ℕ) × (to : ℕ)
      × HasAt (K c) at (right_code r (value_code p at owed b) ++ costing (1 + more + right_owed r (direct p b) owed (value_late p b)) (compare_op r o first sense to) ∷ [])
      × Turns more sense to stack × Turns more (not sense) (at + right_len r (value_len p b) + 1) stack)

  abbrev mutual
    -- What is to be done with a value stands at a place: the value's word is on top of the stack. So many units are
    -- owed.
    pub Awaits : Call → (owed : ℕ) → List Frame → ℕ → List Value → Type 0
    Awaits c owed [] at stack = ⊥
    Awaits c owed (Loads ty ∷ rest) at stack = HasAt (K c) at (costing (1 + owed) (op.Load ty) ∷ []) × Awaits c 0 rest (at + 1) stack
    Awaits c owed (Applies Deref ty ∷ rest) at stack = Awaits c (owed + 1) rest at stack
    Awaits c owed (Applies Addr ty ∷ rest) at stack = Awaits c (owed + 1) rest at stack
    Awaits c owed (Applies Lnot ty ∷ rest) at stack =
        (HasAt (K c) at (unary_code Lnot owed ty) × Awaits c 0 rest (at + 1) stack)
        ⊎ Tested c owed (LnotTurns (λ cost b to below. Turns c rest cost b to below)) at stack
    Awaits c owed (Applies o ty ∷ rest) at stack = HasAt (K c) at (unary_code o owed ty) × Awaits c 0 rest (at + 1) stack
    Awaits c owed (Converts (IntTy i) (IntTy j) ∷ rest) at stack = HasAt (K c) at (costing (1 + owed) (op.Convert i j) ∷ []) × Awaits c 0 rest (at + 1) stack
    Awaits c owed (Converts (PtrTy s) (IntTy j) ∷ rest) at stack =
        (HasAt (K c) at (costing (1 + owed) (op.PtrCompare Ne (right.Number 0)) ∷ []) × Awaits c 0 rest (at + 1) stack)
        ⊎ ComparedAt c owed null_op (λ cost b to below. Turns c rest cost b to below) at stack
    Awaits c owed (Converts from to ∷ rest) at stack = Awaits c (owed + 1) rest at stack
    Awaits c owed (Steps struct member ∷ rest) at stack = HasAt (K c) at (costing (1 + owed) (op.Offset (member_offset p struct member)) ∷ []) × Awaits c 0 rest (at + 1) stack
    Awaits c owed (Second o first b ∷ rest) at stack =
        FitsPair o first (type_of b) × Fits p c.function b
        × SecondAt c owed (λ at stack. Awaits c 0 rest at stack) (λ cost b to below. Turns c rest cost b to below) (right_operand o first b) o first b at stack
    Awaits c owed (Combines o first second v ∷ rest) at stack =
        (below : List Value) × (stack ≡ left_word first second (word_of v) ∷ below) × FitsPair o first second
        × Combined c owed (λ at stack. Awaits c 0 rest at stack) (λ cost b to below. Turns c rest cost b to below) right.Pending o first second at below
    Awaits c owed (Decides o b ∷ rest) at stack =
        Tested c owed (λ cost x to below. (cost ≡ 1) × (is_logical o ≡ true) × DecideTurns c (λ at stack. Awaits c 0 rest at stack) (λ cost b to below. Turns c rest cost b to below) o b (beq x (stops o)) to below) at stack
    Awaits c owed (Truth ∷ rest) at stack = Tested c owed (TruthTurns c (λ at stack. Awaits c 0 rest at stack) (λ cost b to below. Turns c rest cost b to below)) at stack
    Awaits c owed (Arguments g way before more ∷ rest) at stack =
        (below : List Value) × (stack ≡ pushed before below) × FitsAll p c.function more × (length before + 1 + count more ≡ (function_at p g).params)
        × HasAt (K c) at (args_code p at owed way g more) × Awaits c 0 rest (at + args_len p more + 1) below × (is_call way ≡ true)
    Awaits c owed (Tells device register ∷ rest) at stack = HasAt (K c) at (costing (1 + owed) (tell_op device register) ∷ []) × Awaits c 0 rest (at + 1) stack
    Awaits c owed (Spawns g ∷ rest) at stack = HasAt (K c) at (costing (1 + owed) (op.Spawn g) ∷ []) × Awaits c 0 rest (at + 1) stack
    Awaits c owed (Switches ∷ rest) at stack = HasAt (K c) at (costing (1 + owed) op.Switch ∷ []) × Awaits c 0 rest (at + 1) stack
    Awaits c owed (Target ty e ∷ rest) at stack =
        (stack ≡ []) × Fits p c.function e × HasAt (K c) at (value_code p at owed e ++ costing (1 + value_late p e) (assign_op p ty) ∷ []) × Done c rest (at + value_len p e + 1)
    Awaits c owed (Into ty to ∷ rest) at stack =
        ((stack ≡ word_of to ∷ []) × HasAt (K c) at (costing (1 + owed) (assign_op p ty) ∷ []) × Done c rest (at + 1))
        ⊎ ((stack ≡ []) × (n : ℕ) × (to ≡ place_of (c.base + n) 0) × (is_scalar ty ≡ true) × FitsLocal p c.function ty n × HasAt (K c) at (costing (1 + owed) (op.StoreLocal n) ∷ []) × Done c rest (at + 1))
    Awaits c owed (Discards ∷ rest) at stack = (stack ≡ []) × HasAt (K c) at (costing owed op.Drop ∷ []) × Done c rest (at + 1)
    Awaits c owed (Forks s other ∷ rest) at stack =
        Tested c owed (λ cost b to below. (cost ≡ 1) × (below ≡ []) × ForkTurns c (Follows c rest) (Jumps c rest) s other b to) at stack
    Awaits c owed (Tests loop ∷ rest) at stack =
        Tested c owed (λ cost b to below. (cost ≡ 1) × (below ≡ []) × TestTurns c (Follows c rest) (Follows c (Body loop ∷ rest)) (Jumps c (Body loop ∷ rest)) loop b to) at stack
    Awaits c owed (Answers ∷ rest) at stack = (stack ≡ []) × HasAt (K c) at (costing (1 + owed) op.Return ∷ [])
    Awaits c owed (_ ∷ rest) at stack = ⊥

    -- What a truth leads to, by a jump to a place that costs what the steps up to there cost. The stack is the one behind
    -- the jump.
    pub Turns : Call → List Frame → (cost : ℕ) → Bool → ℕ → List Value → Type 0
    Turns c [] cost b to below = ⊥
    Turns c (Applies Lnot ty ∷ rest) cost b to below = LnotTurns (λ cost b to below. Turns c rest cost b to below) cost b to below
    Turns c (Decides o e ∷ rest) cost b to below =
        (cost ≡ 1) × (is_logical o ≡ true) × DecideTurns c (λ at stack. Awaits c 0 rest at stack) (λ cost b to below. Turns c rest cost b to below) o e (beq b (stops o)) to below
    Turns c (Truth ∷ rest) cost b to below = TruthTurns c (λ at stack. Awaits c 0 rest at stack) (λ cost b to below. Turns c rest cost b to below) cost b to below
    Turns c (Forks s other ∷ rest) cost b to below = (cost ≡ 1) × (below ≡ []) × ForkTurns c (Follows c rest) (Jumps c rest) s other b to
    Turns c (Tests loop ∷ rest) cost b to below = (cost ≡ 1) × (below ≡ []) × TestTurns c (Follows c rest) (Follows c (Body loop ∷ rest)) (Jumps c (Body loop ∷ rest)) loop b to
    Turns c (_ ∷ rest) cost b to below = ⊥

  -- ---- what the source knows and the code has not yet

  -- a constant that was given, after so many steps that the op makes
  abbrev pub Kept : Call → (owed w : ℕ) → List Frame → ℕ → List Value → Type 0
  Kept c owed w [] at stack = ⊥
  Kept c owed w (Converts (PtrTy s) (IntTy j) ∷ rest) at stack = ⊥
  Kept c owed w (Converts s t ∷ rest) at stack =
      (HasAt (K c) at (costing (1 + owed) (op.Number (converted_word s t w)) ∷ []) × Awaits c 0 rest (at + 1) stack)
      ⊎ Kept c (owed + 1) (converted_word s t w) rest at stack
  Kept c owed w (Combines o first second v ∷ rest) at stack =
      (below : List Value) × (stack ≡ left_word first second (word_of v) ∷ below) × FitsPair o first second
      × CombinesAt c owed (λ at stack. Awaits c 0 rest at stack) (λ cost b to below. Turns c rest cost b to below) (right.Number (number_in_op first second w)) o first second at below
  Kept c owed w (_ ∷ rest) at stack = ⊥

  -- the step that gives a constant
  abbrev pub Given : Call → (owed w : ℕ) → List Frame → ℕ → List Value → Type 0
  Given c owed w rest at stack =
      (HasAt (K c) at (costing (1 + owed) (op.Number w) ∷ []) × Awaits c 0 rest (at + 1) stack) ⊎ Kept c (owed + 1) w rest at stack

  -- a variable's value, as the right operand in an op
  abbrev pub HeldValue : Call → (owed n : ℕ) → List Frame → ℕ → List Value → Type 0
  HeldValue c owed n (Combines o first second v ∷ rest) at stack =
      (below : List Value) × (stack ≡ left_word first second (word_of v) ∷ below) × FitsPair o first second
      × CombinesAt c owed (λ at stack. Awaits c 0 rest at stack) (λ cost b to below. Turns c rest cost b to below) (right.Local n) o first second at below
  HeldValue c owed n rest at stack = ⊥

  -- the type that is loaded is that of the right operand
  abbrev pub IsRightOf : TyTree → List Frame → Type 0
  IsRightOf ty (Combines o first second v ∷ rest) = second ≡ ty
  IsRightOf ty rest = ⊥

  -- a variable's address, which is loaded from or stored to by one op
  abbrev pub Held : Call → (owed n : ℕ) → List Frame → ℕ → List Value → Type 0
  Held c owed n (Loads ty ∷ rest) at stack =
      FitsLocal p c.function ty n
      × ((HasAt (K c) at (costing (1 + owed) (op.LoadLocal n) ∷ []) × Awaits c 0 rest (at + 1) stack)
      ⊎ (IsRightOf ty rest × HeldValue c (owed + 1) n rest at stack))
  Held c owed n (Target ty e ∷ rest) at stack =
      (stack ≡ []) × (is_scalar ty ≡ true) × FitsLocal p c.function ty n × Fits p c.function e
      × HasAt (K c) at (value_code p at owed e ++ costing (1 + value_late p e) (op.StoreLocal n) ∷ []) × Done c rest (at + value_len p e + 1)
  Held c owed n rest at stack = ⊥

  -- an op that surely goes to a place with a stack
  pub record Surely (memory : List Object) (c : Call) (x : op.Op) (at : ℕ) (stack : List Value) (to : ℕ) (below : List Value) : Type 0 where
    pub runs : (r : Rights) (m : lin.State) (answer : ℕ) → m.memory ≡ memory → m.call ≡ c → lin.perform p r answer m at x stack ≡ lin.goes_to m to below
    pub loads : lin.is_load x ≡ false
    pub crosses : (cs : List Saved) → lin.more_cost x cs ≡ 0

  -- the truth of a value is known, and the code stands at the jump that it leads to
  abbrev pub Judged : List Object → Call → (owed : ℕ) → (ℕ → Bool → ℕ → List Value → Type 0) → Value → ℕ → List Value → Type 0
  Judged memory c owed Turns v at stack =
      (x : op.Op) × (more : ℕ) × (next : ℕ) × (to : ℕ) × (below : List Value)
      × (slice_get (K c) at ≡ Some (costing (more + owed) x)) × Surely memory c x at stack next below × Reaches c next to
      × Turns more (is_true v) to below

  -- the right operand of an op
  abbrev pub RightIs : List Object → Call → (first second : TyTree) → Right → Value → (stack below : List Value) → Type 0
  RightIs memory c first second right.Pending v stack below = stack ≡ right_word first second (word_of v) ∷ below
  RightIs memory c first second (right.Number n) v stack below = (stack ≡ below) × (w : ℕ) × (word_of v ≡ Number w) × (n ≡ number_in_op first second w)
  RightIs memory c first second (right.Local n) v stack below =
      (stack ≡ below) × FitsLocal p c.function second n
      × (place : Place) × (loaded memory second (place_of (c.base + n) 0) ≡ Ok (v, place))

  -- ---- the next step

  -- an op stands at a place, and behind it what is to be done with its value
  abbrev pub OpAt : Call → List Frame → op.Step → ℕ → List Value → Type 0
  OpAt c rest x at stack = HasAt (K c) at (x ∷ []) × Awaits c 0 rest (at + 1) stack

  -- with some words on top of the stack
  abbrev pub TopOp : Call → List Frame → op.Step → List Value → ℕ → List Value → Type 0
  TopOp c rest x top at stack = (below : List Value) × (stack ≡ top ++ below) × OpAt c rest x at below

  -- The source's next step is the op at this place, or it is one that has no op. The source has made so many of those
  -- since the code came there.
  abbrev pub ActAt : List Object → Call → (owed : ℕ) → Act → List Frame → ℕ → List Value → Type 0
  ActAt memory c owed (Push v) rest at stack = (w : ℕ) × (v ≡ Number w) × Given c owed w rest at stack
  ActAt memory c owed (SizeOf ty) rest at stack = Given c owed (size_in p ty) rest at stack
  ActAt memory c owed (GlobalAddress n) rest at stack = OpAt c rest (costing (1 + owed) (op.GlobalAddr n)) at stack
  ActAt memory c owed (LiteralAddress n) rest at stack = OpAt c rest (costing (1 + owed) (op.LiteralAddr n)) at stack
  ActAt memory c owed (LocalAddress n) rest at stack = OpAt c rest (costing (1 + owed) (op.LocalAddr n)) at stack ⊎ Held c (owed + 1) n rest at stack
  ActAt memory c owed (Load ty v) rest at stack =
      TopOp c rest (costing (1 + owed) (op.Load ty)) (word_of v ∷ []) at stack
      ⊎ ((n : ℕ) × (v ≡ place_of (c.base + n) 0) × Held c owed n (Loads ty ∷ rest) at stack)
  ActAt memory c owed (Apply Deref ty v) rest at stack = (below : List Value) × (stack ≡ word_of v ∷ below) × Awaits c (owed + 1) rest at below
  ActAt memory c owed (Apply Addr ty v) rest at stack = (below : List Value) × (stack ≡ word_of v ∷ below) × Awaits c (owed + 1) rest at below
  ActAt memory c owed (Apply Lnot ty v) rest at stack =
      ((below : List Value) × (stack ≡ word_of v ∷ below) × HasAt (K c) at (unary_code Lnot owed ty) × Awaits c 0 rest (at + 1) below)
      ⊎ Judged memory c owed (LnotTurns (λ cost b to below. Turns c rest cost b to below)) v at stack
  ActAt memory c owed (Apply o ty v) rest at stack = (below : List Value) × (stack ≡ word_of v ∷ below) × HasAt (K c) at (unary_code o owed ty) × Awaits c 0 rest (at + 1) below
  ActAt memory c owed (Convert (IntTy i) (IntTy j) v) rest at stack =
      TopOp c rest (costing (1 + owed) (op.Convert i j)) (word_of v ∷ []) at stack
      ⊎ ((w : ℕ) × (word_of v ≡ Number w) × Kept c owed w (Converts (IntTy i) (IntTy j) ∷ rest) at stack)
  ActAt memory c owed (Convert (PtrTy s) (IntTy j) v) rest at stack =
      TopOp c rest (costing (1 + owed) (op.PtrCompare Ne (right.Number 0))) (word_of v ∷ []) at stack
      ⊎ ((below : List Value) × (stack ≡ word_of v ∷ below) × ComparedAt c owed null_op (λ cost b to below. Turns c rest cost b to below) at below)
  ActAt memory c owed (Convert from to v) rest at stack =
      ((below : List Value) × (stack ≡ word_of v ∷ below) × Awaits c (owed + 1) rest at below)
      ⊎ ((w : ℕ) × (word_of v ≡ Number w) × Kept c owed w (Converts from to ∷ rest) at stack)
  ActAt memory c owed (Step struct member v) rest at stack = TopOp c rest (costing (1 + owed) (op.Offset (member_offset p struct member))) (word_of v ∷ []) at stack
  ActAt memory c owed (Combine o first second v w) rest at stack =
      (r : Right) × (below : List Value) × FitsPair o first second × RightIs memory c first second r w stack (left_word first second (word_of v) ∷ below)
      × CombinesAt c owed (λ at stack. Awaits c 0 rest at stack) (λ cost b to below. Turns c rest cost b to below) r o first second at below
  ActAt memory c owed (Decide o e v) rest at stack = Judged memory c owed (λ cost b to below. Turns c (Decides o e ∷ rest) cost b to below) v at stack
  ActAt memory c owed (Judge v) rest at stack = Judged memory c owed (λ cost b to below. Turns c (Truth ∷ rest) cost b to below) v at stack
  ActAt memory c owed (Enter g way values) rest at stack =
      (below : List Value) × (stack ≡ pushed values below) × (length values ≡ (function_at p g).params) × OpAt c rest (call_step p owed way g) at below × (is_call way ≡ true)
  ActAt memory c owed (Ask device register) rest at stack = OpAt c rest (costing (1 + owed) (ask_op device register)) at stack
  ActAt memory c owed (Tell device register v) rest at stack = TopOp c rest (costing (1 + owed) (tell_op device register)) (word_of v ∷ []) at stack
  ActAt memory c owed (Spawn g v) rest at stack = TopOp c rest (costing (1 + owed) (op.Spawn g)) (word_of v ∷ []) at stack
  ActAt memory c owed (Switch v) rest at stack = TopOp c rest (costing (1 + owed) op.Switch) (word_of v ∷ []) at stack
  ActAt memory c owed Self rest at stack = OpAt c rest (costing (1 + owed) op.Me) at stack
  ActAt memory c owed (Store ty to v) rest at stack =
      ((stack ≡ word_of v ∷ (word_of to ∷ [])) × HasAt (K c) at (costing (1 + owed) (op.Store ty) ∷ []) × Done c rest (at + 1))
      ⊎ ((stack ≡ word_of v ∷ []) × (n : ℕ) × (to ≡ place_of (c.base + n) 0) × FitsLocal p c.function ty n × HasAt (K c) at (costing (1 + owed) (op.StoreLocal n) ∷ []) × Done c rest (at + 1))
  ActAt memory c owed (ReadByte ty to v done) rest at stack =
      (done ≡ 0) × (stack ≡ word_of v ∷ (word_of to ∷ [])) × HasAt (K c) at (costing (1 + owed) (op.Copy (size_in p ty)) ∷ []) × Done c rest (at + 1)
  ActAt memory c owed (Branch v s other) rest at stack = Judged memory c owed (λ cost b to below. Turns c (Forks s other ∷ rest) cost b to below) v at stack
  ActAt memory c owed (Test v loop) rest at stack = Judged memory c owed (λ cost b to below. Turns c (Tests loop ∷ rest) cost b to below) v at stack
  ActAt memory c owed (JumpBack loop) rest at stack = (owed ≡ 0) × (stack ≡ []) × BackAt c (Follows c rest) (Jumps c rest) loop at
  ActAt memory c owed Break rest at stack =
      (owed ≡ 0) × (stack ≡ []) × (leave : ℕ) × (again : ℕ) × HasAt (K c) at (costing 1 (op.Jump leave) ∷ []) × Jumps c rest leave again
  ActAt memory c owed Continue rest at stack =
      (owed ≡ 0) × (stack ≡ []) × (leave : ℕ) × (again : ℕ) × HasAt (K c) at (costing 1 (op.Jump again) ∷ []) × Jumps c rest leave again
  ActAt memory c owed (Leave v) rest at stack = (stack ≡ word_of v ∷ []) × HasAt (K c) at (costing (1 + owed) op.Return ∷ [])
  ActAt memory c owed FallOff rest at stack = (owed ≡ 0) × (stack ≡ fall_stack (gives c)) × HasAt (K c) at (costing 1 op.Return ∷ [])
  ActAt memory c owed Stuck rest at stack = Unit {0}
  ActAt memory c owed _ rest at stack = ⊥

  -- a thread's first call has no op
  abbrev pub BeginAt : ℕ → Act → List Frame → ℕ → List Value → Type 0
  BeginAt owed (Enter g First values) rest h words = (owed ≡ 0) × (g ≡ h) × (rest ≡ []) × (words ≡ map word_of values)
  BeginAt owed _ rest h words = ⊥

  abbrev pub CopyAt : Call → (owed : ℕ) → Act → List Frame → ℕ → List Value → ℕ → Value → Value → ℕ → Option Cell → Type 0
  CopyAt c owed (ReadByte ty to v done) rest at stack bytes to2 v2 done2 read =
      (owed ≡ 0) × (stack ≡ []) × (bytes ≡ size_in p ty) × (to2 ≡ word_of to) × (v2 ≡ word_of v) × (done2 ≡ done) × (read ≡ None) × Done c rest (at + 1)
  CopyAt c owed (WriteByte ty to v done cell) rest at stack bytes to2 v2 done2 read =
      (owed ≡ 0) × (stack ≡ []) × (bytes ≡ size_in p ty) × (to2 ≡ word_of to) × (v2 ≡ word_of v) × (done2 ≡ done) × (read ≡ Some cell) × Done c rest (at + 1)
  CopyAt c owed _ rest at stack bytes to2 v2 done2 read = ⊥

  abbrev pub SpotAt : List Object → Call → (owed : ℕ) → Spot → lin.Spot → Type 0
  SpotAt memory c owed (Does now rest) (At place stack) = ActAt memory c owed now rest place stack
  SpotAt memory c owed (Does now rest) (Begins h words) = BeginAt owed now rest h words
  SpotAt memory c owed (Does now rest) (Copies at stack bytes to v done read) = CopyAt c owed now rest at stack bytes to v done read

  -- ---- callers and threads

  -- the callers that wait are the frames' own, and their objects are there
  abbrev pub Leaves : List Place → List Frame → List Saved → Type 0
  Leaves places [] callers = callers ≡ []
  Leaves places (Caller call crosses ∷ rest) callers =
      (at : ℕ) × (stack : List Value) × (more : List Saved) × (callers ≡ record { call = call; crosses = crosses; place = at; stack = stack } ∷ more)
      × Awaits call 0 rest at stack × Knows p places call × Leaves places rest more
  Leaves places (_ ∷ rest) callers = Leaves places rest callers

  abbrev pub BelowAt : List Place → Spot → List Saved → Type 0
  BelowAt places (Does Stuck rest) callers = Unit {0}
  BelowAt places (Does now rest) callers = Leaves places rest callers

  -- before a thread's first call it has no objects
  abbrev pub KnowsAt : List Place → Call → lin.Spot → Type 0
  KnowsAt places c (Begins f values) = Unit {0}
  KnowsAt places c _ = Knows p places c

  -- the spot of the running thread
  abbrev pub Stands : List Object → Call → (owed : ℕ) → Spot → lin.Spot → List Saved → Type 0
  Stands memory c owed spot there callers =
      SpotAt memory c owed spot there × BelowAt (places_of memory) spot callers × KnowsAt (places_of memory) c there

  -- a thread waits behind a switch, or before its first call
  abbrev pub WaitsAt : List Place → Call → Spot → lin.Spot → List Saved → Type 0
  WaitsAt places c spot (At place stack) callers =
      (rest : List Frame) × (below : List Value) × (spot ≡ give Void rest) × (stack ≡ Void ∷ below)
      × Awaits c 0 rest place below × Leaves places rest callers × Knows p places c
  WaitsAt places c spot (Begins f values) callers =
      (v : Value) × (spot ≡ Does (Enter f First (v ∷ [])) []) × (values ≡ word_of v ∷ []) × (callers ≡ [])
  WaitsAt places c spot (Copies at stack bytes to v done read) callers = ⊥

  abbrev pub ThreadAt : List Place → source.Thread → lin.Thread → Type 0
  ThreadAt places source.Running lin.Running = Unit {0}
  ThreadAt places (source.Waiting spot call) (lin.Waiting there other callers) = (other ≡ call) × WaitsAt places call spot there callers
  ThreadAt places source.Ended lin.Ended = Unit {0}
  ThreadAt places _ _ = ⊥

  abbrev pub ThreadsAt : List Place → List source.Thread → List lin.Thread → Type 0
  ThreadsAt places [] [] = Unit {0}
  ThreadsAt places (t ∷ ts) (u ∷ us) = ThreadAt places t u × ThreadsAt places ts us
  ThreadsAt places _ _ = ⊥

  -- the code's state where it has the source's memory, call and number of the thread
  abbrev pub built : source.State → List lin.Thread → List Saved → lin.Spot → lin.State
  built s threads callers there = record { memory = s.memory; threads = threads; current = s.current; call = s.call; callers = callers; spot = there }

  -- the states stand for each other
  pub record Match (owed : ℕ) (s : source.State) (m : lin.State) : Type 0 where
    pub threads : List lin.Thread
    pub callers : List Saved
    pub there : lin.Spot
    pub is : m ≡ built s threads callers there
    pub waiting : ThreadsAt (places_of s.memory) s.threads threads
    pub spot : Stands s.memory s.call owed s.spot there callers
