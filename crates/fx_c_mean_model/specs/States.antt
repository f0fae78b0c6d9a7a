-- The states of a run. A state is the next step that costs something, of the current thread, with what is
-- to be done after it as a list. What costs nothing (going down a tree to its first leaf, entering a block,
-- going on to the next statement, an identity conversion) is no step: the functions here do it at once.
-- Expressions are evaluated as C11 6.5 says, operands and arguments from left to right, which is this
-- project's choice; statements are executed as 6.8 says.
use Rattle.std.specs.Prelude.{ℕ, Bool, true, false, ◌&&◌, nat_eq, List, [], ◌∷◌, ◌++◌, Option, Some, None, if◌then◌else◌}
use mathlib.Core.Bool.{beq}
use Rattle.fx_c_ast.specs.declared.operator.IntType.{IntType}
use Rattle.fx_c_ast.specs.declared.operator.Unop.{Unop}
use Rattle.fx_c_ast.specs.declared.operator.Unop.TheVariants.{Deref, Addr}
use Rattle.fx_c_ast.specs.declared.operator.Binop.{Binop}
use Rattle.fx_c_ast.specs.declared.operator.Binop.TheVariants.{Add, Land, Lor}
use Rattle.fx_c_ast.specs.CheckedTrees.{TyTree, VoidTy, IntTy, StructTy, PtrTy, ArrayTy, TExprTree}
use Rattle.fx_c_ast.specs.CheckedTrees.{ENumber, ELiteral, EGlobal, ELocal, EUn, EBin, ECast}
use Rattle.fx_c_ast.specs.CheckedTrees.{EConvert, ESize, EIndex, EMember, EArrow, ECall, EGate}
use Rattle.fx_c_ast.specs.CheckedTrees.{EGetc, EPutc, EDevLoad, EDevStore, ESpawn, ESwitch, EMe}
use Rattle.fx_c_ast.specs.CheckedTrees.{TExprTrees, NoTExprs, MoreTExprs, TStmtTree, SEmpty, SBlock}
use Rattle.fx_c_ast.specs.CheckedTrees.{SLocal, SEval, SAssign, SIf, SWhile, SFor, SBreak}
use Rattle.fx_c_ast.specs.CheckedTrees.{SContinue, SReturn, TStmtTrees, NoTStmts, MoreTStmts}
use Rattle.fx_c_ast.specs.CheckedTrees.{MaybeTStmt, NoTStmt, OneTStmt}
use Rattle.fx_word_ops.specs.Words.{bit_count}
use Rattle.fx_c_mean_blocks.specs.Integers.{width_of, is_signed}
use Rattle.fx_c_mean_blocks.specs.declared.value.Value.{Value}
use Rattle.fx_c_mean_blocks.specs.declared.value.Value.TheVariants.{Number}
use Rattle.fx_c_mean_blocks.specs.declared.value.Cell.{Cell}

pub data Loop : Type 0 where
  While : (test : TExprTree) (s : TStmtTree) → Loop
  For : (test : Option TExprTree) (next : MaybeTStmt) (s : TStmtTree) → Loop

-- how a function comes to be called: by a call, by a gate, or as a thread's first
pub data Way : Type 0 where
  Plainly : Way
  ByGate : Way
  First : Way

-- a call that goes on: the function, and the object of its first parameter or local
pub record Call : Type 0 where
  pub function : ℕ
  pub base : ℕ

-- What is to be done with a value, or once a statement is done.
pub data Frame : Type 0 where
  -- with a value: load what stands there; apply an operator; convert it; step to a member of a struct
  Loads : (ty : TyTree) → Frame
  Applies : (op : Unop) (ty : TyTree) → Frame
  Converts : (from to : TyTree) → Frame
  Steps : (struct : TyTree) (member : ℕ) → Frame
  -- evaluate the second operand; combine the first one, known, with it
  Second : (op : Binop) (first : TyTree) (b : TExprTree) → Frame
  Combines : (op : Binop) (first second : TyTree) (v : Value) → Frame
  -- `&&` or `||` with its second operand; the second operand's truth
  Decides : (op : Binop) (b : TExprTree) → Frame
  Truth : Frame
  -- further arguments of a call
  Arguments : (f : ℕ) (way : Way) (before : List Value) (more : TExprTrees) → Frame
  -- store it to a device's register; make a thread of a function; switch to a thread
  Tells : (device register : ℕ) → Frame
  Spawns : (f : ℕ) → Frame
  Switches : Frame
  -- evaluate what is assigned; assign it to an object; drop it; choose a branch; test a loop; return it
  Target : (ty : TyTree) (e : TExprTree) → Frame
  Into : (ty : TyTree) (to : Value) → Frame
  Discards : Frame
  Forks : (s : TStmtTree) (other : MaybeTStmt) → Frame
  Tests : (loop : Loop) → Frame
  Answers : Frame
  -- once a statement is done: the next ones of a block; the first test of a loop; after a loop's body;
  -- after the third part of a `for`; the caller, with whether a gate between compartments was called
  Then : (more : TStmtTrees) → Frame
  Enters : (loop : Loop) → Frame
  Body : (loop : Loop) → Frame
  Third : (loop : Loop) → Frame
  Caller : (call : Call) (crosses : Bool) → Frame

-- The next step that costs something.
pub data Act : Type 0 where
  Push : (v : Value) → Act
  SizeOf : (ty : TyTree) → Act
  GlobalAddress : (n : ℕ) → Act
  LiteralAddress : (n : ℕ) → Act
  LocalAddress : (n : ℕ) → Act
  Load : (ty : TyTree) (v : Value) → Act
  Apply : (op : Unop) (ty : TyTree) (v : Value) → Act
  Convert : (from to : TyTree) (v : Value) → Act
  Step : (struct : TyTree) (member : ℕ) (v : Value) → Act
  Combine : (op : Binop) (first second : TyTree) (v w : Value) → Act
  Decide : (op : Binop) (b : TExprTree) (v : Value) → Act
  Judge : (v : Value) → Act
  Enter : (f : ℕ) (way : Way) (values : List Value) → Act
  Ask : (device register : ℕ) → Act
  Tell : (device register : ℕ) (v : Value) → Act
  Spawn : (f : ℕ) (v : Value) → Act
  Switch : (v : Value) → Act
  Self : Act
  Store : (ty : TyTree) (to v : Value) → Act
  -- of the struct copy of a type, with so many bytes copied: the read of a byte, and its write
  ReadByte : (ty : TyTree) (to v : Value) (done : ℕ) → Act
  WriteByte : (ty : TyTree) (to v : Value) (done : ℕ) (cell : Cell) → Act
  Branch : (v : Value) (s : TStmtTree) (other : MaybeTStmt) → Act
  Test : (v : Value) (loop : Loop) → Act
  JumpBack : (loop : Loop) → Act
  Break : Act
  Continue : Act
  Leave : (v : Value) → Act
  FallOff : Act
  -- no program that the checker accepts comes here
  Stuck : Act

pub data Spot : Type 0 where
  Does : (now : Act) (rest : List Frame) → Spot

-- ---- expressions

abbrev pub type_of : TExprTree → TyTree
type_of (ENumber ty v) = ty
type_of (ELiteral ty n) = ty
type_of (EGlobal ty n) = ty
type_of (ELocal ty n) = ty
type_of (EUn ty op e) = ty
type_of (EBin ty op a b) = ty
type_of (ECast ty e) = ty
type_of (EConvert ty e) = ty
type_of (ESize ty t) = ty
type_of (EIndex ty a b) = ty
type_of (EMember ty e n) = ty
type_of (EArrow ty e n) = ty
type_of (ECall ty f all) = ty
type_of (EGate ty f all) = ty
type_of (EGetc ty) = ty
type_of (EPutc ty e) = ty
type_of (EDevLoad ty d r) = ty
type_of (EDevStore ty d r e) = ty
type_of (ESpawn ty f e) = ty
type_of (ESwitch ty e) = ty
type_of (EMe ty) = ty

abbrev pub is_deref : Unop → Bool
is_deref Deref = true
is_deref _ = false

-- lvalues (6.3.2.1)
abbrev pub is_lvalue : TExprTree → Bool
is_lvalue (ELiteral ty n) = true
is_lvalue (EGlobal ty n) = true
is_lvalue (ELocal ty n) = true
is_lvalue (EUn ty op e) = is_deref op
is_lvalue (EIndex ty a b) = true
is_lvalue (EMember ty e n) = true
is_lvalue (EArrow ty e n) = true
is_lvalue _ = false

abbrev pub is_scalar : TyTree → Bool
is_scalar (IntTy i) = true
is_scalar (PtrTy t) = true
is_scalar _ = false

abbrev pub same_integer : IntType → IntType → Bool
same_integer i j = nat_eq (bit_count (width_of i)) (bit_count (width_of j)) && beq (is_signed i) (is_signed j)

abbrev pub same_type : TyTree → TyTree → Bool
same_type VoidTy VoidTy = true
same_type (IntTy i) (IntTy j) = same_integer i j
same_type (StructTy m) (StructTy n) = nat_eq m n
same_type (PtrTy s) (PtrTy t) = same_type s t
same_type (ArrayTy s m) (ArrayTy t n) = same_type s t && nat_eq m n
same_type _ _ = false

abbrev pub pointed : TyTree → TyTree
pointed (PtrTy t) = t
pointed t = t

-- the value of an lvalue of integer or pointer type is loaded where it is wanted (6.3.2.1)
abbrev pub wanted : TExprTree → List Frame → List Frame
wanted e rest = if is_lvalue e && is_scalar (type_of e) then Loads (type_of e) ∷ rest else rest

-- an identity conversion is none
abbrev pub converting : TyTree → TyTree → List Frame → List Frame
converting from to rest = if same_type from to then rest else Converts from to ∷ rest

-- evaluation up to an lvalue's address, or to any other expression's value; it begins with the first leaf
abbrev pub reach : TExprTree → List Frame → Spot
reach (ENumber ty w) rest = Does (Push (Number w)) rest
reach (ELiteral ty n) rest = Does (LiteralAddress n) rest
reach (EGlobal ty n) rest = Does (GlobalAddress n) rest
reach (ELocal ty n) rest = Does (LocalAddress n) rest
reach (EUn ty Addr e) rest = reach e (Applies Addr ty ∷ rest)
reach (EUn ty op e) rest = reach e (wanted e (Applies op (type_of e) ∷ rest))
reach (EBin ty Land a b) rest = reach a (wanted a (Decides Land b ∷ rest))
reach (EBin ty Lor a b) rest = reach a (wanted a (Decides Lor b ∷ rest))
reach (EBin ty op a b) rest = reach a (wanted a (Second op (type_of a) b ∷ rest))
reach (ECast ty e) rest = reach e (wanted e (converting (type_of e) ty rest))
reach (EConvert ty e) rest = reach e (wanted e (converting (type_of e) ty rest))
reach (ESize ty t) rest = Does (SizeOf t) rest
reach (EIndex ty a b) rest = reach a (wanted a (Second Add (type_of a) b ∷ rest))
reach (EMember ty e n) rest = reach e (Steps (type_of e) n ∷ rest)
reach (EArrow ty e n) rest = reach e (wanted e (Steps (pointed (type_of e)) n ∷ rest))
reach (ECall ty f NoTExprs) rest = Does (Enter f Plainly []) rest
reach (ECall ty f (MoreTExprs e more)) rest = reach e (wanted e (Arguments f Plainly [] more ∷ rest))
reach (EGate ty f NoTExprs) rest = Does (Enter f ByGate []) rest
reach (EGate ty f (MoreTExprs e more)) rest = reach e (wanted e (Arguments f ByGate [] more ∷ rest))
reach (EGetc ty) rest = Does (Ask 0 0) rest
reach (EPutc ty e) rest = reach e (wanted e (Tells 0 0 ∷ rest))
reach (EDevLoad ty d r) rest = Does (Ask d r) rest
reach (EDevStore ty d r e) rest = reach e (wanted e (Tells d r ∷ rest))
reach (ESpawn ty f e) rest = reach e (wanted e (Spawns f ∷ rest))
reach (ESwitch ty e) rest = reach e (wanted e (Switches ∷ rest))
reach (EMe ty) rest = Does Self rest

-- evaluation to a value; a struct's value is where it stands
abbrev pub start : TExprTree → List Frame → Spot
start e rest = reach e (wanted e rest)

-- ---- statements

-- A statement begins with its first expression; `done` is the spot once it is done.
abbrev mutual
  pub begin : TStmtTree → List Frame → Spot → Spot
  begin SEmpty rest done = done
  begin (SBlock all) rest done = begin_all all rest done
  begin (SLocal n None) rest done = done
  begin (SLocal n (Some e)) rest done = Does (LocalAddress n) (Target (type_of e) e ∷ rest)
  begin (SEval e) rest done = start e (Discards ∷ rest)
  begin (SAssign to e) rest done = reach to (Target (type_of to) e ∷ rest)
  begin (SIf test s other) rest done = start test (Forks s other ∷ rest)
  begin (SWhile test s) rest done = start test (Tests (While test s) ∷ rest)
  begin (SFor first (Some test) next s) rest done =
      begin_maybe first (Enters (For (Some test) next s) ∷ rest) (start test (Tests (For (Some test) next s) ∷ rest))
  begin (SFor first None next s) rest done =
      begin_maybe first (Enters (For None next s) ∷ rest)
      (begin s (Body (For None next s) ∷ rest) (begin_maybe next (Third (For None next s) ∷ rest) (Does (JumpBack (For None next s)) rest)))
  begin SBreak rest done = Does Break rest
  begin SContinue rest done = Does Continue rest
  begin (SReturn None) rest done = Does FallOff rest
  begin (SReturn (Some e)) rest done = start e (Answers ∷ rest)

  pub begin_maybe : MaybeTStmt → List Frame → Spot → Spot
  begin_maybe NoTStmt rest done = done
  begin_maybe (OneTStmt s) rest done = begin s rest done

  pub begin_all : TStmtTrees → List Frame → Spot → Spot
  begin_all NoTStmts rest done = done
  begin_all (MoreTStmts s more) rest done = begin s (Then more ∷ rest) (begin_all more rest done)

-- after a loop's body: the third part of a `for`, and the jump back
abbrev pub after_body : Loop → List Frame → Spot
after_body (While test s) rest = Does (JumpBack (While test s)) rest
after_body (For test next s) rest = begin_maybe next (Third (For test next s) ∷ rest) (Does (JumpBack (For test next s)) rest)

abbrev pub begin_body : Loop → TStmtTree → List Frame → Spot
begin_body loop s rest = begin s (Body loop ∷ rest) (after_body loop rest)

-- a loop's test; without one its body
abbrev pub begin_loop : Loop → List Frame → Spot
begin_loop (While test s) rest = start test (Tests (While test s) ∷ rest)
begin_loop (For (Some test) next s) rest = start test (Tests (For (Some test) next s) ∷ rest)
begin_loop (For None next s) rest = begin_body (For None next s) s rest

-- what follows a statement
abbrev pub follow : List Frame → Spot
follow [] = Does FallOff []
follow (Then more ∷ rest) = begin_all more rest (follow rest)
follow (Enters loop ∷ rest) = begin_loop loop rest
follow (Body loop ∷ rest) = after_body loop rest
follow (Third loop ∷ rest) = Does (JumpBack loop) rest
follow (Caller call crosses ∷ rest) = Does FallOff (Caller call crosses ∷ rest)
follow (_ ∷ rest) = Does Stuck rest

abbrev pub loop_body : Loop → TStmtTree
loop_body (While test s) = s
loop_body (For test next s) = s

-- what follows the nearest loop
abbrev pub after_loop : List Frame → Spot
after_loop [] = Does Stuck []
after_loop (Body loop ∷ rest) = follow rest
after_loop (Caller call crosses ∷ rest) = Does Stuck rest
after_loop (_ ∷ rest) = after_loop rest

-- where `continue` goes: to the test of a `while`, to the third part of a `for`
abbrev pub continued : Loop → List Frame → Spot
continued (While test s) rest = begin_loop (While test s) rest
continued (For test next s) rest = after_body (For test next s) rest

abbrev pub next_round : List Frame → Spot
next_round [] = Does Stuck []
next_round (Body loop ∷ rest) = continued loop rest
next_round (Caller call crosses ∷ rest) = Does Stuck rest
next_round (_ ∷ rest) = next_round rest

-- the frames of the caller and below
abbrev pub unwind : List Frame → List Frame
unwind [] = []
unwind (Caller call crosses ∷ rest) = Caller call crosses ∷ rest
unwind (_ ∷ rest) = unwind rest

-- a value is stored; a struct is copied byte by byte
abbrev pub assign : TyTree → Value → Value → List Frame → Spot
assign (IntTy i) to v rest = Does (Store (IntTy i) to v) rest
assign (PtrTy t) to v rest = Does (Store (PtrTy t) to v) rest
assign ty to v rest = Does (ReadByte ty to v 0) rest

-- what follows a value
abbrev pub give : Value → List Frame → Spot
give v (Loads ty ∷ rest) = Does (Load ty v) rest
give v (Applies op ty ∷ rest) = Does (Apply op ty v) rest
give v (Converts from to ∷ rest) = Does (Convert from to v) rest
give v (Steps struct member ∷ rest) = Does (Step struct member v) rest
give v (Second op first b ∷ rest) = start b (Combines op first (type_of b) v ∷ rest)
give w (Combines op first second v ∷ rest) = Does (Combine op first second v w) rest
give v (Decides op b ∷ rest) = Does (Decide op b v) rest
give v (Truth ∷ rest) = Does (Judge v) rest
give v (Arguments f way before NoTExprs ∷ rest) = Does (Enter f way (before ++ v ∷ [])) rest
give v (Arguments f way before (MoreTExprs e more) ∷ rest) = start e (Arguments f way (before ++ v ∷ []) more ∷ rest)
give v (Tells device register ∷ rest) = Does (Tell device register v) rest
give v (Spawns f ∷ rest) = Does (Spawn f v) rest
give v (Switches ∷ rest) = Does (Switch v) rest
give v (Target ty e ∷ rest) = start e (Into ty v ∷ rest)
give v (Into ty to ∷ rest) = assign ty to v rest
give v (Discards ∷ rest) = follow rest
give v (Forks s other ∷ rest) = Does (Branch v s other) rest
give v (Tests loop ∷ rest) = Does (Test v loop) rest
give v (Answers ∷ rest) = Does (Leave v) rest
give v (_ ∷ rest) = Does Stuck rest
give v [] = Does Stuck []
