-- The length of code.
use Rattle.std.proofs.Common.{◌≡◌, Bool, true, false, not, ℕ, ◌+◌, List, [], ◌∷◌, ◌++◌, length, Option, Some, None, refl, ◌∙◌, arith, length-append}
use mathlib.Core.Bool.{beq}
use Rattle.fx_c_ast.specs.declared.operator.IntType.{IntType}
use Rattle.fx_c_ast.specs.declared.operator.IntType.TheVariants.{Long, Ulong}
use Rattle.fx_c_ast.specs.declared.operator.Unop.{Unop}
use Rattle.fx_c_ast.specs.declared.operator.Unop.TheVariants.{Lnot, Deref, Addr}
use Rattle.fx_c_ast.specs.declared.operator.Binop.{Binop}
use Rattle.fx_c_ast.specs.declared.operator.Binop.TheVariants.{Add, Sub}
use Rattle.fx_c_ast.specs.CheckedTrees.{TyTree, IntTy, PtrTy, TExprTree, ELocal, EUn, EBin, ECast, EConvert, EIndex, EMember, EArrow, ECall, EGate, EPutc, EDevStore, ESpawn, ESwitch, TExprTrees, NoTExprs, MoreTExprs, TStmtTree, SEmpty, SBlock, SLocal, SEval, SAssign, SIf, SWhile, SFor, SBreak, SContinue, SReturn, TStmtTrees, NoTStmts, MoreTStmts, MaybeTStmt, NoTStmt, OneTStmt}
use Rattle.fx_c_mean_model.specs.Programs.{Program}
use Rattle.fx_c_mean_model.specs.States.{Way, Plainly, ByGate, type_of, same_type, is_scalar}
use Rattle.fx_c_lin.specs.declared.op.Right.{Right}
use Rattle.fx_c_lin.specs.declared.op.Right.TheVariants as right
use Rattle.fx_c_lin.specs.Ops.{Step}
use Rattle.fx_c_lin.specs.Ops as op
use Rattle.fx_c_lower_model.specs.Steps.{costing, chosen, load_code, load_len, unary_code, unary_len, convert_code, convert_len, cast_code, cast_len, widening, widening_len, fall_code, fall_len, is_logical, is_comparison, stops, tests_pointer}
use Rattle.fx_c_lower_model.specs.Direct.{Direct, Constant, Whole, Other, direct, whole_local, right_len}
use Rattle.fx_c_lower_model.specs.Operands.{left_code, left_len, move_code, move_len, pointers_code, combine_code, combine_len, test_code, test_len}
use Rattle.fx_c_lower_model.specs.Late.{value_late}
use Rattle.fx_c_lower_model.specs.Lengths.{value_len_by, binary_len, reach_len, jump_len, args_len, value_len, condition_len, assign_len, maybe_condition_len, local_len, return_len, else_len, stmt_len, maybe_len, stmts_len}
use Rattle.fx_c_lower_model.specs.Code.{value_by, right_code, right_operand, binary_code, compare_code, reach_code, jump_code, args_code, value_code, condition_code, assign_code, local_code, return_code, else_jump, maybe_condition_code, stmt_code, maybe_code, stmts_code}

pub two : (xs ys : List Step) (m n : ℕ) → length xs ≡ m → length ys ≡ n → length (xs ++ ys) ≡ m + n
two xs ys m n e f = omega (arith, length-append xs ys, e, f)

one : (x : Step) (xs : List Step) (n : ℕ) → length xs ≡ n → length (x ∷ xs) ≡ 1 + n
one x xs n e = omega (arith, e)

either : (b : Bool) (xs ys : List Step) (m n : ℕ) → length xs ≡ m → length ys ≡ n → length (chosen b xs ys) ≡ chosen b m n
either true xs ys m n e f = e
either false xs ys m n e f = f

-- ---- pieces

pub length_load : (b : Bool) (owed : ℕ) (ty : TyTree) → length (load_code b owed ty) ≡ load_len b
length_load true owed ty = refl
length_load false owed ty = refl

pub length_value : (d : Direct) (owed : ℕ) (xs : List Step) (b : Bool) (owes : ℕ) (ty : TyTree) (m : ℕ) → length xs ≡ m → length (value_by d owed xs b owes ty) ≡ value_len_by d (m + load_len b)
length_value (Constant w cost) owed xs b owes ty m e = refl
length_value (Whole n) owed xs b owes ty m e = refl
length_value Other owed xs b owes ty m e = two xs _ m _ e (length_load b owes ty)

length_unary : (o : Unop) (owed : ℕ) (ty : TyTree) → length (unary_code o owed ty) ≡ unary_len o
length_unary Deref owed ty = refl
length_unary Addr owed ty = refl
length_unary o owed ty = refl

length_convert : (owed : ℕ) (s t : TyTree) → length (convert_code owed s t) ≡ convert_len s t
length_convert owed (IntTy i) (IntTy j) = refl
length_convert owed (PtrTy s) (IntTy j) = refl
length_convert owed s t = refl

pub length_cast : (owed : ℕ) (s t : TyTree) → length (cast_code owed s t) ≡ cast_len s t
length_cast owed s t = either (same_type s t) [] _ 0 _ refl (length_convert owed s t)

length_widening : (owed : ℕ) (i : IntType) → length (widening owed i) ≡ widening_len i
length_widening owed Long = refl
length_widening owed Ulong = refl
length_widening owed i = refl

pub length_left : (o : Binop) (owed : ℕ) (s t : TyTree) → length (left_code o owed s t) ≡ left_len o s t
length_left Add owed (IntTy i) (PtrTy t) = length_widening owed i
length_left o owed s t = refl

length_move : (owed : ℕ) (r : Right) (o : Binop) (bytes : ℕ) (i : IntType) → length (move_code owed r o bytes i) ≡ move_len r o i
length_move owed right.Pending Add bytes i = two _ _ _ _ (length_widening owed i) refl
length_move owed r Add bytes i = refl
length_move owed r Sub bytes i = two _ _ _ _ (length_widening owed i) refl
length_move owed r o bytes i = refl

length_pointers : (owed : ℕ) (r : Right) (o : Binop) (bytes : ℕ) → length (pointers_code owed r o bytes) ≡ 1
length_pointers owed r Sub bytes = refl
length_pointers owed r o bytes = refl

pub length_combine : (p : Program) (owed : ℕ) (r : Right) (o : Binop) (s t : TyTree) → length (combine_code p owed r o s t) ≡ combine_len r o s t
length_combine p owed r o (IntTy i) (IntTy j) = refl
length_combine p owed r o (PtrTy t) (IntTy i) = length_move owed r o _ i
length_combine p owed r o (IntTy i) (PtrTy t) = refl
length_combine p owed r o (PtrTy s) (PtrTy t) = length_pointers owed r o _
length_combine p owed r o s t = refl

pub length_right : (r : Right) (xs : List Step) (n : ℕ) → length xs ≡ n → length (right_code r xs) ≡ right_len r n
length_right right.Pending xs n e = e
length_right r xs n e = refl

pub length_test : (at cost : ℕ) (sense : Bool) (to : ℕ) → length (test_code at cost sense to) ≡ test_len sense
length_test at cost true to = refl
length_test at cost false to = refl

length_binary : (p : Program) (o : Binop) (a b : TExprTree) (xs ys : List Step) (m n : ℕ) → length xs ≡ m → length ys ≡ n → length (binary_code p o a b xs ys) ≡ binary_len o (type_of a) (type_of b) (right_operand p o a b) m n
length_binary p o a b xs ys m n e f =
    two xs _ m _ e (two _ _ _ _ (length_left o _ (type_of a) (type_of b)) (two _ _ _ _ (length_right (right_operand p o a b) ys n f) (length_combine p _ (right_operand p o a b) o (type_of a) (type_of b))))

length_compare : (p : Program) (more : ℕ) (sense : Bool) (to : ℕ) (o : Binop) (a b : TExprTree) (xs ys : List Step) (m n : ℕ) → length xs ≡ m → length ys ≡ n → length (compare_code p more sense to o a b xs ys) ≡ m + (right_len (right_operand p o a b) n + 1)
length_compare p more sense to o a b xs ys m n e f = two xs _ m _ e (two _ _ _ _ (length_right (right_operand p o a b) ys n f) refl)

-- ---- expressions

mutual
  pub reach_length : (p : Program) (at owed : ℕ) (e : TExprTree) → length (reach_code p at owed e) ≡ reach_len p e
  reach_length p at owed (EUn ty Addr e) = omega (arith, reach_length p at owed e)
  reach_length p at owed (EUn ty o e) = two _ _ _ _ (length_value (direct p e) owed _ _ _ _ _ (reach_length p at owed e)) (length_unary o (value_late p e) (type_of e))
  reach_length p at owed (EBin ty o a b) =
      either (is_logical o) _ _ _ _
      (two _ _ _ _ (jump_length p at owed _ _ _ a _ _ (length_value (direct p a) owed _ _ _ _ _ (reach_length p at owed a)))
      (two _ _ _ _ (jump_length p _ _ _ _ _ b _ _ (length_value (direct p b) _ _ _ _ _ _ (reach_length p _ _ b))) refl))
      (length_binary p o a b _ _ _ _ (length_value (direct p a) owed _ _ _ _ _ (reach_length p at owed a)) (length_value (direct p b) _ _ _ _ _ _ (reach_length p _ _ b)))
  reach_length p at owed (ECast ty e) = two _ _ _ _ (length_value (direct p e) owed _ _ _ _ _ (reach_length p at owed e)) (length_cast _ (type_of e) ty)
  reach_length p at owed (EConvert ty e) = two _ _ _ _ (length_value (direct p e) owed _ _ _ _ _ (reach_length p at owed e)) (length_cast _ (type_of e) ty)
  reach_length p at owed (EIndex ty a b) =
      length_binary p Add a b _ _ _ _ (length_value (direct p a) owed _ _ _ _ _ (reach_length p at owed a)) (length_value (direct p b) _ _ _ _ _ _ (reach_length p _ _ b))
  reach_length p at owed (EMember ty e n) = two _ _ _ _ (reach_length p at owed e) refl
  reach_length p at owed (EArrow ty e n) = two _ _ _ _ (length_value (direct p e) owed _ _ _ _ _ (reach_length p at owed e)) refl
  reach_length p at owed (ECall ty f all) = args_length p at owed Plainly f all
  reach_length p at owed (EGate ty f all) = args_length p at owed ByGate f all
  reach_length p at owed (EPutc ty e) = two _ _ _ _ (length_value (direct p e) owed _ _ _ _ _ (reach_length p at owed e)) refl
  reach_length p at owed (EDevStore ty d r e) = two _ _ _ _ (length_value (direct p e) owed _ _ _ _ _ (reach_length p at owed e)) refl
  reach_length p at owed (ESpawn ty f e) = two _ _ _ _ (length_value (direct p e) owed _ _ _ _ _ (reach_length p at owed e)) refl
  reach_length p at owed (ESwitch ty e) = two _ _ _ _ (length_value (direct p e) owed _ _ _ _ _ (reach_length p at owed e)) refl
  reach_length p at owed _ = refl

  pub jump_length : (p : Program) (at owed more : ℕ) (sense : Bool) (to : ℕ) (e : TExprTree) (value : List Step) (len : ℕ) → length value ≡ len → length (jump_code p at owed more sense to e value) ≡ jump_len p sense e len
  jump_length p at owed more sense to (EUn ty Lnot e) value len h =
      jump_length p at owed _ (not sense) to e _ _ (length_value (direct p e) owed _ _ _ _ _ (reach_length p at owed e))
  jump_length p at owed more sense to (EBin ty o a b) value len h =
      either (is_logical o) _ _ _ _
      (two _ _ _ _ (jump_length p at owed _ _ _ a _ _ (length_value (direct p a) owed _ _ _ _ _ (reach_length p at owed a)))
      (one (costing more (op.Jump (chosen (beq sense (stops o)) to (at + jump_len p (not (stops o)) a (value_len p a) + 1 + jump_len p sense b (value_len p b))))) _ _ (jump_length p _ _ _ sense to b _ _ (length_value (direct p b) _ _ _ _ _ _ (reach_length p _ _ b)))))
      (either (is_comparison o) _ _ _ _
      (length_compare p more sense to o a b _ _ _ _ (length_value (direct p a) owed _ _ _ _ _ (reach_length p at owed a)) (length_value (direct p b) _ _ _ _ _ _ (reach_length p _ _ b)))
      (two value _ len _ h (length_test _ _ sense to)))
  jump_length p at owed more sense to (EConvert ty e) value len h =
      either (tests_pointer (type_of e) ty) _ _ _ _
      (two _ _ _ _ (length_value (direct p e) owed _ _ _ _ _ (reach_length p at owed e)) refl)
      (two value _ len _ h (length_test _ _ sense to))
  jump_length p at owed more sense to e value len h = two value _ len _ h (length_test _ _ sense to)

  pub args_length : (p : Program) (at owed : ℕ) (way : Way) (f : ℕ) (all : TExprTrees) → length (args_code p at owed way f all) ≡ args_len p all + 1
  args_length p at owed way f NoTExprs = refl
  args_length p at owed way f (MoreTExprs e more) =
      two _ _ _ _ (length_value (direct p e) owed _ _ _ _ _ (reach_length p at owed e)) (args_length p _ _ way f more) ∙ omega arith

pub value_length : (p : Program) (at owed : ℕ) (e : TExprTree) → length (value_code p at owed e) ≡ value_len p e
value_length p at owed e = length_value (direct p e) owed _ _ _ _ _ (reach_length p at owed e)

pub condition_length : (p : Program) (at to : ℕ) (e : TExprTree) → length (condition_code p at to e) ≡ condition_len p e
condition_length p at to e = jump_length p at 0 1 false to e _ _ (value_length p at 0 e)

-- ---- statements

pub assign_length : (p : Program) (at : ℕ) (x : Option ℕ) (to e : TExprTree) → length (assign_code p at x to e) ≡ assign_len x (reach_len p to) (value_len p e)
assign_length p at (Some n) to e = two _ _ _ _ (value_length p at 1 e) refl
assign_length p at None to e = two _ _ _ _ (reach_length p at 0 to) (two _ _ _ _ (value_length p _ _ e) refl)

pub local_length : (p : Program) (at n : ℕ) (init : Option TExprTree) → length (local_code p at n init) ≡ local_len p init
local_length p at n None = refl
local_length p at n (Some e) = by (is_scalar (type_of e)) where
  by : (b : Bool) → length (assign_code p at (chosen b (Some n) None) (ELocal (type_of e) n) e) ≡ chosen b (value_len p e + 1) (1 + (value_len p e + 1))
  by true = assign_length p at (Some n) (ELocal (type_of e) n) e
  by false = assign_length p at None (ELocal (type_of e) n) e

pub length_fall : (g : TyTree) → length (fall_code g) ≡ fall_len g
length_fall (IntTy i) = refl
length_fall (PtrTy t) = refl
length_fall g = refl

pub return_length : (p : Program) (g : TyTree) (at : ℕ) (e : Option TExprTree) → length (return_code p g at e) ≡ return_len p g e
return_length p g at None = length_fall g
return_length p g at (Some e) = two _ _ _ _ (value_length p at 0 e) refl

pub length_else : (other : MaybeTStmt) (exit : ℕ) → length (else_jump other exit) ≡ else_len other
length_else NoTStmt exit = refl
length_else (OneTStmt s) exit = refl

pub maybe_condition_length : (p : Program) (at exit : ℕ) (test : Option TExprTree) → length (maybe_condition_code p at exit test) ≡ maybe_condition_len p test
maybe_condition_length p at exit None = refl
maybe_condition_length p at exit (Some e) = condition_length p at exit e

mutual
  pub stmt_length : (p : Program) (g : TyTree) (at exit leave again : ℕ) (s : TStmtTree) → length (stmt_code p g at exit leave again s) ≡ stmt_len p g s
  stmt_length p g at exit leave again SEmpty = refl
  stmt_length p g at exit leave again (SBlock all) = stmts_length p g at exit leave again all
  stmt_length p g at exit leave again (SLocal n init) = local_length p at n init
  stmt_length p g at exit leave again (SEval e) = two _ _ _ _ (value_length p at 0 e) refl
  stmt_length p g at exit leave again (SAssign to e) = assign_length p at (whole_local to) to e
  stmt_length p g at exit leave again (SIf test s other) =
      two _ _ _ _ (condition_length p at _ test) (two _ _ _ _ (stmt_length p g _ exit leave again s) (two _ _ _ _ (length_else other exit) (maybe_length p g _ exit leave again other)))
  stmt_length p g at exit leave again (SWhile test s) = two _ _ _ _ (condition_length p at exit test) (two _ _ _ _ (stmt_length p g _ _ exit at s) refl)
  stmt_length p g at exit leave again (SFor first test next s) =
      two _ _ _ _ (maybe_length p g at _ leave again first)
      (two _ _ _ _ (maybe_condition_length p _ exit test) (two _ _ _ _ (stmt_length p g _ _ exit _ s) (two _ _ _ _ (maybe_length p g _ _ leave again next) refl)))
  stmt_length p g at exit leave again SBreak = refl
  stmt_length p g at exit leave again SContinue = refl
  stmt_length p g at exit leave again (SReturn e) = return_length p g at e

  pub maybe_length : (p : Program) (g : TyTree) (at exit leave again : ℕ) (s : MaybeTStmt) → length (maybe_code p g at exit leave again s) ≡ maybe_len p g s
  maybe_length p g at exit leave again NoTStmt = refl
  maybe_length p g at exit leave again (OneTStmt s) = stmt_length p g at exit leave again s

  pub stmts_length : (p : Program) (g : TyTree) (at exit leave again : ℕ) (all : TStmtTrees) → length (stmts_code p g at exit leave again all) ≡ stmts_len p g all
  stmts_length p g at exit leave again NoTStmts = refl
  stmts_length p g at exit leave again (MoreTStmts s more) = two _ _ _ _ (stmt_length p g at _ leave again s) (stmts_length p g _ exit leave again more)
