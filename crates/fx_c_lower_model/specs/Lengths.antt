-- How many steps the code of expressions and statements has.
use Rattle.std.specs.Prelude.{ℕ, ◌+◌, Bool, true, false, not, Option, Some, None}
use Rattle.fx_c_ast.specs.declared.operator.Unop.{Unop}
use Rattle.fx_c_ast.specs.declared.operator.Unop.TheVariants.{Lnot}
use Rattle.fx_c_ast.specs.declared.operator.Binop.{Binop}
use Rattle.fx_c_ast.specs.declared.operator.Binop.TheVariants.{Add}
use Rattle.fx_c_ast.specs.CheckedTrees.{TyTree, TExprTree, EUn, EBin, ECast, EConvert, EIndex}
use Rattle.fx_c_ast.specs.CheckedTrees.{EMember, EArrow, ECall, EGate, EPutc, EDevStore, ESpawn}
use Rattle.fx_c_ast.specs.CheckedTrees.{ESwitch, TExprTrees, NoTExprs, MoreTExprs, TStmtTree}
use Rattle.fx_c_ast.specs.CheckedTrees.{SEmpty, SBlock, SLocal, SEval, SAssign, SIf, SWhile, SFor}
use Rattle.fx_c_ast.specs.CheckedTrees.{SBreak, SContinue, SReturn, TStmtTrees, NoTStmts}
use Rattle.fx_c_ast.specs.CheckedTrees.{MoreTStmts, MaybeTStmt, NoTStmt, OneTStmt}
use Rattle.fx_c_mean_model.specs.Programs.{Program}
use Rattle.fx_c_mean_model.specs.States.{type_of, is_scalar}
use Rattle.fx_c_lin.specs.declared.op.Right.{Right}
use Rattle.fx_c_lower_model.specs.Steps.{chosen, is_loaded, load_len, unary_len, takes_value}
use Rattle.fx_c_lower_model.specs.Steps.{cast_len, fall_len, is_logical, stops, is_comparison}
use Rattle.fx_c_lower_model.specs.Steps.{tests_pointer}
use Rattle.fx_c_lower_model.specs.Direct.{Direct, Constant, Whole, Other, direct, whole_local}
use Rattle.fx_c_lower_model.specs.Direct.{right_of, right_len}
use Rattle.fx_c_lower_model.specs.Operands.{left_len, combine_len, test_len}

abbrev pub value_len_by : Direct → ℕ → ℕ
value_len_by Other len = len
value_len_by d len = 1

-- of two operands and what combines them
abbrev pub binary_len : Binop → TyTree → TyTree → Right → (first second : ℕ) → ℕ
binary_len o s t r first second =
    first + (left_len o s t + (right_len r second + combine_len r o s t))

abbrev mutual
  -- up to an lvalue's address or to any other expression's value
  pub reach_len : Program → TExprTree → ℕ
  reach_len p (EUn ty o e) =
      chosen (takes_value o) (value_len_by (direct p e) (reach_len p e + load_len (is_loaded e)))
      (reach_len p e)
      + unary_len o
  reach_len p (EBin ty o a b) =
      chosen (is_logical o)
      (jump_len p (stops o) a (value_len_by (direct p a) (reach_len p a + load_len (is_loaded a)))
      +
      (jump_len p false b (value_len_by (direct p b) (reach_len p b + load_len (is_loaded b)))
      + 3))
      (binary_len o (type_of a) (type_of b) (right_of o (type_of a) (type_of b) (direct p b))
      (value_len_by (direct p a) (reach_len p a + load_len (is_loaded a)))
      (value_len_by (direct p b) (reach_len p b + load_len (is_loaded b))))
  reach_len p (ECast ty e) =
      value_len_by (direct p e) (reach_len p e + load_len (is_loaded e)) + cast_len (type_of e) ty
  reach_len p (EConvert ty e) =
      value_len_by (direct p e) (reach_len p e + load_len (is_loaded e)) + cast_len (type_of e) ty
  reach_len p (EIndex ty a b) =
      binary_len Add (type_of a) (type_of b) (right_of Add (type_of a) (type_of b) (direct p b))
      (value_len_by (direct p a) (reach_len p a + load_len (is_loaded a)))
      (value_len_by (direct p b) (reach_len p b + load_len (is_loaded b)))
  reach_len p (EMember ty e n) = reach_len p e + 1
  reach_len p (EArrow ty e n) =
      value_len_by (direct p e) (reach_len p e + load_len (is_loaded e)) + 1
  reach_len p (ECall ty f all) = args_len p all + 1
  reach_len p (EGate ty f all) = args_len p all + 1
  reach_len p (EPutc ty e) = value_len_by (direct p e) (reach_len p e + load_len (is_loaded e)) + 1
  reach_len p (EDevStore ty d r e) =
      value_len_by (direct p e) (reach_len p e + load_len (is_loaded e)) + 1
  reach_len p (ESpawn ty f e) =
      value_len_by (direct p e) (reach_len p e + load_len (is_loaded e)) + 1
  reach_len p (ESwitch ty e) =
      value_len_by (direct p e) (reach_len p e + load_len (is_loaded e)) + 1
  reach_len p _ = 1

  -- a condition that jumps where its truth is this; the code of its value has the length that is given
  pub jump_len : Program → Bool → TExprTree → ℕ → ℕ
  jump_len p sense (EUn ty Lnot e) len =
      jump_len p (not sense) e (value_len_by (direct p e) (reach_len p e + load_len (is_loaded e)))
  jump_len p sense (EBin ty o a b) len =
      chosen (is_logical o)
      (jump_len p (not (stops o)) a
      (value_len_by (direct p a) (reach_len p a + load_len (is_loaded a)))
      +
      (1
      + jump_len p sense b
      (value_len_by (direct p b) (reach_len p b + load_len (is_loaded b)))))
      (chosen (is_comparison o)
      (value_len_by (direct p a) (reach_len p a + load_len (is_loaded a))
      +
      (right_len (right_of o (type_of a) (type_of b) (direct p b))
      (value_len_by (direct p b) (reach_len p b + load_len (is_loaded b)))
      + 1))
      (len + test_len sense))
  jump_len p sense (EConvert ty e) len =
      chosen (tests_pointer (type_of e) ty)
      (value_len_by (direct p e) (reach_len p e + load_len (is_loaded e)) + 1)
      (len + test_len sense)
  jump_len p sense e len = len + test_len sense

  pub args_len : Program → TExprTrees → ℕ
  args_len p NoTExprs = 0
  args_len p (MoreTExprs e more) =
      value_len_by (direct p e) (reach_len p e + load_len (is_loaded e)) + args_len p more

abbrev pub value_len : Program → TExprTree → ℕ
value_len p e = value_len_by (direct p e) (reach_len p e + load_len (is_loaded e))

-- a condition that jumps where it is false
abbrev pub condition_len : Program → TExprTree → ℕ
condition_len p e = jump_len p false e (value_len p e)

-- ---- statements

-- an assignment, whose target's code has this length, to a whole variable or by an address
abbrev pub assign_len : Option ℕ → (to value : ℕ) → ℕ
assign_len (Some n) to value = value + 1
assign_len None to value = to + (value + 1)

abbrev pub maybe_condition_len : Program → Option TExprTree → ℕ
maybe_condition_len p None = 0
maybe_condition_len p (Some e) = condition_len p e

-- a declaration with a value is the assignment of that value to the variable
abbrev pub local_len : Program → Option TExprTree → ℕ
local_len p None = 0
local_len p (Some e) = chosen (is_scalar (type_of e)) (value_len p e + 1) (1 + (value_len p e + 1))

abbrev pub return_len : Program → TyTree → Option TExprTree → ℕ
return_len p gives None = fall_len gives
return_len p gives (Some e) = value_len p e + 1

abbrev pub else_len : MaybeTStmt → ℕ
else_len NoTStmt = 0
else_len (OneTStmt s) = 1

abbrev mutual
  pub stmt_len : Program → TyTree → TStmtTree → ℕ
  stmt_len p gives SEmpty = 0
  stmt_len p gives (SBlock all) = stmts_len p gives all
  stmt_len p gives (SLocal n init) = local_len p init
  stmt_len p gives (SEval e) = value_len p e + 1
  stmt_len p gives (SAssign to e) = assign_len (whole_local to) (reach_len p to) (value_len p e)
  stmt_len p gives (SIf test s other) =
      condition_len p test + (stmt_len p gives s + (else_len other + maybe_len p gives other))
  stmt_len p gives (SWhile test s) = condition_len p test + (stmt_len p gives s + 1)
  stmt_len p gives (SFor first test next s) =
      maybe_len p gives first
      + (maybe_condition_len p test + (stmt_len p gives s + (maybe_len p gives next + 1)))
  stmt_len p gives SBreak = 1
  stmt_len p gives SContinue = 1
  stmt_len p gives (SReturn e) = return_len p gives e

  pub maybe_len : Program → TyTree → MaybeTStmt → ℕ
  maybe_len p gives NoTStmt = 0
  maybe_len p gives (OneTStmt s) = stmt_len p gives s

  pub stmts_len : Program → TyTree → TStmtTrees → ℕ
  stmts_len p gives NoTStmts = 0
  stmts_len p gives (MoreTStmts s more) = stmt_len p gives s + stmts_len p gives more
