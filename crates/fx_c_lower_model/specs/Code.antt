-- The linear code of a checked program.
--
-- Costs: a step of the source that has no op of its own (`*`, `&`, a conversion between pointers) is owed by the op
-- that follows. `owed` is passed in to the first op of an expression, and `late` says what is owed behind its last one.
-- An op that stands for several steps (a number with its conversions, a local variable's value, an op with its right
-- operand in it) costs what they cost.
-- Places: each piece is told where it stands (`at`), and a statement where it leads to (`exit`), where `break` leads to
-- (`leave`) and where `continue` leads to (`again`). A condition is told where it jumps to and at which truth (`sense`).
use Rattle.std.specs.Prelude.{ℕ, zero, suc, ◌+◌, ◌/◌, Bool, true, false, not, List, [], ◌∷◌, ◌++◌}
use Rattle.std.specs.Prelude.{map, Option, Some, None}
use mathlib.Core.Bool.{beq}
use Rattle.fx_c_ast.specs.declared.operator.Unop.{Unop}
use Rattle.fx_c_ast.specs.declared.operator.Unop.TheVariants.{Lnot}
use Rattle.fx_c_ast.specs.declared.operator.Binop.{Binop}
use Rattle.fx_c_ast.specs.declared.operator.Binop.TheVariants.{Add, Ne}
use Rattle.fx_c_ast.specs.CheckedTrees.{TyTree, TExprTree, ENumber, ELiteral, EGlobal, ELocal, EUn}
use Rattle.fx_c_ast.specs.CheckedTrees.{EBin, ECast, EConvert, ESize, EIndex, EMember, EArrow}
use Rattle.fx_c_ast.specs.CheckedTrees.{ECall, EGate, EGetc, EPutc, EDevLoad, EDevStore, ESpawn}
use Rattle.fx_c_ast.specs.CheckedTrees.{ESwitch, EMe, TExprTrees, NoTExprs, MoreTExprs, TStmtTree}
use Rattle.fx_c_ast.specs.CheckedTrees.{SEmpty, SBlock, SLocal, SEval, SAssign, SIf, SWhile, SFor}
use Rattle.fx_c_ast.specs.CheckedTrees.{SBreak, SContinue, SReturn, TStmtTrees, NoTStmts}
use Rattle.fx_c_ast.specs.CheckedTrees.{MoreTStmts, MaybeTStmt, NoTStmt, OneTStmt}
use Rattle.fx_c_mean_model.specs.Programs.{Program, Function, function_at, size_in}
use Rattle.fx_c_mean_model.specs.States.{Way, Plainly, ByGate, First, type_of, pointed}
use Rattle.fx_c_lin.specs.declared.op.Right.{Right}
use Rattle.fx_c_lin.specs.declared.op.Right.TheVariants as right
use Rattle.fx_c_lin.specs.declared.op.Compared.TheVariants.{Pointers}
use Rattle.fx_c_lin.specs.Ops.{Op, Step}
use Rattle.fx_c_lin.specs.Ops as op
use Rattle.fx_c_lower_model.specs.Steps.{costing, free, chosen, is_loaded, load_code, unary_code}
use Rattle.fx_c_lower_model.specs.Steps.{takes_value, cast_code, member_offset, assign_op}
use Rattle.fx_c_lower_model.specs.Steps.{fall_code, tell_op, ask_op, is_logical, stops}
use Rattle.fx_c_lower_model.specs.Steps.{is_comparison, jumping, compared, tests_pointer}
use Rattle.fx_c_lower_model.specs.Direct.{Direct, Constant, Whole, Other, direct, whole_local}
use Rattle.fx_c_lower_model.specs.Direct.{right_of, right_owed, right_len}
use Rattle.fx_c_lower_model.specs.Operands.{left_code, left_len, left_late, combine_code}
use Rattle.fx_c_lower_model.specs.Operands.{truth_code, test_code}
use Rattle.fx_c_lower_model.specs.Late.{late, value_late}
use Rattle.fx_c_lower_model.specs.Lengths.{reach_len, jump_len, value_len, condition_len}
use Rattle.fx_c_lower_model.specs.Lengths.{maybe_condition_len, stmt_len, maybe_len, stmts_len}

-- ---- pieces, told the code of the expressions in them

-- the value of an expression whose code up to an lvalue's address, or to any other value, is this
abbrev pub value_by : Direct → ℕ → List Step → Bool → ℕ → TyTree → List Step
value_by (Constant w cost) owed reached loads owes ty = costing (cost + owed) (op.Number w) ∷ []
value_by (Whole n) owed reached loads owes ty = costing (2 + owed) (op.LoadLocal n) ∷ []
value_by Other owed reached loads owes ty = reached ++ load_code loads owes ty

abbrev pub right_code : Right → List Step → List Step
right_code right.Pending code = code
right_code r code = []

abbrev pub call_op : Way → ℕ → Op
call_op ByGate f = op.Gate f
call_op way f = op.Call f

abbrev pub call_step : Program → ℕ → Way → ℕ → Step
call_step p owed way f = costing (1 + owed + (function_at p f).frame / 8) (call_op way f)

-- the right operand of an operator
abbrev pub right_operand : Program → Binop → (a b : TExprTree) → Right
right_operand p o a b = right_of o (type_of a) (type_of b) (direct p b)

-- what is owed where the second operand begins, and where it stands
abbrev pub second_owed : Program → Binop → (a b : TExprTree) → ℕ
second_owed p o a b = left_late o (value_late p a) (type_of a) (type_of b)

abbrev pub second_at : Program → ℕ → Binop → (a b : TExprTree) → ℕ
second_at p at o a b = at + value_len p a + left_len o (type_of a) (type_of b)

-- two operands, whose codes these are, and the op that combines them
abbrev pub binary_code : Program → Binop → (a b : TExprTree) → (first second : List Step)
    → List Step
binary_code p o a b first second =
    first ++ (left_code o (value_late p a) (type_of a) (type_of b)
    ++ (right_code (right_operand p o a b) second
    ++ combine_code p
    (right_owed (right_operand p o a b) (direct p b) (second_owed p o a b) (value_late p b))
    (right_operand p o a b) o (type_of a) (type_of b)))

-- a comparison that goes to a place where its truth is `sense`, at the cost of the comparison and of the test
abbrev pub compare_code : Program → (more : ℕ) → Bool → (to : ℕ) → Binop → (a b : TExprTree)
    → (first second : List Step) → List Step
compare_code p more sense to o a b first second =
    first ++ (right_code (right_operand p o a b) second
    ++ costing
    (1 + more
    + right_owed (right_operand p o a b) (direct p b) (value_late p a) (value_late p b))
    (op.CompareJump (jumping sense o) (compared (type_of a)) (right_operand p o a b) to)
    ∷ [])

-- where the first operand of `&&` or `||` leads to that decides: to the 1 or to the 0 behind the second one
abbrev pub decided_at : Bool → ℕ → ℕ
decided_at true ones = ones
decided_at false ones = ones + 2

-- ---- expressions

abbrev mutual
  -- up to an lvalue's address or to any other expression's value
  pub reach_code : Program → (at owed : ℕ) → TExprTree → List Step
  reach_code p at owed (ENumber ty w) = costing (1 + owed) (op.Number w) ∷ []
  reach_code p at owed (ELiteral ty n) = costing (1 + owed) (op.LiteralAddr n) ∷ []
  reach_code p at owed (EGlobal ty n) = costing (1 + owed) (op.GlobalAddr n) ∷ []
  reach_code p at owed (ELocal ty n) = costing (1 + owed) (op.LocalAddr n) ∷ []
  reach_code p at owed (EUn ty o e) =
      chosen (takes_value o)
      (value_by (direct p e) owed (reach_code p at owed e) (is_loaded e) (late p e) (type_of e)
      ++ unary_code o (value_late p e) (type_of e))
      (reach_code p at owed e)
  reach_code p at owed (EBin ty o a b) =
      chosen (is_logical o)
      (jump_code p at owed 1 (stops o)
      (decided_at (stops o) (at + jump_len p (stops o) a (value_len p a) + condition_len p b)) a
      (value_by (direct p a) owed (reach_code p at owed a) (is_loaded a) (late p a) (type_of a))
      ++ (jump_code p (at + jump_len p (stops o) a (value_len p a)) 0 1 false
      (at + jump_len p (stops o) a (value_len p a) + condition_len p b + 2) b
      (value_by (direct p b) 0 (reach_code p (at + jump_len p (stops o) a (value_len p a)) 0 b)
      (is_loaded b) (late p b) (type_of b))
      ++ truth_code (at + jump_len p (stops o) a (value_len p a) + condition_len p b)))
      (binary_code p o a b
      (value_by (direct p a) owed (reach_code p at owed a) (is_loaded a) (late p a) (type_of a))
      (value_by (direct p b) (second_owed p o a b)
      (reach_code p (second_at p at o a b) (second_owed p o a b) b) (is_loaded b) (late p b)
      (type_of b)))
  reach_code p at owed (ECast ty e) =
      value_by (direct p e) owed (reach_code p at owed e) (is_loaded e) (late p e) (type_of e)
      ++ cast_code (value_late p e) (type_of e) ty
  reach_code p at owed (EConvert ty e) =
      value_by (direct p e) owed (reach_code p at owed e) (is_loaded e) (late p e) (type_of e)
      ++ cast_code (value_late p e) (type_of e) ty
  reach_code p at owed (ESize ty t) = costing (1 + owed) (op.Number (size_in p t)) ∷ []
  reach_code p at owed (EIndex ty a b) =
      binary_code p Add a b
      (value_by (direct p a) owed (reach_code p at owed a) (is_loaded a) (late p a) (type_of a))
      (value_by (direct p b) (second_owed p Add a b)
      (reach_code p (second_at p at Add a b) (second_owed p Add a b) b) (is_loaded b)
      (late p b) (type_of b))
  reach_code p at owed (EMember ty e n) =
      reach_code p at owed e
      ++ costing (1 + late p e) (op.Offset (member_offset p (type_of e) n)) ∷ []
  reach_code p at owed (EArrow ty e n) =
      value_by (direct p e) owed (reach_code p at owed e) (is_loaded e) (late p e) (type_of e)
      ++ costing (1 + value_late p e) (op.Offset (member_offset p (pointed (type_of e)) n)) ∷ []
  reach_code p at owed (ECall ty f all) = args_code p at owed Plainly f all
  reach_code p at owed (EGate ty f all) = args_code p at owed ByGate f all
  reach_code p at owed (EGetc ty) = costing (1 + owed) (ask_op 0 0) ∷ []
  reach_code p at owed (EPutc ty e) =
      value_by (direct p e) owed (reach_code p at owed e) (is_loaded e) (late p e) (type_of e)
      ++ costing (1 + value_late p e) (tell_op 0 0) ∷ []
  reach_code p at owed (EDevLoad ty d r) = costing (1 + owed) (ask_op d r) ∷ []
  reach_code p at owed (EDevStore ty d r e) =
      value_by (direct p e) owed (reach_code p at owed e) (is_loaded e) (late p e) (type_of e)
      ++ costing (1 + value_late p e) (tell_op d r) ∷ []
  reach_code p at owed (ESpawn ty f e) =
      value_by (direct p e) owed (reach_code p at owed e) (is_loaded e) (late p e) (type_of e)
      ++ costing (1 + value_late p e) (op.Spawn f) ∷ []
  reach_code p at owed (ESwitch ty e) =
      value_by (direct p e) owed (reach_code p at owed e) (is_loaded e) (late p e) (type_of e)
      ++ costing (1 + value_late p e) op.Switch ∷ []
  reach_code p at owed (EMe ty) = costing (1 + owed) op.Me ∷ []

  -- Goes to a place where the expression's truth is `sense`, and on otherwise; the step that tests it costs `more`, and
  -- `value` is the code of its value. Where the first operand of `&&` or `||` decides, what tests the whole is a jump's
  -- cost; otherwise the first operand leads to the second one, over that jump.
  pub jump_code : Program → (at owed more : ℕ) → Bool → (to : ℕ) → TExprTree → (value : List Step)
      → List Step
  jump_code p at owed more sense to (EUn ty Lnot e) value =
      jump_code p at owed (more + 1) (not sense) to e
      (value_by (direct p e) owed (reach_code p at owed e) (is_loaded e) (late p e) (type_of e))
  jump_code p at owed more sense to (EBin ty o a b) value =
      chosen (is_logical o)
      (jump_code p at owed 1 (not (stops o)) (at + jump_len p (not (stops o)) a (value_len p a) + 1)
      a (value_by (direct p a) owed (reach_code p at owed a) (is_loaded a) (late p a) (type_of a))
      ++ costing more
      (op.Jump
      (chosen (beq sense (stops o)) to
      (at + jump_len p (not (stops o)) a (value_len p a) + 1
      + jump_len p sense b (value_len p b))))
      ∷ jump_code p (at + jump_len p (not (stops o)) a (value_len p a) + 1) 0 (more + 1) sense to b
      (value_by (direct p b) 0
      (reach_code p (at + jump_len p (not (stops o)) a (value_len p a) + 1) 0 b)
      (is_loaded b) (late p b) (type_of b)))
      (chosen (is_comparison o)
      (compare_code p more sense to o a b
      (value_by (direct p a) owed (reach_code p at owed a) (is_loaded a) (late p a) (type_of a))
      (value_by (direct p b) (value_late p a)
      (reach_code p (at + value_len p a) (value_late p a) b) (is_loaded b) (late p b)
      (type_of b)))
      (value
      ++ test_code (at + value_len p (EBin ty o a b)) (more + value_late p (EBin ty o a b))
      sense to))
  jump_code p at owed more sense to (EConvert ty e) value =
      chosen (tests_pointer (type_of e) ty)
      (value_by (direct p e) owed (reach_code p at owed e) (is_loaded e) (late p e) (type_of e)
      ++ costing (1 + more + value_late p e)
      (op.CompareJump (jumping sense Ne) Pointers (right.Number 0) to)
      ∷ [])
      (value
      ++ test_code (at + value_len p (EConvert ty e)) (more + value_late p (EConvert ty e))
      sense to)
  jump_code p at owed more sense to e value =
      value ++ test_code (at + value_len p e) (more + value_late p e) sense to

  -- the arguments and then the call
  pub args_code : Program → (at owed : ℕ) → Way → ℕ → TExprTrees → List Step
  args_code p at owed way f NoTExprs = call_step p owed way f ∷ []
  args_code p at owed way f (MoreTExprs e more) =
      value_by (direct p e) owed (reach_code p at owed e) (is_loaded e) (late p e) (type_of e)
      ++ args_code p (at + value_len p e) (value_late p e) way f more

abbrev pub value_code : Program → (at owed : ℕ) → TExprTree → List Step
value_code p at owed e =
    value_by (direct p e) owed (reach_code p at owed e) (is_loaded e) (late p e) (type_of e)

-- goes to a place where a condition is false
abbrev pub condition_code : Program → (at to : ℕ) → TExprTree → List Step
condition_code p at to e = jump_code p at 0 1 false to e (value_code p at 0 e)

-- ---- statements

-- to a whole variable, or to an address
abbrev pub assign_code : Program → ℕ → Option ℕ → (to e : TExprTree) → List Step
assign_code p at (Some n) to e =
    value_code p at 1 e ++ costing (1 + value_late p e) (op.StoreLocal n) ∷ []
assign_code p at None to e =
    reach_code p at 0 to
    ++ (value_code p (at + reach_len p to) (late p to) e
    ++ costing (1 + value_late p e) (assign_op p (type_of to)) ∷ [])

-- a declaration with a value is the assignment of that value to the variable
abbrev pub local_code : Program → ℕ → ℕ → Option TExprTree → List Step
local_code p at n None = []
local_code p at n (Some e) =
    assign_code p at (whole_local (ELocal (type_of e) n)) (ELocal (type_of e) n) e

abbrev pub return_code : Program → TyTree → ℕ → Option TExprTree → List Step
return_code p gives at None = fall_code gives
return_code p gives at (Some e) = value_code p at 0 e ++ costing (1 + value_late p e) op.Return ∷ []

-- where a statement leads to: to the next one, or out where no code follows
abbrev pub exit_by : ℕ → ℕ → ℕ → ℕ
exit_by zero exit next = exit
exit_by (suc n) exit next = next

abbrev pub else_at : MaybeTStmt → ℕ → ℕ → ℕ
else_at NoTStmt at exit = exit
else_at (OneTStmt s) at exit = at + 1

abbrev pub else_jump : MaybeTStmt → ℕ → List Step
else_jump NoTStmt exit = []
else_jump (OneTStmt s) exit = free (op.Jump exit) ∷ []

abbrev pub maybe_condition_code : Program → (at exit : ℕ) → Option TExprTree → List Step
maybe_condition_code p at exit None = []
maybe_condition_code p at exit (Some e) = condition_code p at exit e

abbrev mutual
  pub stmt_code : Program → TyTree → (at exit leave again : ℕ) → TStmtTree → List Step
  stmt_code p gives at exit leave again SEmpty = []
  stmt_code p gives at exit leave again (SBlock all) = stmts_code p gives at exit leave again all
  stmt_code p gives at exit leave again (SLocal n init) = local_code p at n init
  stmt_code p gives at exit leave again (SEval e) =
      value_code p at 0 e ++ costing (value_late p e) op.Drop ∷ []
  stmt_code p gives at exit leave again (SAssign to e) = assign_code p at (whole_local to) to e
  stmt_code p gives at exit leave again (SIf test s other) =
      condition_code p at (else_at other (at + condition_len p test + stmt_len p gives s) exit) test
      ++ (stmt_code p gives (at + condition_len p test) exit leave again s
      ++ (else_jump other exit
      ++ maybe_code p gives (at + condition_len p test + stmt_len p gives s + 1) exit leave again
      other))
  stmt_code p gives at exit leave again (SWhile test s) =
      condition_code p at exit test
      ++ (stmt_code p gives (at + condition_len p test)
      (at + condition_len p test + stmt_len p gives s) exit at s
      ++ costing 1 (op.Jump at) ∷ [])
  stmt_code p gives at exit leave again (SFor first test next s) =
      maybe_code p gives at (at + maybe_len p gives first) leave again first
      ++ (maybe_condition_code p (at + maybe_len p gives first) exit test
      ++ (stmt_code p gives (at + maybe_len p gives first + maybe_condition_len p test)
      (at + maybe_len p gives first + maybe_condition_len p test + stmt_len p gives s) exit
      (at + maybe_len p gives first + maybe_condition_len p test + stmt_len p gives s) s
      ++ (maybe_code p gives
      (at + maybe_len p gives first + maybe_condition_len p test + stmt_len p gives s)
      (at + maybe_len p gives first + maybe_condition_len p test + stmt_len p gives s
      + maybe_len p gives next)
      leave again next
      ++ costing 1 (op.Jump (at + maybe_len p gives first)) ∷ [])))
  stmt_code p gives at exit leave again SBreak = costing 1 (op.Jump leave) ∷ []
  stmt_code p gives at exit leave again SContinue = costing 1 (op.Jump again) ∷ []
  stmt_code p gives at exit leave again (SReturn e) = return_code p gives at e

  pub maybe_code : Program → TyTree → (at exit leave again : ℕ) → MaybeTStmt → List Step
  maybe_code p gives at exit leave again NoTStmt = []
  maybe_code p gives at exit leave again (OneTStmt s) = stmt_code p gives at exit leave again s

  pub stmts_code : Program → TyTree → (at exit leave again : ℕ) → TStmtTrees → List Step
  stmts_code p gives at exit leave again NoTStmts = []
  stmts_code p gives at exit leave again (MoreTStmts s more) =
      stmt_code p gives at (exit_by (stmts_len p gives more) exit (at + stmt_len p gives s)) leave
      again s
      ++ stmts_code p gives (at + stmt_len p gives s) exit leave again more

abbrev pub function_code : Program → Function → List Step
function_code p f =
    stmts_code p f.gives 0 (stmts_len p f.gives f.body) 0 0 f.body ++ fall_code f.gives

-- the code of each function
abbrev pub code_of : Program → List (List Step)
code_of p = map (function_code p) p.functions
