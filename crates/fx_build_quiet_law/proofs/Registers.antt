-- Lowered code names registers of devices that its program names.
use Rattle.std.proofs.Common.{ℕ, zero, ◌+◌, ◌≤◌, Bool, true, false, not, List, [], ◌∷◌, ◌++◌}
use Rattle.std.proofs.Common.{map}
use Rattle.std.specs.Prelude.{Option, Some, None, slice_index_or}
use Rattle.std.proofs.lemmas.List.Elements.{All-map}
use Rattle.fx_c_ast.specs.declared.operator.IntType.{IntType}
use Rattle.fx_c_ast.specs.declared.operator.IntType.TheVariants.{Long, Ulong}
use Rattle.fx_c_ast.specs.declared.operator.Unop.{Unop}
use Rattle.fx_c_ast.specs.declared.operator.Unop.TheVariants.{Deref, Addr, Lnot}
use Rattle.fx_c_ast.specs.declared.operator.Binop.{Binop}
use Rattle.fx_c_ast.specs.declared.operator.Binop.TheVariants.{Add, Sub}
use Rattle.fx_c_ast.specs.CheckedTrees.{TyTree, IntTy, PtrTy, TExprTree, ENumber, ELiteral, EGlobal}
use Rattle.fx_c_ast.specs.CheckedTrees.{ELocal, EUn, EBin, ECast, EConvert, ESize, EIndex, EMember}
use Rattle.fx_c_ast.specs.CheckedTrees.{EArrow, ECall, EGate, EGetc, EPutc, EDevLoad, EDevStore}
use Rattle.fx_c_ast.specs.CheckedTrees.{ESpawn, ESwitch, EMe, TExprTrees, NoTExprs, MoreTExprs}
use Rattle.fx_c_ast.specs.CheckedTrees.{TStmtTree, SEmpty, SBlock, SLocal, SEval, SAssign, SIf}
use Rattle.fx_c_ast.specs.CheckedTrees.{SWhile, SFor, SBreak, SContinue, SReturn, TStmtTrees}
use Rattle.fx_c_ast.specs.CheckedTrees.{NoTStmts, MoreTStmts, MaybeTStmt, NoTStmt, OneTStmt}
use Rattle.fx_c_ast.specs.CheckedTrees.{struct_types}
use Rattle.fx_c_types_model.specs.Each.{Each, EachOfAll, EachOfValue, EachIn, EachInMaybe}
use Rattle.fx_c_types_model.specs.Each.{EachInAll}
use Rattle.fx_c_types_model.specs.Fits.{DeviceFits}
use Rattle.fx_c_mean_model.specs.Programs.{Program, Function, function_of, program_of}
use Rattle.fx_c_mean_model.specs.States.{Way, ByGate, Plainly, type_of, same_type}
use Rattle.fx_c_lin.specs.declared.op.Right.{Right}
use Rattle.fx_c_lin.specs.declared.op.Right.TheVariants as right
use Rattle.fx_c_lin.specs.Ops.{Op, Step}
use Rattle.fx_c_lin.specs.Ops as op
use Rattle.fx_c_lower_model.specs.Steps.{costing, chosen, is_loaded, load_code, unary_code}
use Rattle.fx_c_lower_model.specs.Steps.{takes_value, convert_code, cast_code, widening}
use Rattle.fx_c_lower_model.specs.Steps.{widening_late, assign_op, fall_code}
use Rattle.fx_c_lower_model.specs.Steps.{tell_op, ask_op, is_logical, stops, is_comparison}
use Rattle.fx_c_lower_model.specs.Steps.{tests_pointer}
use Rattle.fx_c_lower_model.specs.Direct.{Direct, Constant, Whole, Other, direct, whole_local}
use Rattle.fx_c_lower_model.specs.Direct.{right_owed}
use Rattle.fx_c_lower_model.specs.Operands.{left_code, move_code, pointers_code, combine_code}
use Rattle.fx_c_lower_model.specs.Operands.{truth_code, test_code}
use Rattle.fx_c_lower_model.specs.Late.{late, value_late}
use Rattle.fx_c_lower_model.specs.Lengths.{reach_len, jump_len, value_len, condition_len}
use Rattle.fx_c_lower_model.specs.Lengths.{maybe_condition_len, stmt_len, maybe_len, stmts_len}
use Rattle.fx_c_lower_model.specs.Code.{value_by, right_code, call_op, right_operand, second_owed}
use Rattle.fx_c_lower_model.specs.Code.{second_at, binary_code, compare_code, decided_at}
use Rattle.fx_c_lower_model.specs.Code.{reach_code, jump_code, args_code, value_code}
use Rattle.fx_c_lower_model.specs.Code.{condition_code, assign_code, local_code, return_code}
use Rattle.fx_c_lower_model.specs.Code.{exit_by, else_at, else_jump, maybe_condition_code}
use Rattle.fx_c_lower_model.specs.Code.{stmt_code, maybe_code, stmts_code, function_code}
use Rattle.fx_templates_quiet_law.specs.Quiet.{HasRegister}
use Rattle.fx_build_quiet_law.specs.Quiet.{HasRegisters, CodeHasRegisters}

joined : (xs ys : List Step) → HasRegisters xs → HasRegisters ys → HasRegisters (xs ++ ys)
joined [] ys first second = second
joined (x ∷ xs) ys first second = (first.0, joined xs ys first.1 second)

pick : (b : Bool) (xs ys : List Step) → HasRegisters xs → HasRegisters ys
    → HasRegisters (chosen b xs ys)
pick true xs ys first second = first
pick false xs ys first second = second

-- ---- single ops

asked : (device register : ℕ) → (device ≤ 15) × (register ≤ 511)
    → HasRegister (ask_op device register)
asked zero zero fits = tt
asked device register fits = fits

told : (device register : ℕ) → (device ≤ 15) × (register ≤ 511)
    → HasRegister (tell_op device register)
told zero zero fits = tt
told device register fits = fits

call_has : (way : Way) (f : ℕ) → HasRegister (call_op way f)
call_has ByGate f = tt
call_has way f = tt

assign_has : (p : Program) (t : TyTree) → HasRegister (assign_op p t)
assign_has p (IntTy i) = tt
assign_has p (PtrTy t) = tt
assign_has p t = tt

-- ---- pieces of code

load_has : (loads : Bool) (owed : ℕ) (ty : TyTree) → HasRegisters (load_code loads owed ty)
load_has true owed ty = (tt, tt)
load_has false owed ty = tt

value_has : (d : Direct) (owed : ℕ) (reached : List Step) (loads : Bool) (owes : ℕ) (ty : TyTree)
    → HasRegisters reached → HasRegisters (value_by d owed reached loads owes ty)
value_has (Constant w cost) owed reached loads owes ty has = (tt, tt)
value_has (Whole n) owed reached loads owes ty has = (tt, tt)
value_has Other owed reached loads owes ty has =
    joined reached (load_code loads owes ty) has (load_has loads owes ty)

valued : (p : Program) (owed : ℕ) (e : TExprTree) (reached : List Step) → HasRegisters reached
    → HasRegisters (value_by (direct p e) owed reached (is_loaded e) (late p e) (type_of e))
valued p owed e reached has =
    value_has (direct p e) owed reached (is_loaded e) (late p e) (type_of e) has

unary_has : (o : Unop) (owed : ℕ) (ty : TyTree) → HasRegisters (unary_code o owed ty)
unary_has Deref owed ty = tt
unary_has Addr owed ty = tt
unary_has o owed ty = (tt, tt)

convert_has : (owed : ℕ) (from to : TyTree) → HasRegisters (convert_code owed from to)
convert_has owed (IntTy i) (IntTy j) = (tt, tt)
convert_has owed (PtrTy s) (IntTy j) = (tt, tt)
convert_has owed from to = tt

cast_has : (owed : ℕ) (from to : TyTree) → HasRegisters (cast_code owed from to)
cast_has owed from to =
    pick (same_type from to) [] (convert_code owed from to) tt (convert_has owed from to)

widening_has : (owed : ℕ) (i : IntType) → HasRegisters (widening owed i)
widening_has owed Long = tt
widening_has owed Ulong = tt
widening_has owed i = (tt, tt)

left_has : (o : Binop) (owed : ℕ) (s t : TyTree) → HasRegisters (left_code o owed s t)
left_has Add owed (IntTy i) (PtrTy t) = widening_has owed i
left_has o owed s t = tt

move_has : (owed : ℕ) (r : Right) (o : Binop) (bytes : ℕ) (i : IntType)
    → HasRegisters (move_code owed r o bytes i)
move_has owed right.Pending Add bytes i =
    joined (widening owed i)
    (costing (1 + widening_late owed i) (op.Index bytes right.Pending) ∷ [])
    (widening_has owed i) (tt, tt)
move_has owed r Add bytes i = (tt, tt)
move_has owed r Sub bytes i =
    joined (widening owed i) (costing (1 + widening_late owed i) (op.Back bytes) ∷ [])
    (widening_has owed i) (tt, tt)
move_has owed r o bytes i = (tt, tt)

pointers_has : (owed : ℕ) (r : Right) (o : Binop) (bytes : ℕ)
    → HasRegisters (pointers_code owed r o bytes)
pointers_has owed r Sub bytes = (tt, tt)
pointers_has owed r o bytes = (tt, tt)

combine_has : (p : Program) (owed : ℕ) (r : Right) (o : Binop) (s t : TyTree)
    → HasRegisters (combine_code p owed r o s t)
combine_has p owed r o (IntTy i) (IntTy j) = (tt, tt)
combine_has p owed r o (PtrTy t) (IntTy i) = move_has owed r o _ i
combine_has p owed r o (IntTy i) (PtrTy t) = (tt, tt)
combine_has p owed r o (PtrTy s) (PtrTy t) = pointers_has owed r o _
combine_has p owed r o s t = (tt, tt)

test_has : (at cost : ℕ) (sense : Bool) (to : ℕ) → HasRegisters (test_code at cost sense to)
test_has at cost false to = (tt, tt)
test_has at cost true to = (tt, (tt, tt))

right_has : (r : Right) (code : List Step) → HasRegisters code → HasRegisters (right_code r code)
right_has right.Pending code has = has
right_has r code has = tt

binary_has : (p : Program) (o : Binop) (a b : TExprTree) (first second : List Step)
    → HasRegisters first → HasRegisters second → HasRegisters (binary_code p o a b first second)
binary_has p o a b first second one two =
    let r = right_operand p o a b in
    let left = left_code o (value_late p a) (type_of a) (type_of b) in
    let owed = right_owed r (direct p b) (second_owed p o a b) (value_late p b) in
    let last = combine_code p owed r o (type_of a) (type_of b) in
    joined first (left ++ (right_code r second ++ last)) one
    (joined left (right_code r second ++ last) (left_has o (value_late p a) (type_of a) (type_of b))
    (joined (right_code r second) last (right_has r second two)
    (combine_has p owed r o (type_of a) (type_of b))))

compare_has : (p : Program) (more : ℕ) (sense : Bool) (to : ℕ) (o : Binop) (a b : TExprTree)
    (first second : List Step) → HasRegisters first → HasRegisters second
    → HasRegisters (compare_code p more sense to o a b first second)
compare_has p more sense to o a b first second one two =
    let r = right_operand p o a b in
    joined first _ one (joined (right_code r second) _ (right_has r second two) (tt, tt))

-- ---- expressions

mutual
  reach_has : (p : Program) (at owed : ℕ) (e : TExprTree) → Each DeviceFits e
      → HasRegisters (reach_code p at owed e)
  reach_has p at owed (ENumber ty w) fits = (tt, tt)
  reach_has p at owed (ELiteral ty n) fits = (tt, tt)
  reach_has p at owed (EGlobal ty n) fits = (tt, tt)
  reach_has p at owed (ELocal ty n) fits = (tt, tt)
  reach_has p at owed (EUn ty o e) fits =
      let inner = reach_has p at owed e fits.1 in
      pick (takes_value o) _ (reach_code p at owed e)
      (joined _ (unary_code o (value_late p e) (type_of e)) (valued p owed e _ inner)
      (unary_has o (value_late p e) (type_of e)))
      inner
  reach_has p at owed (EBin ty o a b) fits =
      let first = valued p owed a _ (reach_has p at owed a fits.1) in
      let there = at + jump_len p (stops o) a (value_len p a) in
      pick (is_logical o) _ _
      (joined _ _
      (jump_has p at owed 1 (stops o) (decided_at (stops o) (there + condition_len p b)) a _ fits.1
      first)
      (joined _ (truth_code (there + condition_len p b))
      (jump_has p there 0 1 false (there + condition_len p b + 2) b _ fits.2
      (valued p 0 b _ (reach_has p there 0 b fits.2)))
      (tt, (tt, (tt, tt)))))
      (binary_has p o a b _ _ first
      (valued p (second_owed p o a b) b _
      (reach_has p (second_at p at o a b) (second_owed p o a b) b fits.2)))
  reach_has p at owed (ECast ty e) fits =
      joined _ (cast_code (value_late p e) (type_of e) ty)
      (valued p owed e _ (reach_has p at owed e fits.1)) (cast_has (value_late p e) (type_of e) ty)
  reach_has p at owed (EConvert ty e) fits =
      joined _ (cast_code (value_late p e) (type_of e) ty)
      (valued p owed e _ (reach_has p at owed e fits.1)) (cast_has (value_late p e) (type_of e) ty)
  reach_has p at owed (ESize ty t) fits = (tt, tt)
  reach_has p at owed (EIndex ty a b) fits =
      binary_has p Add a b _ _ (valued p owed a _ (reach_has p at owed a fits.1))
      (valued p (second_owed p Add a b) b _
      (reach_has p (second_at p at Add a b) (second_owed p Add a b) b fits.2))
  reach_has p at owed (EMember ty e n) fits =
      joined (reach_code p at owed e) _ (reach_has p at owed e fits.1) (tt, tt)
  reach_has p at owed (EArrow ty e n) fits =
      joined _ _ (valued p owed e _ (reach_has p at owed e fits.1)) (tt, tt)
  reach_has p at owed (ECall ty f all) fits = args_has p at owed Plainly f all fits.1
  reach_has p at owed (EGate ty f all) fits = args_has p at owed ByGate f all fits.1
  reach_has p at owed (EGetc ty) fits = (tt, tt)
  reach_has p at owed (EPutc ty e) fits =
      joined _ _ (valued p owed e _ (reach_has p at owed e fits.1)) (tt, tt)
  reach_has p at owed (EDevLoad ty d r) fits = (asked d r fits, tt)
  reach_has p at owed (EDevStore ty d r e) fits =
      joined _ _ (valued p owed e _ (reach_has p at owed e fits.1)) (told d r fits.0, tt)
  reach_has p at owed (ESpawn ty f e) fits =
      joined _ _ (valued p owed e _ (reach_has p at owed e fits.1)) (tt, tt)
  reach_has p at owed (ESwitch ty e) fits =
      joined _ _ (valued p owed e _ (reach_has p at owed e fits.1)) (tt, tt)
  reach_has p at owed (EMe ty) fits = (tt, tt)

  jump_has : (p : Program) (at owed more : ℕ) (sense : Bool) (to : ℕ) (e : TExprTree)
      (value : List Step) → Each DeviceFits e → HasRegisters value
      → HasRegisters (jump_code p at owed more sense to e value)
  jump_has p at owed more sense to (EUn ty Lnot e) value fits has =
      jump_has p at owed (more + 1) (not sense) to e _ fits.1
      (valued p owed e _ (reach_has p at owed e fits.1))
  jump_has p at owed more sense to (EBin ty o a b) value fits has =
      let first = valued p owed a _ (reach_has p at owed a fits.1) in
      let there = at + jump_len p (not (stops o)) a (value_len p a) + 1 in
      pick (is_logical o) _ _
      (joined _ _ (jump_has p at owed 1 (not (stops o)) there a _ fits.1 first) (
        tt,
        jump_has p there 0 (more + 1) sense to b _ fits.2
            (valued p 0 b _ (reach_has p there 0 b fits.2)),
      ))
      (pick (is_comparison o) _ _
      (compare_has p more sense to o a b _ _ first
      (valued p (value_late p a) b _
      (reach_has p (at + value_len p a) (value_late p a) b fits.2)))
      (joined value _ has (test_has _ _ sense to)))
  jump_has p at owed more sense to (EConvert ty e) value fits has =
      pick (tests_pointer (type_of e) ty) _ _
      (joined _ _ (valued p owed e _ (reach_has p at owed e fits.1)) (tt, tt))
      (joined value _ has (test_has _ _ sense to))
  jump_has p at owed more sense to e value fits has =
      joined value (test_code (at + value_len p e) (more + value_late p e) sense to) has
      (test_has (at + value_len p e) (more + value_late p e) sense to)

  args_has : (p : Program) (at owed : ℕ) (way : Way) (f : ℕ) (all : TExprTrees)
      → EachOfAll DeviceFits all → HasRegisters (args_code p at owed way f all)
  args_has p at owed way f NoTExprs fits = (call_has way f, tt)
  args_has p at owed way f (MoreTExprs e more) fits =
      joined _ _ (valued p owed e _ (reach_has p at owed e fits.0))
      (args_has p (at + value_len p e) (value_late p e) way f more fits.1)

value_code_has : (p : Program) (at owed : ℕ) (e : TExprTree) → Each DeviceFits e
    → HasRegisters (value_code p at owed e)
value_code_has p at owed e fits = valued p owed e _ (reach_has p at owed e fits)

condition_has : (p : Program) (at to : ℕ) (e : TExprTree) → Each DeviceFits e
    → HasRegisters (condition_code p at to e)
condition_has p at to e fits =
    jump_has p at 0 1 false to e (value_code p at 0 e) fits (value_code_has p at 0 e fits)

-- ---- statements

assign_code_has : (p : Program) (at : ℕ) (n : Option ℕ) (to e : TExprTree) → Each DeviceFits to
    → Each DeviceFits e → HasRegisters (assign_code p at n to e)
assign_code_has p at (Some n) to e first second =
    joined (value_code p at 1 e) _ (value_code_has p at 1 e second) (tt, tt)
assign_code_has p at None to e first second =
    joined (reach_code p at 0 to) _ (reach_has p at 0 to first)
    (joined (value_code p (at + reach_len p to) (late p to) e) _
    (value_code_has p (at + reach_len p to) (late p to) e second)
    (assign_has p (type_of to), tt))

local_has : (p : Program) (at n : ℕ) (init : Option TExprTree) → EachOfValue DeviceFits init
    → HasRegisters (local_code p at n init)
local_has p at n None fits = tt
local_has p at n (Some e) fits =
    assign_code_has p at (whole_local (ELocal (type_of e) n)) (ELocal (type_of e) n) e tt fits

fall_has : (gives : TyTree) → HasRegisters (fall_code gives)
fall_has (IntTy i) = (tt, (tt, tt))
fall_has (PtrTy t) = (tt, (tt, tt))
fall_has t = (tt, tt)

return_has : (p : Program) (gives : TyTree) (at : ℕ) (e : Option TExprTree)
    → EachOfValue DeviceFits e → HasRegisters (return_code p gives at e)
return_has p gives at None fits = fall_has gives
return_has p gives at (Some e) fits =
    joined (value_code p at 0 e) _ (value_code_has p at 0 e fits) (tt, tt)

else_has : (other : MaybeTStmt) (exit : ℕ) → HasRegisters (else_jump other exit)
else_has NoTStmt exit = tt
else_has (OneTStmt s) exit = (tt, tt)

maybe_condition_has : (p : Program) (at exit : ℕ) (e : Option TExprTree)
    → EachOfValue DeviceFits e → HasRegisters (maybe_condition_code p at exit e)
maybe_condition_has p at exit None fits = tt
maybe_condition_has p at exit (Some e) fits = condition_has p at exit e fits

mutual
  stmt_has : (p : Program) (gives : TyTree) (at exit leave again : ℕ) (s : TStmtTree)
      → EachIn DeviceFits s → HasRegisters (stmt_code p gives at exit leave again s)
  stmt_has p gives at exit leave again SEmpty fits = tt
  stmt_has p gives at exit leave again (SBlock all) fits =
      stmts_has p gives at exit leave again all fits
  stmt_has p gives at exit leave again (SLocal n init) fits = local_has p at n init fits
  stmt_has p gives at exit leave again (SEval e) fits =
      joined (value_code p at 0 e) _ (value_code_has p at 0 e fits) (tt, tt)
  stmt_has p gives at exit leave again (SAssign to e) fits =
      assign_code_has p at (whole_local to) to e fits.0 fits.1
  stmt_has p gives at exit leave again (SIf test s other) fits =
      let within = at + condition_len p test in
      joined _ _
      (condition_has p at (else_at other (within + stmt_len p gives s) exit) test fits.0)
      (joined _ _ (stmt_has p gives within exit leave again s fits.1)
      (joined (else_jump other exit) _ (else_has other exit)
      (maybe_has p gives (within + stmt_len p gives s + 1) exit leave again other fits.2)))
  stmt_has p gives at exit leave again (SWhile test s) fits =
      let within = at + condition_len p test in
      joined _ _ (condition_has p at exit test fits.0)
      (joined _ _ (stmt_has p gives within (within + stmt_len p gives s) exit at s fits.1) (tt, tt))
  stmt_has p gives at exit leave again (SFor first test next s) fits =
      let tested = at + maybe_len p gives first in
      let within = tested + maybe_condition_len p test in
      let stepped = within + stmt_len p gives s in
      joined _ _ (maybe_has p gives at tested leave again first fits.0)
      (joined _ _ (maybe_condition_has p tested exit test fits.1)
      (joined _ _ (stmt_has p gives within stepped exit stepped s fits.3)
      (joined _ _
      (maybe_has p gives stepped (stepped + maybe_len p gives next) leave again next fits.2)
      (tt, tt))))
  stmt_has p gives at exit leave again SBreak fits = (tt, tt)
  stmt_has p gives at exit leave again SContinue fits = (tt, tt)
  stmt_has p gives at exit leave again (SReturn e) fits = return_has p gives at e fits

  maybe_has : (p : Program) (gives : TyTree) (at exit leave again : ℕ) (s : MaybeTStmt)
      → EachInMaybe DeviceFits s → HasRegisters (maybe_code p gives at exit leave again s)
  maybe_has p gives at exit leave again NoTStmt fits = tt
  maybe_has p gives at exit leave again (OneTStmt s) fits =
      stmt_has p gives at exit leave again s fits

  stmts_has : (p : Program) (gives : TyTree) (at exit leave again : ℕ) (all : TStmtTrees)
      → EachInAll DeviceFits all → HasRegisters (stmts_code p gives at exit leave again all)
  stmts_has p gives at exit leave again NoTStmts fits = tt
  stmts_has p gives at exit leave again (MoreTStmts s more) fits =
      joined _ _
      (stmt_has p gives at (exit_by (stmts_len p gives more) exit (at + stmt_len p gives s)) leave
      again s fits.0)
      (stmts_has p gives (at + stmt_len p gives s) exit leave again more fits.1)

-- ---- programs

function_has : (p : Program) (f : Function) → EachInAll DeviceFits f.body
    → HasRegisters (function_code p f)
function_has p f fits =
    joined (stmts_code p f.gives 0 (stmts_len p f.gives f.body) 0 0 f.body) (fall_code f.gives)
    (stmts_has p f.gives 0 (stmts_len p f.gives f.body) 0 0 f.body fits) (fall_has f.gives)

pub code_has : CodeHasRegisters
code_has p lowerable =
    let structs = struct_types p.structs in
    let own = program_of p in
    All-map HasRegisters (function_code own) (map (function_of structs) p.functions)
    (All-map (λ (f : Function). HasRegisters (function_code own f)) (function_of structs)
    p.functions
    (λ j d less. function_has own (function_of structs (slice_index_or p.functions j d))
    (lowerable.functions j d less).devices))
