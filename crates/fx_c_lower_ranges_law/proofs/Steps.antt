-- The ops of trees whose numbers are in range.
use Rattle.std.proofs.Common.{◌≡◌, ℕ, zero, suc, ◌+◌, Bool, true, false, ◌&&◌, List, [], ◌∷◌, ◌++◌, Option, Some, None, refl, ap, ◌∙◌, subst}
use Rattle.std.specs.Prelude.{slice_get}
use Rattle.fx_c_ast.specs.declared.operator.IntType.{IntType}
use Rattle.fx_c_ast.specs.declared.operator.IntType.TheVariants.{Long, Ulong}
use Rattle.fx_c_ast.specs.declared.operator.Unop.{Unop}
use Rattle.fx_c_ast.specs.declared.operator.Unop.TheVariants.{Lnot, Deref, Addr}
use Rattle.fx_c_ast.specs.declared.operator.Binop.{Binop}
use Rattle.fx_c_ast.specs.declared.operator.Binop.TheVariants.{Add, Sub}
use Rattle.fx_c_ast.specs.CheckedTrees.{TyTree, IntTy, PtrTy, TExprTree, ENumber, ELiteral, EGlobal, ELocal, EUn, EBin, ECast, EConvert, ESize, EIndex, EMember, EArrow, ECall, EGate, EGetc, EPutc, EDevLoad, EDevStore, ESpawn, ESwitch, EMe, TExprTrees, NoTExprs, MoreTExprs, TStmtTree, SEmpty, SBlock, SLocal, SEval, SAssign, SIf, SWhile, SFor, SBreak, SContinue, SReturn, TStmtTrees, NoTStmts, MoreTStmts, MaybeTStmt, NoTStmt, OneTStmt}
use Rattle.fx_c_mean_model.specs.Programs.{Program, Function, size_in}
use Rattle.fx_c_mean_model.specs.States.{Way, Plainly, ByGate, First, type_of, is_scalar, is_lvalue, same_type}
use Rattle.fx_c_types_model.specs.Fits.{IsDeviceRegister}
use Rattle.fx_c_types_model.specs.Each.{Each, EachOfAll, EachOfValue}
use Rattle.fx_c_lin.specs.declared.op.Right.{Right}
use Rattle.fx_c_lin.specs.declared.op.Right.TheVariants as right
use Rattle.fx_c_lin.specs.Ops.{Step}
use Rattle.fx_c_lin.specs.Ops as op
use Rattle.fx_c_lower_model.specs.Steps.{costing, chosen, is_loaded, load_code, unary_code, takes_value, convert_code, cast_code, widening, assign_op, fall_code, tell_op, ask_op, is_logical, is_comparison, tests_pointer}
use Rattle.fx_c_lower_model.specs.Direct.{Direct, Constant, Whole, Other, converted_direct, direct, whole_local, holds_key, right_by, as_long, right_of}
use Rattle.fx_c_lower_model.specs.Operands.{left_code, move_code, combine_code, test_code}
use Rattle.fx_c_lower_model.specs.Late.{late, value_late}
use Rattle.fx_c_lower_model.specs.Lengths.{reach_len, condition_len, maybe_condition_len, stmt_len, maybe_len, stmts_len}
use Rattle.fx_c_lower_model.specs.Code.{value_by, right_code, binary_code, compare_code, reach_code, jump_code, args_code, value_code, condition_code, assign_code, local_code, return_code, exit_by, else_at, else_jump, maybe_condition_code, stmt_code, maybe_code, stmts_code, function_code}
use Rattle.fx_c_lower_ranges_law.specs.Ranges.{IsWhole, RightInRange, IsSize, OpInRange}
use Rattle.fx_c_lower_ranges_law.proofs.Nodes.{LocalIn, PairIn, NodeIn, CopyIn, StartIn, StmtIn, OtherIn, StmtsIn}

module _ (p : Program) (f : Function) where
  abbrev pub AreIn : List Step → Type 0
  AreIn [] = Unit {0}
  AreIn (x ∷ xs) = OpInRange p f x.op × AreIn xs

  both : (xs ys : List Step) → AreIn xs → AreIn ys → AreIn (xs ++ ys)
  both [] ys h k = k
  both (x ∷ xs) ys h k = (h.0, both xs ys h.1 k)

  either : (b : Bool) (xs ys : List Step) → AreIn xs → AreIn ys → AreIn (chosen b xs ys)
  either true xs ys h k = h
  either false xs ys h k = k

  pub step_in : (xs : List Step) (k : ℕ) (x : Step) → AreIn xs → slice_get xs k ≡ Some x → OpInRange p f x.op
  step_in [] k x h e = absurd (none_some e) where
    none_some : None ≡ Some x → ⊥
    none_some z = cc
  step_in (y ∷ ys) zero x h e = subst (λ (s : Step). OpInRange p f s.op) (same e) h.0 where
    same : Some y ≡ Some x → y ≡ x
    same z = cc
  step_in (y ∷ ys) (suc k) x h e = step_in ys k x h.1 e

  -- ---- operands

  abbrev DirectIn : Direct → Type 0
  DirectIn (Whole n) = IsWhole f n
  DirectIn d = Unit {0}

  convert_direct_in : (s t : TyTree) (d : Direct) → DirectIn (converted_direct s t d)
  convert_direct_in (IntTy i) (IntTy j) (Constant w cost) = tt
  convert_direct_in (IntTy i) (PtrTy t) (Constant w cost) = tt
  convert_direct_in (PtrTy s) (PtrTy t) (Constant w cost) = tt
  convert_direct_in s t d = tt

  cast_direct_in : (b : Bool) (s t : TyTree) (d : Direct) → DirectIn d → DirectIn (chosen b d (converted_direct s t d))
  cast_direct_in true s t d h = h
  cast_direct_in false s t d h = convert_direct_in s t d

  whole_in : (b : Bool) (ty : TyTree) (n : ℕ) → is_scalar ty ≡ b → LocalIn f ty n → DirectIn (chosen b (Whole n) Other)
  whole_in true ty n e h = (h.0, ap is_scalar h.1 ∙ e)
  whole_in false ty n e h = tt

  direct_in : (e : TExprTree) → Each (NodeIn p f) e → DirectIn (direct p e)
  direct_in (ELocal ty n) h = whole_in (is_scalar ty) ty n refl h
  direct_in (ECast ty e) h = cast_direct_in (same_type (type_of e) ty) (type_of e) ty (direct p e) (direct_in e h.1)
  direct_in (EConvert ty e) h = cast_direct_in (same_type (type_of e) ty) (type_of e) ty (direct p e) (direct_in e h.1)
  direct_in e h = tt

  number_in : (b : Bool) (w : ℕ) → holds_key w ≡ b → RightInRange f (chosen b right.Pending (right.Number w))
  number_in true w e = tt
  number_in false w e = e

  right_by_in : (d : Direct) → DirectIn d → RightInRange f (right_by d)
  right_by_in (Constant w cost) h = number_in (holds_key w) w refl
  right_by_in (Whole n) h = h
  right_by_in Other h = tt

  as_long_in : (i : IntType) (d : Direct) → DirectIn d → DirectIn (as_long i d)
  as_long_in i (Constant w cost) h = tt
  as_long_in i (Whole n) h = h
  as_long_in i Other h = tt

  right_in : (o : Binop) (s t : TyTree) (d : Direct) → DirectIn d → RightInRange f (right_of o s t d)
  right_in o (IntTy i) (IntTy j) d h = right_by_in d h
  right_in Add (PtrTy t) (IntTy i) d h = right_by_in (as_long i d) (as_long_in i d h)
  right_in Sub (PtrTy s) (PtrTy t) d h = tt
  right_in o (PtrTy s) (PtrTy t) d h = right_by_in d h
  right_in o s t d h = tt

  -- ---- pieces

  load_in : (l b : Bool) (owed : ℕ) (ty : TyTree) → is_scalar ty ≡ b → AreIn (load_code (l && b) owed ty)
  load_in true true owed ty e = (e, tt)
  load_in true false owed ty e = tt
  load_in false true owed ty e = tt
  load_in false false owed ty e = tt

  by_in : (d : Direct) (owed : ℕ) (xs : List Step) (e : TExprTree) (owes : ℕ) → DirectIn d → AreIn xs → AreIn (value_by d owed xs (is_loaded e) owes (type_of e))
  by_in (Constant w cost) owed xs e owes d h = (tt, tt)
  by_in (Whole n) owed xs e owes d h = (d, tt)
  by_in Other owed xs e owes d h = both xs _ h (load_in (is_lvalue e) (is_scalar (type_of e)) owes (type_of e) refl)

  unary_in : (o : Unop) (owed : ℕ) (ty : TyTree) → AreIn (unary_code o owed ty)
  unary_in Deref owed ty = tt
  unary_in Addr owed ty = tt
  unary_in o owed ty = (tt, tt)

  convert_in : (owed : ℕ) (s t : TyTree) → AreIn (convert_code owed s t)
  convert_in owed (IntTy i) (IntTy j) = (tt, tt)
  convert_in owed (PtrTy s) (IntTy j) = (refl, tt)
  convert_in owed s t = tt

  cast_in : (owed : ℕ) (s t : TyTree) → AreIn (cast_code owed s t)
  cast_in owed s t = either (same_type s t) [] _ tt (convert_in owed s t)

  widening_in : (owed : ℕ) (i : IntType) → AreIn (widening owed i)
  widening_in owed Long = tt
  widening_in owed Ulong = tt
  widening_in owed i = (tt, tt)

  left_in : (o : Binop) (owed : ℕ) (s t : TyTree) → AreIn (left_code o owed s t)
  left_in Add owed (IntTy i) (PtrTy t) = widening_in owed i
  left_in o owed s t = tt

  second_in : (r : Right) (xs : List Step) → AreIn xs → AreIn (right_code r xs)
  second_in right.Pending xs h = h
  second_in (right.Number w) xs h = tt
  second_in (right.Local n) xs h = tt

  added_in : (owed : ℕ) (r : Right) (bytes : ℕ) (i : IntType) → IsSize bytes → RightInRange f r → AreIn (move_code owed r Add bytes i)
  added_in owed right.Pending bytes i s h = both (widening owed i) _ (widening_in owed i) ((s, tt), tt)
  added_in owed (right.Number w) bytes i s h = ((s, h), tt)
  added_in owed (right.Local n) bytes i s h = ((s, h), tt)

  combine_in : (owed : ℕ) (o : Binop) (s t : TyTree) (d : Direct) → PairIn p o s t → DirectIn d → AreIn (combine_code p owed (right_of o s t d) o s t)
  combine_in owed o (IntTy i) (IntTy j) d h k = (right_by_in d k, tt)
  combine_in owed Add (PtrTy s) (IntTy i) d h k = added_in owed (right_by (as_long i d)) (size_in p s) i h (right_by_in (as_long i d) (as_long_in i d k))
  combine_in owed Sub (PtrTy s) (IntTy i) d h k = both (widening owed i) _ (widening_in owed i) (h, tt)
  combine_in owed o (PtrTy s) (IntTy i) d h k = (tt, tt)
  combine_in owed Sub (PtrTy s) (PtrTy t) d h k = (h, tt)
  combine_in owed o (PtrTy s) (PtrTy t) d h k = (right_by_in d k, tt)
  combine_in owed o (IntTy i) (PtrTy t) d h k = (h, tt)
  combine_in owed o s t d h k = (tt, tt)

  test_in : (at cost : ℕ) (sense : Bool) (to : ℕ) → AreIn (test_code at cost sense to)
  test_in at cost true to = (tt, (tt, tt))
  test_in at cost false to = (tt, tt)

  tell_in : (cost d r : ℕ) → IsDeviceRegister d r → AreIn (costing cost (tell_op d r) ∷ [])
  tell_in cost zero zero h = (tt, tt)
  tell_in cost zero (suc r) h = (h, tt)
  tell_in cost (suc d) r h = (h, tt)

  ask_in : (cost d r : ℕ) → IsDeviceRegister d r → AreIn (costing cost (ask_op d r) ∷ [])
  ask_in cost zero zero h = (tt, tt)
  ask_in cost zero (suc r) h = (h, tt)
  ask_in cost (suc d) r h = (h, tt)

  -- ---- expressions

  value_in : (at owed : ℕ) (e : TExprTree) → Each (NodeIn p f) e → AreIn (reach_code p at owed e) → AreIn (value_code p at owed e)
  value_in at owed e h x = by_in (direct p e) owed (reach_code p at owed e) e (late p e) (direct_in e h) x

  binary_in : (o : Binop) (a b : TExprTree) (xs ys : List Step) → PairIn p o (type_of a) (type_of b) → Each (NodeIn p f) b → AreIn xs → AreIn ys → AreIn (binary_code p o a b xs ys)
  binary_in o a b xs ys pair h x y =
      both xs _ x (both (left_code o (value_late p a) (type_of a) (type_of b)) _ (left_in o (value_late p a) (type_of a) (type_of b))
      (both (right_code (right_of o (type_of a) (type_of b) (direct p b)) ys) _ (second_in (right_of o (type_of a) (type_of b) (direct p b)) ys y) (combine_in _ o (type_of a) (type_of b) (direct p b) pair (direct_in b h))))

  compare_in : (more : ℕ) (sense : Bool) (to : ℕ) (o : Binop) (a b : TExprTree) (xs ys : List Step) → Each (NodeIn p f) b → AreIn xs → AreIn ys → AreIn (compare_code p more sense to o a b xs ys)
  compare_in more sense to o a b xs ys h x y =
      both xs _ x (both (right_code (right_of o (type_of a) (type_of b) (direct p b)) ys) _ (second_in (right_of o (type_of a) (type_of b) (direct p b)) ys y) (right_in o (type_of a) (type_of b) (direct p b) (direct_in b h), tt))

  mutual
    reach_in : (at owed : ℕ) (e : TExprTree) → Each (NodeIn p f) e → AreIn (reach_code p at owed e)
    reach_in at owed (ENumber ty w) h = (tt, tt)
    reach_in at owed (ELiteral ty n) h = (h, tt)
    reach_in at owed (EGlobal ty n) h = (h, tt)
    reach_in at owed (ELocal ty n) h = (h.0, tt)
    reach_in at owed (EUn ty o e) h =
        either (takes_value o) _ _ (both (value_code p at owed e) _ (value_in at owed e h.1 (reach_in at owed e h.1)) (unary_in o (value_late p e) (type_of e))) (reach_in at owed e h.1)
    reach_in at owed (EBin ty o a b) h =
        either (is_logical o) _ _
        (both _ _ (jump_in at owed _ _ _ a _ h.1 (value_in at owed a h.1 (reach_in at owed a h.1)))
        (both _ _ (jump_in _ 0 1 false _ b _ h.2 (value_in _ 0 b h.2 (reach_in _ 0 b h.2))) (tt, (tt, (tt, tt)))))
        (binary_in o a b _ _ h.0 h.2 (value_in at owed a h.1 (reach_in at owed a h.1)) (value_in _ _ b h.2 (reach_in _ _ b h.2)))
    reach_in at owed (ECast ty e) h = both (value_code p at owed e) _ (value_in at owed e h.1 (reach_in at owed e h.1)) (cast_in (value_late p e) (type_of e) ty)
    reach_in at owed (EConvert ty e) h = both (value_code p at owed e) _ (value_in at owed e h.1 (reach_in at owed e h.1)) (cast_in (value_late p e) (type_of e) ty)
    reach_in at owed (ESize ty t) h = (tt, tt)
    reach_in at owed (EIndex ty a b) h = binary_in Add a b _ _ h.0 h.2 (value_in at owed a h.1 (reach_in at owed a h.1)) (value_in _ _ b h.2 (reach_in _ _ b h.2))
    reach_in at owed (EMember ty e n) h = both (reach_code p at owed e) _ (reach_in at owed e h.1) (tt, tt)
    reach_in at owed (EArrow ty e n) h = both (value_code p at owed e) _ (value_in at owed e h.1 (reach_in at owed e h.1)) (tt, tt)
    reach_in at owed (ECall ty g all) h = args_in at owed Plainly g all h.1 h.0
    reach_in at owed (EGate ty g all) h = args_in at owed ByGate g all h.1 h.0
    reach_in at owed (EGetc ty) h = (tt, tt)
    reach_in at owed (EPutc ty e) h = both (value_code p at owed e) _ (value_in at owed e h.1 (reach_in at owed e h.1)) (tt, tt)
    reach_in at owed (EDevLoad ty d r) h = ask_in (1 + owed) d r h
    reach_in at owed (EDevStore ty d r e) h = both (value_code p at owed e) _ (value_in at owed e h.1 (reach_in at owed e h.1)) (tell_in (1 + value_late p e) d r h.0)
    reach_in at owed (ESpawn ty g e) h = both (value_code p at owed e) _ (value_in at owed e h.1 (reach_in at owed e h.1)) (h.0, tt)
    reach_in at owed (ESwitch ty e) h = both (value_code p at owed e) _ (value_in at owed e h.1 (reach_in at owed e h.1)) (tt, tt)
    reach_in at owed (EMe ty) h = (tt, tt)

    jump_in : (at owed more : ℕ) (sense : Bool) (to : ℕ) (e : TExprTree) (code : List Step) → Each (NodeIn p f) e → AreIn code → AreIn (jump_code p at owed more sense to e code)
    jump_in at owed more sense to (EUn ty Lnot e) code h x = jump_in at owed _ _ _ e _ h.1 (value_in at owed e h.1 (reach_in at owed e h.1))
    jump_in at owed more sense to (EBin ty o a b) code h x =
        either (is_logical o) _ _
        (both _ _ (jump_in at owed _ _ _ a _ h.1 (value_in at owed a h.1 (reach_in at owed a h.1)))
        (tt, jump_in _ 0 _ _ _ b _ h.2 (value_in _ 0 b h.2 (reach_in _ 0 b h.2))))
        (either (is_comparison o) _ _
        (compare_in more sense to o a b _ _ h.2 (value_in at owed a h.1 (reach_in at owed a h.1)) (value_in _ _ b h.2 (reach_in _ _ b h.2)))
        (both code _ x (test_in _ _ sense to)))
    jump_in at owed more sense to (EConvert ty e) code h x =
        either (tests_pointer (type_of e) ty) _ _ (both (value_code p at owed e) _ (value_in at owed e h.1 (reach_in at owed e h.1)) (refl, tt)) (both code _ x (test_in _ _ sense to))
    jump_in at owed more sense to e code h x = both code _ x (test_in _ _ sense to)

    args_in : (at owed : ℕ) (way : Way) (g : ℕ) (all : TExprTrees) → EachOfAll (NodeIn p f) all → OpInRange p f (op.Call g) → AreIn (args_code p at owed way g all)
    args_in at owed ByGate g NoTExprs h k = (k, tt)
    args_in at owed Plainly g NoTExprs h k = (k, tt)
    args_in at owed First g NoTExprs h k = (k, tt)
    args_in at owed way g (MoreTExprs a more) h k = both (value_code p at owed a) _ (value_in at owed a h.0 (reach_in at owed a h.0)) (args_in _ _ way g more h.1 k)

  condition_in : (at to : ℕ) (e : TExprTree) → Each (NodeIn p f) e → AreIn (condition_code p at to e)
  condition_in at to e h = jump_in at 0 1 false to e (value_code p at 0 e) h (value_in at 0 e h (reach_in at 0 e h))

  valued : (at owed : ℕ) (e : TExprTree) → Each (NodeIn p f) e → AreIn (value_code p at owed e)
  valued at owed e h = value_in at owed e h (reach_in at owed e h)

  -- ---- statements

  assign_op_in : (cost : ℕ) (ty : TyTree) → CopyIn p ty → AreIn (costing cost (assign_op p ty) ∷ [])
  assign_op_in cost (IntTy i) h = (refl, tt)
  assign_op_in cost (PtrTy t) h = (refl, tt)
  assign_op_in cost ty h = (h, tt)

  -- the variable that is assigned whole
  abbrev TargetIn : Option ℕ → Type 0
  TargetIn None = Unit {0}
  TargetIn (Some n) = IsWhole f n

  assign_in : (at : ℕ) (x : Option ℕ) (to e : TExprTree) → TargetIn x → CopyIn p (type_of to) → Each (NodeIn p f) to → Each (NodeIn p f) e → AreIn (assign_code p at x to e)
  assign_in at (Some n) to e w c h k = both (value_code p at 1 e) _ (valued at 1 e k) (w, tt)
  assign_in at None to e w c h k = both (reach_code p at 0 to) _ (reach_in at 0 to h) (both (value_code p (at + reach_len p to) (late p to) e) _ (valued (at + reach_len p to) (late p to) e k) (assign_op_in (1 + value_late p e) (type_of to) c))

  target_by : (b : Bool) (ty : TyTree) (n : ℕ) → is_scalar ty ≡ b → LocalIn f ty n → TargetIn (chosen b (Some n) None)
  target_by true ty n e h = (h.0, ap is_scalar h.1 ∙ e)
  target_by false ty n e h = tt

  target_in : (to : TExprTree) → Each (NodeIn p f) to → TargetIn (whole_local to)
  target_in (ELocal ty n) h = target_by (is_scalar ty) ty n refl h
  target_in e h = tt

  start_in : (at n : ℕ) (init : Option TExprTree) → StartIn p f n init → AreIn (local_code p at n init)
  start_in at n None h = tt
  start_in at n (Some e) h = assign_in at (whole_local (ELocal (type_of e) n)) (ELocal (type_of e) n) e (target_in (ELocal (type_of e) n) h.0) h.1 h.0 h.2

  fall_in : (g : TyTree) → AreIn (fall_code g)
  fall_in (IntTy i) = (tt, (tt, tt))
  fall_in (PtrTy t) = (tt, (tt, tt))
  fall_in g = (tt, tt)

  return_in : (g : TyTree) (at : ℕ) (e : Option TExprTree) → EachOfValue (NodeIn p f) e → AreIn (return_code p g at e)
  return_in g at None h = fall_in g
  return_in g at (Some e) h = both (value_code p at 0 e) _ (valued at 0 e h) (tt, tt)

  maybe_test_in : (at exit : ℕ) (test : Option TExprTree) → EachOfValue (NodeIn p f) test → AreIn (maybe_condition_code p at exit test)
  maybe_test_in at exit None h = tt
  maybe_test_in at exit (Some e) h = condition_in at exit e h

  else_in : (other : MaybeTStmt) (exit : ℕ) → AreIn (else_jump other exit)
  else_in NoTStmt exit = tt
  else_in (OneTStmt s) exit = (tt, tt)

  mutual
    stmt_in : (g : TyTree) (at exit leave again : ℕ) (s : TStmtTree) → StmtIn p f s → AreIn (stmt_code p g at exit leave again s)
    stmt_in g at exit leave again SEmpty h = tt
    stmt_in g at exit leave again (SBlock all) h = stmts_in g at exit leave again all h
    stmt_in g at exit leave again (SLocal n init) h = start_in at n init h
    stmt_in g at exit leave again (SEval e) h = both (value_code p at 0 e) _ (valued at 0 e h) (tt, tt)
    stmt_in g at exit leave again (SAssign to e) h = assign_in at (whole_local to) to e (target_in to h.1) h.0 h.1 h.2
    stmt_in g at exit leave again (SIf test s other) h =
        both _ _ (condition_in at (else_at other (at + condition_len p test + stmt_len p g s) exit) test h.0) (both _ _ (stmt_in g (at + condition_len p test) exit leave again s h.1) (both _ _ (else_in other exit) (other_in g (at + condition_len p test + stmt_len p g s + 1) exit leave again other h.2)))
    stmt_in g at exit leave again (SWhile test s) h = both _ _ (condition_in at exit test h.0) (both _ _ (stmt_in g (at + condition_len p test) (at + condition_len p test + stmt_len p g s) exit at s h.1) (tt, tt))
    stmt_in g at exit leave again (SFor first test next s) h =
        let lf = maybe_len p g first in
        let lc = maybe_condition_len p test in
        let ls = stmt_len p g s in
        let ln = maybe_len p g next in
        both _ _ (other_in g at (at + lf) leave again first h.0) (both _ _ (maybe_test_in (at + lf) exit test h.1) (both _ _ (stmt_in g (at + lf + lc) (at + lf + lc + ls) exit (at + lf + lc + ls) s h.3) (both _ _ (other_in g (at + lf + lc + ls) (at + lf + lc + ls + ln) leave again next h.2) (tt, tt))))
    stmt_in g at exit leave again SBreak h = (tt, tt)
    stmt_in g at exit leave again SContinue h = (tt, tt)
    stmt_in g at exit leave again (SReturn e) h = return_in g at e h

    other_in : (g : TyTree) (at exit leave again : ℕ) (s : MaybeTStmt) → OtherIn p f s → AreIn (maybe_code p g at exit leave again s)
    other_in g at exit leave again NoTStmt h = tt
    other_in g at exit leave again (OneTStmt s) h = stmt_in g at exit leave again s h

    stmts_in : (g : TyTree) (at exit leave again : ℕ) (all : TStmtTrees) → StmtsIn p f all → AreIn (stmts_code p g at exit leave again all)
    stmts_in g at exit leave again NoTStmts h = tt
    stmts_in g at exit leave again (MoreTStmts s more) h = both _ _ (stmt_in g at (exit_by (stmts_len p g more) exit (at + stmt_len p g s)) leave again s h.0) (stmts_in g (at + stmt_len p g s) exit leave again more h.1)

  pub function_in : StmtsIn p f f.body → AreIn (function_code p f)
  function_in h = both _ (fall_code f.gives) (stmts_in f.gives 0 (stmts_len p f.gives f.body) 0 0 f.body h) (fall_in f.gives)
