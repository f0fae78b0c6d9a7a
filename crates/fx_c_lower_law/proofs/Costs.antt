-- What is owed is paid by the op that stands there.
use Rattle.std.proofs.Common.{◌≡◌, Bool, true, false, ℕ, zero, suc, ◌+◌, ◌≤◌, inl, inr, List, [], ◌∷◌, ◌++◌, Some, refl, sym, subst, arith}
use Rattle.std.proofs.lemmas.List.{append-nil}
use Rattle.std.specs.Prelude.{slice_get}
use Rattle.fx_c_ast.specs.declared.operator.IntType.{IntType}
use Rattle.fx_c_ast.specs.declared.operator.IntType.TheVariants.{Long, Ulong}
use Rattle.fx_c_ast.specs.declared.operator.Unop.TheVariants.{Lnot, Deref, Addr}
use Rattle.fx_c_ast.specs.declared.operator.Binop.{Binop}
use Rattle.fx_c_ast.specs.declared.operator.Binop.TheVariants.{Add, Sub}
use Rattle.fx_c_ast.specs.CheckedTrees.{TyTree, IntTy, PtrTy, TExprTree, ENumber, ELocal, EUn, EBin, ECast, EConvert, ESize, EIndex, EMember, EArrow, ECall, EGate, EPutc, EDevStore, ESpawn, ESwitch, TExprTrees, NoTExprs, MoreTExprs}
use Rattle.fx_c_mean_blocks.specs.declared.value.Value.{Value}
use Rattle.fx_c_mean_model.specs.Programs.{Program}
use Rattle.fx_c_mean_model.specs.States.{Way, Plainly, ByGate, Call, Frame, Loads, Applies, Converts, Steps, Second, Combines, Decides, Truth, Arguments, Tells, Spawns, Switches, Target, Into, Discards, Forks, Tests, Answers, type_of, same_type, is_scalar}
use Rattle.fx_c_lin.specs.declared.op.Right.{Right}
use Rattle.fx_c_lin.specs.declared.op.Right.TheVariants as right
use Rattle.fx_c_lin.specs.Ops.{Step}
use Rattle.fx_c_lin.specs.Ops as op
use Rattle.fx_c_lin.specs.Machine.{At, settle}
use Rattle.fx_c_lower_model.specs.Steps.{costing, chosen, load_code, is_logical, is_comparison, tests_pointer}
use Rattle.fx_c_lower_model.specs.Direct.{Direct, Constant, Whole, Other, direct, converted_direct, right_of, right_owed}
use Rattle.fx_c_lower_model.specs.Operands.{left_code, left_late, move_code, combine_code, test_code}
use Rattle.fx_c_lower_model.specs.Code.{value_by, right_code, reach_code, jump_code, args_code, value_code}
use Rattle.fx_c_lower_law.specs.Fits.{FitsPair}
use Rattle.fx_c_lower_law.proofs.Places.{HasAt, has_front}
use Rattle.fx_c_lower_law.proofs.Relation as relation
use Rattle.fx_c_lower_law.proofs.Relation.{is_wide}

-- an op of at least this cost stands at the place
pub record Costs (code : List Step) (at n : ℕ) : Type 0 where
  pub step : Step
  pub here : slice_get code at ≡ Some step
  pub least : n ≤ step.cost

pub costly : (code : List Step) (at m n : ℕ) → n ≤ m → Costs code at m → Costs code at n
costly code at m n le h = record { step = h.step; here = h.here; least = omega (arith, le, h.least) }

pub settle_here : (code : List Step) (n at : ℕ) (stack : List Value) → Costs code at 1 → settle code n at stack ≡ At at stack
settle_here code zero at stack h = refl
settle_here code (suc n) at stack h = by h.step.cost refl h.least where
  by : (c : ℕ) → h.step.cost ≡ c → 1 ≤ h.step.cost → settle code (suc n) at stack ≡ At at stack
  by zero e le = absurd (omega (arith, e, le))
  by (suc c) e le = rw (h.here, e)

-- ---- constants

abbrev pub AtLeast : Direct → Type 0
AtLeast (Constant w cost) = 1 ≤ cost
AtLeast d = Unit {0}

converted_least : (s t : TyTree) (d : Direct) → AtLeast (converted_direct s t d)
converted_least (IntTy i) (IntTy j) (Constant w cost) = omega arith
converted_least (IntTy i) (PtrTy t) (Constant w cost) = omega arith
converted_least (PtrTy s) (PtrTy t) (Constant w cost) = omega arith
converted_least s t d = tt

least_of : (b : Bool) (c d : Direct) → AtLeast c → AtLeast d → AtLeast (chosen b c d)
least_of true c d h k = h
least_of false c d h k = k

pub direct_least : (p : Program) (e : TExprTree) → AtLeast (direct p e)
direct_least p (ENumber ty w) = omega arith
direct_least p (ESize ty t) = omega arith
direct_least p (ELocal ty n) = least_of (is_scalar ty) (Whole n) Other tt tt
direct_least p (ECast ty e) = least_of (same_type (type_of e) ty) (direct p e) _ (direct_least p e) (converted_least (type_of e) ty (direct p e))
direct_least p (EConvert ty e) = least_of (same_type (type_of e) ty) (direct p e) _ (direct_least p e) (converted_least (type_of e) ty (direct p e))
direct_least p e = tt

-- ---- expressions

value_owes : (d : Direct) (code xs ys : List Step) (at owed : ℕ) (b : Bool) (owes : ℕ) (ty : TyTree) → AtLeast d → (HasAt code at xs → Costs code at (1 + owed)) → HasAt code at (value_by d owed xs b owes ty ++ ys) → Costs code at (1 + owed)
value_owes (Constant w cost) code xs ys at owed b owes ty le by h = record { step = _; here = h.0; least = omega (arith, le) }
value_owes (Whole n) code xs ys at owed b owes ty le by h = record { step = _; here = h.0; least = omega arith }
value_owes Other code xs ys at owed b owes ty le by h = by (has_front code at xs _ (has_front code at (xs ++ load_code b owes ty) ys h))

either : (b : Bool) (code xs ys : List Step) (at n : ℕ) → (HasAt code at xs → Costs code at n) → (HasAt code at ys → Costs code at n) → HasAt code at (chosen b xs ys) → Costs code at n
either true code xs ys at n f g h = f h
either false code xs ys at n f g h = g h

module _ (p : Program) where
  mutual
    pub first_owes : (e : TExprTree) (code : List Step) (at place owed : ℕ) → HasAt code at (reach_code p place owed e) → Costs code at (1 + owed)
    first_owes (EUn ty Addr e) code at place owed h = first_owes e code at place owed h
    first_owes (EUn ty o e) code at place owed h =
        value_owes (direct p e) code _ _ at owed _ _ _ (direct_least p e) (λ k. first_owes e code at place owed k) h
    first_owes (EBin ty o a b) code at place owed h =
        either (is_logical o) code _ _ at (1 + owed)
        (λ k. jump_owes a code _ _ at place owed _ _ _ (λ zs l. value_owes (direct p a) code _ zs at owed _ _ _ (direct_least p a) (λ m. first_owes a code at place owed m) l) k)
        (λ k. value_owes (direct p a) code _ _ at owed _ _ _ (direct_least p a) (λ m. first_owes a code at place owed m) k) h
    first_owes (ECast ty e) code at place owed h = value_owes (direct p e) code _ _ at owed _ _ _ (direct_least p e) (λ k. first_owes e code at place owed k) h
    first_owes (EConvert ty e) code at place owed h = value_owes (direct p e) code _ _ at owed _ _ _ (direct_least p e) (λ k. first_owes e code at place owed k) h
    first_owes (EIndex ty a b) code at place owed h = value_owes (direct p a) code _ _ at owed _ _ _ (direct_least p a) (λ k. first_owes a code at place owed k) h
    first_owes (EMember ty e n) code at place owed h = first_owes e code at place owed (has_front code at (reach_code p place owed e) _ h)
    first_owes (EArrow ty e n) code at place owed h = value_owes (direct p e) code _ _ at owed _ _ _ (direct_least p e) (λ k. first_owes e code at place owed k) h
    first_owes (ECall ty f all) code at place owed h = args_owe all code at place owed Plainly f h
    first_owes (EGate ty f all) code at place owed h = args_owe all code at place owed ByGate f h
    first_owes (EPutc ty e) code at place owed h = value_owes (direct p e) code _ _ at owed _ _ _ (direct_least p e) (λ k. first_owes e code at place owed k) h
    first_owes (EDevStore ty d r e) code at place owed h = value_owes (direct p e) code _ _ at owed _ _ _ (direct_least p e) (λ k. first_owes e code at place owed k) h
    first_owes (ESpawn ty f e) code at place owed h = value_owes (direct p e) code _ _ at owed _ _ _ (direct_least p e) (λ k. first_owes e code at place owed k) h
    first_owes (ESwitch ty e) code at place owed h = value_owes (direct p e) code _ _ at owed _ _ _ (direct_least p e) (λ k. first_owes e code at place owed k) h
    first_owes _ code at place owed h = record { step = _; here = h.0; least = omega arith }

    -- a condition, before further code
    pub jump_owes : (e : TExprTree) (code value ys : List Step) (at place owed more : ℕ) (sense : Bool) (to : ℕ) → ((zs : List Step) → HasAt code at (value ++ zs) → Costs code at (1 + owed)) → HasAt code at (jump_code p place owed more sense to e value ++ ys) → Costs code at (1 + owed)
    jump_owes (EUn ty Lnot e) code value ys at place owed more sense to by h =
        jump_owes e code _ ys at place owed _ _ _ (λ zs k. value_owes (direct p e) code _ zs at owed _ _ _ (direct_least p e) (λ l. first_owes e code at place owed l) k) h
    jump_owes (EBin ty o a b) code value ys at place owed more sense to by h =
        either (is_logical o) code _ _ at (1 + owed)
        (λ k. jump_owes a code _ _ at place owed _ _ _ (λ zs l. value_owes (direct p a) code _ zs at owed _ _ _ (direct_least p a) (λ m. first_owes a code at place owed m) l) k)
        (λ k. either (is_comparison o) code _ _ at (1 + owed)
        (λ l. value_owes (direct p a) code _ _ at owed _ _ _ (direct_least p a) (λ m. first_owes a code at place owed m) l)
        (λ l. by _ l) k)
        (has_front code at (jump_code p place owed more sense to (EBin ty o a b) value) ys h)
    jump_owes (EConvert ty e) code value ys at place owed more sense to by h =
        either (tests_pointer (type_of e) ty) code _ _ at (1 + owed)
        (λ k. value_owes (direct p e) code _ _ at owed _ _ _ (direct_least p e) (λ l. first_owes e code at place owed l) k)
        (λ k. by _ k)
        (has_front code at (jump_code p place owed more sense to (EConvert ty e) value) ys h)
    jump_owes e code value ys at place owed more sense to by h = by _ (has_front code at (jump_code p place owed more sense to e value) ys h)

    pub args_owe : (all : TExprTrees) (code : List Step) (at place owed : ℕ) (way : Way) (f : ℕ) → HasAt code at (args_code p place owed way f all) → Costs code at (1 + owed)
    args_owe NoTExprs code at place owed way f h = record { step = _; here = h.0; least = omega arith }
    args_owe (MoreTExprs e more) code at place owed way f h = value_owes (direct p e) code _ _ at owed _ _ _ (direct_least p e) (λ k. first_owes e code at place owed k) h

  -- a value, before further code
  pub start_owes : (e : TExprTree) (code : List Step) (at place owed : ℕ) (ys : List Step) → HasAt code at (value_code p place owed e ++ ys) → Costs code at (1 + owed)
  start_owes e code at place owed ys h = value_owes (direct p e) code _ ys at owed _ _ _ (direct_least p e) (λ k. first_owes e code at place owed k) h

  -- a condition
  pub condition_owes : (e : TExprTree) (code : List Step) (at place owed more : ℕ) (sense : Bool) (to : ℕ) (ys : List Step) → HasAt code at (jump_code p place owed more sense to e (value_code p place owed e) ++ ys) → Costs code at (1 + owed)
  condition_owes e code at place owed more sense to ys h = jump_owes e code _ ys at place owed more sense to (λ zs k. start_owes e code at place owed zs k) h

  -- a condition by itself
  pub condition_here : (e : TExprTree) (code : List Step) (at place owed more : ℕ) (sense : Bool) (to : ℕ) → HasAt code at (jump_code p place owed more sense to e (value_code p place owed e)) → Costs code at 1
  condition_here e code at place owed more sense to h =
      costly code at (1 + owed) 1 (omega arith) (condition_owes e code at place owed more sense to [] (subst (λ l. HasAt code at l) (sym (append-nil (jump_code p place owed more sense to e (value_code p place owed e)))) h))

-- ---- what is awaited

-- an integer that is widened pays what is owed
abbrev pub left_pays : Binop → TyTree → TyTree → Bool
left_pays Add (IntTy i) (PtrTy t) = is_wide i
left_pays o s t = false

abbrev pub right_pays : TyTree → TyTree → Bool
right_pays (PtrTy t) (IntTy i) = is_wide i
right_pays s t = false

test_here : (code : List Step) (at cost : ℕ) (sense : Bool) (to : ℕ) → HasAt code at (test_code at cost sense to) → Costs code at cost
test_here code at cost true to h = record { step = _; here = h.0; least = omega arith }
test_here code at cost false to h = record { step = _; here = h.0; least = omega arith }

module _ (p : Program) (all : List (List Step)) where
  abbrev Awaits : Call → (owed : ℕ) → List Frame → ℕ → List Value → Type 0
  Awaits c owed rest at stack = relation.Awaits p all c owed rest at stack

  abbrev Turns : Call → List Frame → (cost : ℕ) → Bool → ℕ → List Value → Type 0
  Turns c rest cost b to below = relation.Turns p all c rest cost b to below

  abbrev K : Call → List Step
  K c = relation.K p all c

  truth_least : (rest : List Frame) (c : Call) (cost : ℕ) (b : Bool) (to : ℕ) (below : List Value) → Turns c (Truth ∷ rest) cost b to below → 1 ≤ cost
  truth_least rest c cost b to below (inl h) = omega (arith, h.0)
  truth_least rest c cost b to below (inr h) = omega (arith, h.1)

  -- what a truth leads to costs something
  pub turns_least : (rest : List Frame) (c : Call) (cost : ℕ) (b : Bool) (to : ℕ) (below : List Value) → Turns c rest cost b to below → 1 ≤ cost
  turns_least [] c cost b to below h = absurd h
  turns_least (Applies Lnot ty ∷ rest) c cost b to below h = omega (arith, h.1)
  turns_least (Decides o e ∷ rest) c cost b to below h = omega (arith, h.0)
  turns_least (Truth ∷ rest) c cost b to below h = truth_least rest c cost b to below h
  turns_least (Forks s other ∷ rest) c cost b to below h = omega (arith, h.0)
  turns_least (Tests loop ∷ rest) c cost b to below h = omega (arith, h.0)
  turns_least (x ∷ rest) c cost b to below h = absurd h

  abbrev pub either_paid : Bool → ℕ → ℕ
  either_paid true owed = owed
  either_paid false owed = 1 + owed

  abbrev pub paid_left : Binop → TyTree → TyTree → ℕ → ℕ
  paid_left o s t owed = either_paid (left_pays o s t) owed

  abbrev pub paid_right : TyTree → TyTree → ℕ → ℕ
  paid_right s t owed = either_paid (right_pays s t) owed

  -- what an op costs at least that stands where a value is awaited
  abbrev pub paid : List Frame → ℕ → ℕ
  paid (Discards ∷ rest) owed = owed
  paid (Second o first b ∷ rest) owed = paid_left o first (type_of b) owed
  paid (Combines o first second v ∷ rest) owed = paid_right first second owed
  paid rest owed = 1 + owed

  paid_between : (b : Bool) (owed : ℕ) → (owed ≤ either_paid b owed) × (either_paid b owed ≤ 1 + owed)
  paid_between true owed = (omega arith, omega arith)
  paid_between false owed = (omega arith, omega arith)

  left_between : (o : Binop) (s t : TyTree) (owed : ℕ) → (owed ≤ paid_left o s t owed) × (paid_left o s t owed ≤ 1 + owed)
  left_between o s t owed = paid_between (left_pays o s t) owed

  right_between : (s t : TyTree) (owed : ℕ) → (owed ≤ paid_right s t owed) × (paid_right s t owed ≤ 1 + owed)
  right_between s t owed = paid_between (right_pays s t) owed

  pub paid_least : (rest : List Frame) (owed : ℕ) → owed ≤ paid rest owed
  paid_least [] owed = omega arith
  paid_least (Discards ∷ rest) owed = omega arith
  paid_least (Second o first b ∷ rest) owed = (left_between o first (type_of b) owed).0
  paid_least (Combines o first second v ∷ rest) owed = (right_between first second owed).0
  paid_least (x ∷ rest) owed = omega arith

  tested : (X : ℕ → Bool → ℕ → List Value → Type 0) (c : Call) (owed at : ℕ) (stack : List Value) → ((cost : ℕ) (b : Bool) (to : ℕ) (below : List Value) → X cost b to below → 1 ≤ cost) → relation.Tested p all c owed X at stack → Costs (K c) at (1 + owed)
  tested X c owed at stack least h =
      costly (K c) at (h.1 + owed) (1 + owed) (omega (arith, least h.1 h.0 h.2 stack h.4)) (test_here (K c) at (h.1 + owed) h.0 h.2 h.3)

  compared : (jump : Bool → ℕ → op.Op) (X : ℕ → Bool → ℕ → List Value → Type 0) (c : Call) (owed at : ℕ) (below : List Value) → relation.ComparedAt p all c owed jump X at below → Costs (K c) at (1 + owed)
  compared jump X c owed at below h = record { step = _; here = h.3.0; least = omega arith }

  abbrev Code : Call → ℕ → List Step → Type 0
  Code c at xs = HasAt (K c) at xs

  combined : (s t : TyTree) (o : Binop) (c : Call) (owed at : ℕ) → FitsPair o s t → Code c at (combine_code p owed right.Pending o s t) → Costs (K c) at (paid_right s t owed)
  combined (IntTy i) (IntTy j) o c owed at fits h = record { step = _; here = h.0; least = omega arith }
  combined (PtrTy t) (IntTy Ulong) Add c owed at fits h = absurd fits
  combined (PtrTy t) (IntTy Long) Add c owed at fits h = record { step = _; here = h.0; least = omega arith }
  combined (PtrTy t) (IntTy i) Add c owed at fits h = record { step = _; here = h.0; least = omega arith }
  combined (PtrTy t) (IntTy Ulong) Sub c owed at fits h = absurd fits
  combined (PtrTy t) (IntTy Long) Sub c owed at fits h = record { step = _; here = h.0; least = omega arith }
  combined (PtrTy t) (IntTy i) Sub c owed at fits h = record { step = _; here = h.0; least = omega arith }
  combined (IntTy i) (PtrTy t) Add c owed at fits h = record { step = _; here = h.0; least = omega arith }
  combined (PtrTy s) (PtrTy t) Sub c owed at fits h = record { step = _; here = h.0; least = omega arith }
  combined (PtrTy s) (PtrTy t) o c owed at fits h = record { step = _; here = h.0; least = omega arith }
  combined s t o c owed at fits h = absurd fits

  combine_owes : (o : Binop) (s t : TyTree) (c : Call) (owed at : ℕ) (below : List Value) (A : ℕ → List Value → Type 0) (X : ℕ → Bool → ℕ → List Value → Type 0) → FitsPair o s t → relation.Combined p all c owed A X right.Pending o s t at below → Costs (K c) at (paid_right s t owed)
  combine_owes o s t c owed at below A X fits (inl h) = combined s t o c owed at fits h.0
  combine_owes o s t c owed at below A X fits (inr h) = costly (K c) at (1 + owed) _ (right_between s t owed).1 (compared (relation.compare_op p all right.Pending o s) X c owed at below h.1)

  -- the right operand, if it is pending, and behind it an op that pays for the left one too
  by_right : (r : Right) (d : Direct) (c : Call) (owed vl at : ℕ) (xs : List Step) (x : op.Op) → ((zs : List Step) → Code c at (xs ++ zs) → Costs (K c) at (1 + owed)) → Code c at (right_code r xs ++ costing (1 + right_owed r d owed vl) x ∷ []) → Costs (K c) at (1 + owed)
  by_right right.Pending d c owed vl at xs x by h = by _ h
  by_right r d c owed vl at xs x by h = record { step = _; here = h.0; least = omega arith }

  by_moved : (r : Right) (d : Direct) (c : Call) (owed vl at bytes : ℕ) (i : IntType) (xs : List Step) → ((zs : List Step) → Code c at (xs ++ zs) → Costs (K c) at (1 + owed)) → Code c at (right_code r xs ++ move_code (right_owed r d owed vl) r Add bytes i) → Costs (K c) at (1 + owed)
  by_moved right.Pending d c owed vl at bytes i xs by h = by _ h
  by_moved r d c owed vl at bytes i xs by h = record { step = _; here = h.0; least = omega arith }

  second_owes : (o : Binop) (s t : TyTree) (d : Direct) (c : Call) (owed vl at : ℕ) (xs : List Step) → FitsPair o s t → ((zs : List Step) → Code c at (xs ++ zs) → Costs (K c) at (1 + left_late o owed s t)) → Code c at (left_code o owed s t ++ (right_code (right_of o s t d) xs ++ combine_code p (right_owed (right_of o s t d) d (left_late o owed s t) vl) (right_of o s t d) o s t)) → Costs (K c) at (paid_left o s t owed)
  second_owes Add (IntTy i) (IntTy j) d c owed vl at xs fits by h = by_right (right_of Add (IntTy i) (IntTy j) d) d c owed vl at xs _ by h
  second_owes o (IntTy i) (IntTy j) d c owed vl at xs fits by h = by_right (right_of o (IntTy i) (IntTy j) d) d c owed vl at xs _ by h
  second_owes Add (PtrTy t) (IntTy i) d c owed vl at xs fits by h = by_moved (right_of Add (PtrTy t) (IntTy i) d) d c owed vl at _ i xs by h
  second_owes Sub (PtrTy t) (IntTy i) d c owed vl at xs fits by h = by _ h
  second_owes Add (IntTy Long) (PtrTy t) d c owed vl at xs fits by h = by _ h
  second_owes Add (IntTy Ulong) (PtrTy t) d c owed vl at xs fits by h = absurd fits
  second_owes Add (IntTy i) (PtrTy t) d c owed vl at xs fits by h = record { step = _; here = h.0; least = omega arith }
  second_owes Sub (PtrTy s) (PtrTy t) d c owed vl at xs fits by h = by _ h
  second_owes o (PtrTy s) (PtrTy t) d c owed vl at xs fits by h = by_right (right_of o (PtrTy s) (PtrTy t) d) d c owed vl at xs _ by h
  second_owes o s t d c owed vl at xs fits by h = absurd fits

  second_compared : (r : Right) (d : Direct) (c : Call) (owed more vl at : ℕ) (xs : List Step) (x : op.Op) → ((zs : List Step) → Code c at (xs ++ zs) → Costs (K c) at (1 + owed)) → Code c at (right_code r xs ++ costing (1 + more + right_owed r d owed vl) x ∷ []) → Costs (K c) at (1 + owed)
  second_compared right.Pending d c owed more vl at xs x by h = by _ h
  second_compared r d c owed more vl at xs x by h = record { step = _; here = h.0; least = omega arith }

  second_at : (o : Binop) (first : TyTree) (b : TExprTree) (c : Call) (owed at : ℕ) (stack : List Value) (A : ℕ → List Value → Type 0) (X : ℕ → Bool → ℕ → List Value → Type 0) → FitsPair o first (type_of b) → relation.SecondAt p all c owed A X (relation.right_operand p all o first b) o first b at stack → Costs (K c) at (paid_left o first (type_of b) owed)
  second_at o first b c owed at stack A X fits (inl h) =
      second_owes o first (type_of b) (direct p b) c owed _ at _ fits (λ zs k. start_owes p b (K c) at _ _ zs k) h.0
  second_at o first b c owed at stack A X fits (inr h) =
      costly (K c) at (1 + owed) _ (left_between o first (type_of b) owed).1
      (second_compared (relation.right_operand p all o first b) (direct p b) c owed h.2 _ at _ _ (λ zs k. start_owes p b (K c) at at owed zs k) h.4)

  lnot_owes : (rest : List Frame) (c : Call) (owed at : ℕ) (stack : List Value) (ty : TyTree) → Awaits c owed (Applies Lnot ty ∷ rest) at stack → Costs (K c) at (1 + owed)
  lnot_owes rest c owed at stack ty (inl h) = record { step = _; here = h.0.0; least = omega arith }
  lnot_owes rest c owed at stack ty (inr h) = tested (Turns c (Applies Lnot ty ∷ rest)) c owed at stack (λ cost b to below k. turns_least (Applies Lnot ty ∷ rest) c cost b to below k) h

  null_owes : (rest : List Frame) (c : Call) (owed at : ℕ) (stack : List Value) (s : TyTree) (j : IntType) → Awaits c owed (Converts (PtrTy s) (IntTy j) ∷ rest) at stack → Costs (K c) at (1 + owed)
  null_owes rest c owed at stack s j (inl h) = record { step = _; here = h.0.0; least = omega arith }
  null_owes rest c owed at stack s j (inr h) = compared (relation.null_op p all) (Turns c rest) c owed at stack h

  into_owes : (rest : List Frame) (c : Call) (owed at : ℕ) (stack : List Value) (ty : TyTree) (to : Value) → Awaits c owed (Into ty to ∷ rest) at stack → Costs (K c) at (1 + owed)
  into_owes rest c owed at stack ty to (inl h) = record { step = _; here = h.1.0; least = omega arith }
  into_owes rest c owed at stack ty to (inr h) = record { step = _; here = h.5.0; least = omega arith }

  pub owes : (rest : List Frame) (c : Call) (owed at : ℕ) (stack : List Value) → Awaits c owed rest at stack → Costs (K c) at (paid rest owed)
  owes [] c owed at stack h = absurd h
  owes (Loads ty ∷ rest) c owed at stack h = record { step = _; here = h.0.0; least = omega arith }
  owes (Applies Deref ty ∷ rest) c owed at stack h = costly (K c) at _ (1 + owed) (omega (arith, paid_least rest (owed + 1))) (owes rest c (owed + 1) at stack h)
  owes (Applies Addr ty ∷ rest) c owed at stack h = costly (K c) at _ (1 + owed) (omega (arith, paid_least rest (owed + 1))) (owes rest c (owed + 1) at stack h)
  owes (Applies Lnot ty ∷ rest) c owed at stack h = lnot_owes rest c owed at stack ty h
  owes (Applies o ty ∷ rest) c owed at stack h = record { step = _; here = h.0.0; least = omega arith }
  owes (Converts (IntTy i) (IntTy j) ∷ rest) c owed at stack h = record { step = _; here = h.0.0; least = omega arith }
  owes (Converts (PtrTy s) (IntTy j) ∷ rest) c owed at stack h = null_owes rest c owed at stack s j h
  owes (Converts s t ∷ rest) c owed at stack h = costly (K c) at _ (1 + owed) (omega (arith, paid_least rest (owed + 1))) (owes rest c (owed + 1) at stack h)
  owes (Steps struct member ∷ rest) c owed at stack h = record { step = _; here = h.0.0; least = omega arith }
  owes (Second o first b ∷ rest) c owed at stack h = second_at o first b c owed at stack (λ at stack. Awaits c 0 rest at stack) (λ cost b to below. Turns c rest cost b to below) h.0 h.2
  owes (Combines o first second v ∷ rest) c owed at stack h = combine_owes o first second c owed at h.0 (λ at stack. Awaits c 0 rest at stack) (λ cost b to below. Turns c rest cost b to below) h.2 h.3
  owes (Decides o b ∷ rest) c owed at stack h = tested (Turns c (Decides o b ∷ rest)) c owed at stack (λ cost x to below k. turns_least (Decides o b ∷ rest) c cost x to below k) h
  owes (Truth ∷ rest) c owed at stack h = tested (Turns c (Truth ∷ rest)) c owed at stack (λ cost x to below k. turns_least (Truth ∷ rest) c cost x to below k) h
  owes (Arguments g way before more ∷ rest) c owed at stack h = args_owe p more (K c) at at owed way g h.4
  owes (Tells device register ∷ rest) c owed at stack h = record { step = _; here = h.0.0; least = omega arith }
  owes (Spawns g ∷ rest) c owed at stack h = record { step = _; here = h.0.0; least = omega arith }
  owes (Switches ∷ rest) c owed at stack h = record { step = _; here = h.0.0; least = omega arith }
  owes (Target ty e ∷ rest) c owed at stack h = start_owes p e (K c) at at owed _ h.2
  owes (Into ty to ∷ rest) c owed at stack h = into_owes rest c owed at stack ty to h
  owes (Discards ∷ rest) c owed at stack h = record { step = _; here = h.1.0; least = omega arith }
  owes (Forks s other ∷ rest) c owed at stack h = tested (Turns c (Forks s other ∷ rest)) c owed at stack (λ cost x to below k. turns_least (Forks s other ∷ rest) c cost x to below k) h
  owes (Tests loop ∷ rest) c owed at stack h = tested (Turns c (Tests loop ∷ rest)) c owed at stack (λ cost x to below k. turns_least (Tests loop ∷ rest) c cost x to below k) h
  owes (Answers ∷ rest) c owed at stack h = record { step = _; here = h.1.0; least = omega arith }
  owes (x ∷ rest) c owed at stack h = absurd h
