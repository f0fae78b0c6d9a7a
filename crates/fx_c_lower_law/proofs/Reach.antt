-- An expression's code stands where the source begins it.
use Rattle.std.proofs.Common.{◌≡◌, Bool, true, false, not, ◌&&◌, ℕ, ◌+◌, ◌-◌, ◌≤◌, ◌⊎◌, inl, inr, List, [], ◌∷◌, ◌++◌, length, Some, if◌then◌else◌, refl, sym, ap, ◌∙◌, subst, arith, nat_eq}
use mathlib.Core.Bool.{beq}
use Rattle.std.proofs.lemmas.Bool.Decides.{nat_tests}
use Rattle.fx_c_ast.specs.declared.operator.IntType.{IntType}
use Rattle.fx_c_ast.specs.declared.operator.IntType.TheVariants.{Char, Uchar, Short, Ushort, Int, Uint, Long, Ulong}
use Rattle.fx_c_ast.specs.declared.operator.Unop.TheVariants.{Lnot, Deref, Addr}
use Rattle.fx_c_ast.specs.declared.operator.Binop.{Binop}
use Rattle.fx_c_ast.specs.declared.operator.Binop.TheVariants.{Add, Sub, Lt, Gt, Le, Ge, Eq, Ne, Land, Lor}
use Rattle.fx_c_ast.specs.CheckedTrees.{TyTree, VoidTy, IntTy, StructTy, PtrTy, ArrayTy, TExprTree, ENumber, ELiteral, EGlobal, ELocal, EUn, EBin, ECast, EConvert, ESize, EIndex, EMember, EArrow, ECall, EGate, EGetc, EPutc, EDevLoad, EDevStore, ESpawn, ESwitch, EMe, NoTExprs, MoreTExprs}
use Rattle.fx_c_mean_blocks.specs.declared.value.Value.{Value}
use Rattle.fx_c_mean_blocks.specs.declared.block.Object.{Object}
use Rattle.fx_c_mean_blocks.specs.Integers.{converted}
use Rattle.fx_c_mean_model.specs.Programs.{Program}
use Rattle.fx_c_mean_model.specs.States.{Plainly, ByGate, Call, Frame, Loads, Applies, Converts, Steps, Second, Decides, Truth, Arguments, Tells, Spawns, Switches, Forks, Tests, Spot, type_of, same_type, same_integer, is_scalar, pointed, wanted, converting, reach, start}
use Rattle.fx_c_lin.specs.declared.op.Right.{Right}
use Rattle.fx_c_lin.specs.declared.op.Right.TheVariants as right
use Rattle.fx_c_lin.specs.declared.op.Compared.TheVariants.{Pointers}
use Rattle.fx_c_lin.specs.Ops.{Step}
use Rattle.fx_c_lin.specs.Ops as op
use Rattle.fx_c_lin.specs.Machine.{At}
use Rattle.fx_c_lower_model.specs.Steps.{costing, chosen, is_loaded, load_code, load_len, load_late, convert_code, convert_len, convert_late, is_logical, is_comparison, stops, tests_pointer, jumping}
use Rattle.fx_c_lower_model.specs.Direct.{Direct, Constant, Whole, Other, direct, converted_direct, right_by, right_of, holds_key, as_long, right_len}
use Rattle.fx_c_lower_model.specs.Operands.{left_len, combine_len, truth_code, test_code, test_len}
use Rattle.fx_c_lower_model.specs.Late.{late, value_late_by, value_late}
use Rattle.fx_c_lower_model.specs.Lengths.{value_len_by, binary_len, reach_len, jump_len, args_len, value_len, condition_len}
use Rattle.fx_c_lower_model.specs.Code.{value_by, right_operand, binary_code, compare_code, second_owed, second_at, decided_at, reach_code, jump_code, value_code}
use Rattle.fx_c_lower_law.specs.Fits.{Fits, FitsPair, FitsLocal}
use Rattle.fx_c_lower_law.proofs.Places.{HasAt, has_front, has_rest}
use Rattle.fx_c_lower_law.proofs.Lengths.{reach_length, value_length, jump_length, length_value}
use Rattle.fx_c_lower_law.proofs.Relation.{pushed}
use Rattle.fx_c_lower_law.proofs.Relation as relation
use Rattle.fx_c_lower_law.proofs.Costs.{AtLeast, direct_least}

pub pushed_one : (vs : List Value) (v : Value) (stack : List Value) → pushed (vs ++ v ∷ []) stack ≡ relation.pushed (v ∷ []) (pushed vs stack)
pushed_one [] v stack = refl
pushed_one (w ∷ vs) v stack = pushed_one vs v _

-- ---- types that are the same

same_integers : (i j : IntType) → same_integer i j ≡ true → i ≡ j
same_integers Char Char e = refl
same_integers Uchar Uchar e = refl
same_integers Short Short e = refl
same_integers Ushort Ushort e = refl
same_integers Int Int e = refl
same_integers Uint Uint e = refl
same_integers Long Long e = refl
same_integers Ulong Ulong e = refl
same_integers i j e = absurd cc

both_true : (a b : Bool) → (a && b) ≡ true → (a ≡ true) × (b ≡ true)
both_true true true e = (refl, refl)
both_true true false e = absurd cc
both_true false b e = absurd cc

same_numbers : (m n : ℕ) → nat_eq m n ≡ true → m ≡ n
same_numbers m n e = grind (arith, nat_tests)

pub same_is : (s t : TyTree) → same_type s t ≡ true → s ≡ t
same_is VoidTy VoidTy e = refl
same_is (IntTy i) (IntTy j) e = ap IntTy (same_integers i j e)
same_is (StructTy m) (StructTy n) e = ap StructTy (same_numbers m n e)
same_is (PtrTy s) (PtrTy t) e = ap PtrTy (same_is s t e)
same_is (ArrayTy s m) (ArrayTy t n) e =
    let h = both_true (same_type s t) (nat_eq m n) e in
    ap (λ x. ArrayTy x m) (same_is s t h.0) ∙ ap (λ k. ArrayTy t k) (same_numbers m n h.1)
same_is s t e = absurd cc

not_not : (b : Bool) → not (not b) ≡ b
not_not true = refl
not_not false = refl

-- what is known of a right operand that is in its op
abbrev pub RightView : Direct → TyTree → TyTree → Right → Type 0
RightView d first second right.Pending = Unit {0}
RightView d first second (right.Number n) = (w : ℕ) × (cost : ℕ) × (d ≡ Constant w cost) × (n ≡ relation.number_in_op first second w)
RightView d first second (right.Local n) = d ≡ Whole n

by_itself : (first second : TyTree) (d : Direct) → ((w : ℕ) → relation.number_in_op first second w ≡ w) → RightView d first second (right_by d)
by_itself first second (Constant w cost) same = on (holds_key w) where
  on : (b : Bool) → RightView (Constant w cost) first second (chosen b right.Pending (right.Number w))
  on true = tt
  on false = (w, cost, refl, sym (same w))
by_itself first second (Whole n) same = refl
by_itself first second Other same = tt

by_long : (t : TyTree) (i : IntType) (d : Direct) → RightView d (PtrTy t) (IntTy i) (right_by (as_long i d))
by_long t i (Constant w cost) = on (holds_key (converted i Long w)) where
  on : (b : Bool) → RightView (Constant w cost) (PtrTy t) (IntTy i) (chosen b right.Pending (right.Number (relation.number_in_op (PtrTy t) (IntTy i) w)))
  on true = tt
  on false = (w, cost, refl, refl)
by_long t i (Whole n) = refl
by_long t i Other = tt

pub right_view : (o : Binop) (first second : TyTree) (d : Direct) → RightView d first second (right_of o first second d)
right_view o (IntTy i) (IntTy j) d = by_itself (IntTy i) (IntTy j) d (λ w. refl)
right_view Add (PtrTy t) (IntTy i) d = by_long t i d
right_view Sub (PtrTy s) (PtrTy t) d = tt
right_view o (PtrTy s) (PtrTy t) d = by_itself (PtrTy s) (PtrTy t) d (λ w. refl)
right_view o s t d = tt

module _ (p : Program) (all : List (List Step)) (memory : List Object) (c : Call) where
  abbrev K : List Step
  K = relation.K p all c

  abbrev f : ℕ
  f = c.function

  abbrev Awaits : (owed : ℕ) → List Frame → ℕ → List Value → Type 0
  Awaits owed rest at stack = relation.Awaits p all c owed rest at stack

  abbrev Turns : List Frame → (cost : ℕ) → Bool → ℕ → List Value → Type 0
  Turns rest cost b to below = relation.Turns p all c rest cost b to below

  abbrev SpotAt : (owed : ℕ) → Spot → ℕ → List Value → Type 0
  SpotAt owed spot at stack = relation.SpotAt p all memory c owed spot (At at stack)

  moved : (owed : ℕ) (rest : List Frame) (m n : ℕ) (stack : List Value) → m ≡ n → Awaits owed rest m stack → Awaits owed rest n stack
  moved owed rest m n stack e a = subst (λ i. Awaits owed rest i stack) e a

  turned : (rest : List Frame) (cost : ℕ) (b : Bool) (m n : ℕ) (stack : List Value) → m ≡ n → Turns rest cost b m stack → Turns rest cost b n stack
  turned rest cost b m n stack e h = subst (λ i. Turns rest cost b i stack) e h

  further : (owed : ℕ) (rest : List Frame) (at m n : ℕ) (stack : List Value) → Awaits owed rest (at + (m + n)) stack → Awaits owed rest (at + m + n) stack
  further owed rest at m n stack a = moved owed rest (at + (m + n)) (at + m + n) stack (omega arith) a

  -- ---- constants and whole variables

  -- the number op of a constant's value, or the op that it is in
  abbrev pub GivenBy : Direct → (owed : ℕ) → List Frame → ℕ → List Value → Type 0
  GivenBy (Constant w cost) owed rest at stack = (before : ℕ) × (before + 1 ≡ owed + cost) × relation.Given p all c before w rest at stack
  GivenBy d owed rest at stack = ⊥

  given_same : (m n w : ℕ) (rest : List Frame) (at : ℕ) (stack : List Value) → m ≡ n → relation.Given p all c m w rest at stack → relation.Given p all c n w rest at stack
  given_same m n w rest at stack e h = subst (λ i. relation.Given p all c i w rest at stack) e h

  one_less : (s t : TyTree) (d : Direct) (owed : ℕ) (rest : List Frame) (at : ℕ) (stack : List Value) → AtLeast d → GivenBy (converted_direct s t d) owed rest at stack → GivenBy d owed (Converts s t ∷ rest) at stack
  one_less (IntTy i) (IntTy j) (Constant w cost) owed rest at stack le h =
      (owed + cost - 1, omega (arith, le), inr (given_same h.0 (owed + cost - 1 + 1) _ rest at stack (omega (arith, le, h.1)) h.2))
  one_less (IntTy i) (PtrTy t) (Constant w cost) owed rest at stack le h =
      (owed + cost - 1, omega (arith, le), inr (given_same h.0 (owed + cost - 1 + 1) _ rest at stack (omega (arith, le, h.1)) h.2))
  one_less (PtrTy s) (PtrTy t) (Constant w cost) owed rest at stack le h =
      (owed + cost - 1, omega (arith, le), inr (given_same h.0 (owed + cost - 1 + 1) _ rest at stack (omega (arith, le, h.1)) h.2))
  one_less s t d owed rest at stack le h = absurd h

  not_local : (b : Bool) (n owed : ℕ) (rest : List Frame) (at : ℕ) (stack : List Value) → GivenBy (chosen b (Whole n) Other) owed rest at stack → ⊥
  not_local true n owed rest at stack h = h
  not_local false n owed rest at stack h = h

  cast_constant : (b : Bool) (e : TExprTree) (ty : TyTree) (owed : ℕ) (rest : List Frame) (at : ℕ) (stack : List Value) → ((after : List Frame) → GivenBy (direct p e) owed after at stack → SpotAt owed (start e after) at stack) → GivenBy (chosen b (direct p e) (converted_direct (type_of e) ty (direct p e))) owed rest at stack → SpotAt owed (start e (if b then rest else Converts (type_of e) ty ∷ rest)) at stack
  cast_constant true e ty owed rest at stack by h = by rest h
  cast_constant false e ty owed rest at stack by h = by (Converts (type_of e) ty ∷ rest) (one_less (type_of e) ty (direct p e) owed rest at stack (direct_least p e) h)

  pub constant_at : (e : TExprTree) (owed : ℕ) (rest : List Frame) (at : ℕ) (stack : List Value) → GivenBy (direct p e) owed rest at stack → SpotAt owed (start e rest) at stack
  constant_at (ENumber ty w) owed rest at stack h = (w, refl, given_same h.0 owed w rest at stack (omega (arith, h.1)) h.2)
  constant_at (ESize ty t) owed rest at stack h = given_same h.0 owed _ rest at stack (omega (arith, h.1)) h.2
  constant_at (ELocal ty n) owed rest at stack h = absurd (not_local (is_scalar ty) n owed rest at stack h)
  constant_at (ECast ty e) owed rest at stack h = cast_constant (same_type (type_of e) ty) e ty owed rest at stack (λ after k. constant_at e owed after at stack k) h
  constant_at (EConvert ty e) owed rest at stack h = cast_constant (same_type (type_of e) ty) e ty owed rest at stack (λ after k. constant_at e owed after at stack k) h
  constant_at e owed rest at stack h = absurd h

  -- the op that loads a variable, or the one that its value is in
  abbrev pub HeldBy : Direct → TyTree → (owed : ℕ) → List Frame → ℕ → List Value → Type 0
  HeldBy (Whole n) ty owed rest at stack =
      (HasAt K at (costing (1 + (owed + 1)) (op.LoadLocal n) ∷ []) × Awaits 0 rest (at + 1) stack)
      ⊎ (relation.IsRightOf p all ty rest × relation.HeldValue p all c (owed + 1 + 1) n rest at stack)
  HeldBy d ty owed rest at stack = ⊥

  not_held : (s t ty : TyTree) (d : Direct) (owed : ℕ) (rest : List Frame) (at : ℕ) (stack : List Value) → HeldBy (converted_direct s t d) ty owed rest at stack → ⊥
  not_held (IntTy i) (IntTy j) ty (Constant w cost) owed rest at stack h = h
  not_held (IntTy i) (PtrTy t) ty (Constant w cost) owed rest at stack h = h
  not_held (PtrTy s) (PtrTy t) ty (Constant w cost) owed rest at stack h = h
  not_held s t ty d owed rest at stack h = h

  cast_whole : (b : Bool) (e : TExprTree) (ty : TyTree) → same_type (type_of e) ty ≡ b → (owed : ℕ) (rest : List Frame) (at : ℕ) (stack : List Value) → ((after : List Frame) → HeldBy (direct p e) (type_of e) owed after at stack → SpotAt owed (start e after) at stack) → HeldBy (chosen b (direct p e) (converted_direct (type_of e) ty (direct p e))) ty owed rest at stack → SpotAt owed (start e (if b then rest else Converts (type_of e) ty ∷ rest)) at stack
  cast_whole true e ty q owed rest at stack by h = by rest (subst (λ t. HeldBy (direct p e) t owed rest at stack) (sym (same_is (type_of e) ty q)) h)
  cast_whole false e ty q owed rest at stack by h = absurd (not_held (type_of e) ty ty (direct p e) owed rest at stack h)

  whole_local_at : (b : Bool) (ty : TyTree) (n : ℕ) → FitsLocal p f ty n → (owed : ℕ) (rest : List Frame) (at : ℕ) (stack : List Value) → HeldBy (chosen b (Whole n) Other) ty owed rest at stack → SpotAt owed (reach (ELocal ty n) (if b then Loads ty ∷ rest else rest)) at stack
  whole_local_at true ty n fits owed rest at stack h = inr (fits, h)
  whole_local_at false ty n fits owed rest at stack h = absurd h

  pub whole_at : (e : TExprTree) → Fits p f e → (owed : ℕ) (rest : List Frame) (at : ℕ) (stack : List Value) → HeldBy (direct p e) (type_of e) owed rest at stack → SpotAt owed (start e rest) at stack
  whole_at (ELocal ty n) fits owed rest at stack h = whole_local_at (is_scalar ty) ty n fits owed rest at stack h
  whole_at (ECast ty e) fits owed rest at stack h = cast_whole (same_type (type_of e) ty) e ty refl owed rest at stack (λ after k. whole_at e fits owed after at stack k) h
  whole_at (EConvert ty e) fits owed rest at stack h = cast_whole (same_type (type_of e) ty) e ty refl owed rest at stack (λ after k. whole_at e fits owed after at stack k) h
  whole_at e fits owed rest at stack h = absurd h

  -- ---- values

  want : (b : Bool) (owed : ℕ) (ty : TyTree) (rest : List Frame) (at : ℕ) (stack : List Value) → HasAt K at (load_code b owed ty) → Awaits (load_late b owed) rest (at + load_len b) stack → Awaits owed (if b then Loads ty ∷ rest else rest) at stack
  want true owed ty rest at stack has go = (has, go)
  want false owed ty rest at stack has go = moved owed rest (at + 0) at stack (omega arith) go

  -- to a value, and then to the steps behind it; told how what is reached goes on
  pub value_then : (e : TExprTree) (ys : List Step) → Fits p f e → (at owed : ℕ) (rest : List Frame) (stack : List Value) → ((after : List Frame) → HasAt K at (reach_code p at owed e) → Awaits (late p e) after (at + reach_len p e) stack → SpotAt owed (reach e after) at stack) → HasAt K at (value_code p at owed e ++ ys) → (HasAt K (at + value_len p e) ys → Awaits (value_late p e) rest (at + value_len p e) stack) → SpotAt owed (start e rest) at stack
  value_then e ys fits at owed rest stack by has go = on (direct p e) refl has go where
    there : (d : Direct) → at + length (value_by d owed (reach_code p at owed e) (is_loaded e) (late p e) (type_of e)) ≡ at + value_len_by d (reach_len p e + load_len (is_loaded e))
    there d = ap (λ n. at + n) (length_value d owed _ (is_loaded e) (late p e) (type_of e) _ (reach_length p at owed e))

    on : (d : Direct) → direct p e ≡ d → HasAt K at (value_by d owed (reach_code p at owed e) (is_loaded e) (late p e) (type_of e) ++ ys) → (HasAt K (at + value_len_by d (reach_len p e + load_len (is_loaded e))) ys → Awaits (value_late_by d (load_late (is_loaded e) (late p e))) rest (at + value_len_by d (reach_len p e + load_len (is_loaded e))) stack) → SpotAt owed (start e rest) at stack
    on (Constant w cost) q has go =
        let le : 1 ≤ cost = subst AtLeast q (direct_least p e) in
        let n : cost + owed ≡ 1 + (owed + cost - 1) = omega (arith, le) in
        constant_at e owed rest at stack (subst (λ d. GivenBy d owed rest at stack) (sym q)
        (owed + cost - 1, omega (arith, le), inl ((has.0 ∙ ap (λ k. Some (costing k (op.Number w))) n, tt), go has.1)))
    on (Whole n) q has go =
        let m : 2 + owed ≡ 1 + (owed + 1) = omega arith in
        whole_at e fits owed rest at stack (subst (λ d. HeldBy d (type_of e) owed rest at stack) (sym q)
        (inl ((has.0 ∙ ap (λ k. Some (costing k (op.LoadLocal n))) m, tt), go has.1)))
    on Other q has go =
        let first = has_front K at (reach_code p at owed e ++ load_code (is_loaded e) (late p e) (type_of e)) ys has in
        let one : at + length (reach_code p at owed e) ≡ at + reach_len p e = ap (λ n. at + n) (reach_length p at owed e) in
        by (wanted e rest) (has_front K at (reach_code p at owed e) (load_code (is_loaded e) (late p e) (type_of e)) first)
        (want (is_loaded e) (late p e) (type_of e) rest (at + reach_len p e) stack
        (has_rest K at (at + reach_len p e) (reach_code p at owed e) (load_code (is_loaded e) (late p e) (type_of e)) one first)
        (moved _ rest (at + (reach_len p e + load_len (is_loaded e))) (at + reach_len p e + load_len (is_loaded e)) stack (omega arith)
        (go (has_rest K at _ (reach_code p at owed e ++ load_code (is_loaded e) (late p e) (type_of e)) ys (there Other) has))))

  -- ---- pieces

  -- two operands and the op that combines them
  binary_at : (o : Binop) (a b : TExprTree) → FitsPair o (type_of a) (type_of b) → Fits p f a → Fits p f b → (at owed : ℕ) (rest : List Frame) (stack : List Value) → ((after : List Frame) → HasAt K at (reach_code p at owed a) → Awaits (late p a) after (at + reach_len p a) stack → SpotAt owed (reach a after) at stack) → HasAt K at (binary_code p o a b (value_code p at owed a) (value_code p (second_at p at o a b) (second_owed p o a b) b)) → Awaits 0 rest (at + binary_len o (type_of a) (type_of b) (right_operand p o a b) (value_len p a) (value_len p b)) stack → SpotAt owed (start a (Second o (type_of a) b ∷ rest)) at stack
  binary_at o a b pair fits_a fits_b at owed rest stack by has go =
      value_then a _ fits_a at owed (Second o (type_of a) b ∷ rest) stack by has
      (λ h. (pair, fits_b, inl (h, moved 0 rest _ (at + value_len p a + left_len o (type_of a) (type_of b) + (right_len (right_operand p o a b) (value_len p b) + combine_len (right_operand p o a b) o (type_of a) (type_of b))) stack (omega arith) go)))

  -- a comparison that is a condition
  compared_at : (o : Binop) (a b : TExprTree) → is_comparison o ≡ true → FitsPair o (type_of a) (type_of b) → Fits p f a → Fits p f b → (at owed more : ℕ) (sense : Bool) (to : ℕ) (rest : List Frame) (stack : List Value) → ((after : List Frame) → HasAt K at (reach_code p at owed a) → Awaits (late p a) after (at + reach_len p a) stack → SpotAt owed (reach a after) at stack) → HasAt K at (compare_code p more sense to o a b (value_code p at owed a) (value_code p (at + value_len p a) (value_late p a) b)) → Turns rest more sense to stack → Turns rest more (not sense) (at + (value_len p a + (right_len (right_operand p o a b) (value_len p b) + 1))) stack → SpotAt owed (start a (Second o (type_of a) b ∷ rest)) at stack
  compared_at o a b is pair fits_a fits_b at owed more sense to rest stack by has t u =
      value_then a _ fits_a at owed (Second o (type_of a) b ∷ rest) stack by has
      (λ h. (pair, fits_b, inr (is, sense, more, to, h, t, turned rest more (not sense) _ (at + value_len p a + right_len (right_operand p o a b) (value_len p b) + 1) stack (omega arith) u)))

  -- a test behind a value
  awaits_tested : (rest : List Frame) (owed more : ℕ) (sense : Bool) (to at : ℕ) (stack : List Value) → HasAt K at (test_code at (more + owed) sense to) → Turns rest more sense to stack → Turns rest more (not sense) (at + test_len sense) stack → Awaits owed rest at stack
  awaits_tested [] owed more sense to at stack h t u = absurd t
  awaits_tested (Applies Lnot ty ∷ rest) owed more sense to at stack h t u = inr (sense, more, to, h, t, u)
  awaits_tested (Decides o b ∷ rest) owed more sense to at stack h t u = (sense, more, to, h, t, u)
  awaits_tested (Truth ∷ rest) owed more sense to at stack h t u = (sense, more, to, h, t, u)
  awaits_tested (Forks s other ∷ rest) owed more sense to at stack h t u = (sense, more, to, h, t, u)
  awaits_tested (Tests loop ∷ rest) owed more sense to at stack h t u = (sense, more, to, h, t, u)
  awaits_tested (x ∷ rest) owed more sense to at stack h t u = absurd t

  plain_condition : (e : TExprTree) → Fits p f e → (at owed more : ℕ) (sense : Bool) (to : ℕ) (rest : List Frame) (stack : List Value) → ((after : List Frame) → HasAt K at (reach_code p at owed e) → Awaits (late p e) after (at + reach_len p e) stack → SpotAt owed (reach e after) at stack) → HasAt K at (value_code p at owed e ++ test_code (at + value_len p e) (more + value_late p e) sense to) → Turns rest more sense to stack → Turns rest more (not sense) (at + (value_len p e + test_len sense)) stack → SpotAt owed (start e rest) at stack
  plain_condition e fits at owed more sense to rest stack by has t u =
      value_then e _ fits at owed rest stack by has
      (λ h. awaits_tested rest (value_late p e) more sense to (at + value_len p e) stack h t (turned rest more (not sense) _ (at + value_len p e + test_len sense) stack (omega arith) u))

  -- a pointer that is a condition, or any other conversion
  null_condition : (s ty : TyTree) (e : TExprTree) → s ≡ type_of e → Fits p f e → (at owed more : ℕ) (sense : Bool) (to : ℕ) (rest : List Frame) (stack : List Value) → ((after : List Frame) → HasAt K at (reach_code p at owed e) → Awaits (late p e) after (at + reach_len p e) stack → SpotAt owed (reach e after) at stack) → ((after : List Frame) → HasAt K at (reach_code p at owed (EConvert ty e)) → Awaits (late p (EConvert ty e)) after (at + reach_len p (EConvert ty e)) stack → SpotAt owed (reach (EConvert ty e) after) at stack) → HasAt K at (chosen (tests_pointer s ty) (value_code p at owed e ++ costing (1 + more + value_late p e) (op.CompareJump (jumping sense Ne) Pointers (right.Number 0) to) ∷ []) (value_code p at owed (EConvert ty e) ++ test_code (at + value_len p (EConvert ty e)) (more + value_late p (EConvert ty e)) sense to)) → Turns rest more sense to stack → Turns rest more (not sense) (at + chosen (tests_pointer s ty) (value_len p e + 1) (value_len p (EConvert ty e) + test_len sense)) stack → SpotAt owed (start (EConvert ty e) rest) at stack
  null_condition (PtrTy s) (IntTy j) e q fits at owed more sense to rest stack by by2 has t u =
      subst (λ x. SpotAt owed (start e (converting x (IntTy j) rest)) at stack) q
      (value_then e _ fits at owed (Converts (PtrTy s) (IntTy j) ∷ rest) stack by has
      (λ h. inr (sense, more, to, h, t, turned rest more (not sense) _ (at + value_len p e + 1) stack (omega arith) u)))
  null_condition s ty e q fits at owed more sense to rest stack by by2 has t u = plain_condition (EConvert ty e) fits at owed more sense to rest stack by2 has t u

  -- ---- `&&` and `||`

  abbrev Decided : Binop → TExprTree → List Frame → Bool → ℕ → List Value → Type 0
  Decided o b rest x to stack = relation.DecideTurns p all c (λ at stack. Awaits 0 rest at stack) (λ cost b to below. Turns rest cost b to below) o b x to stack

  decide_now : (o : Binop) (b : TExprTree) (rest : List Frame) (to : ℕ) (stack : List Value) → is_logical o ≡ true → Decided o b rest true to stack → Turns (Decides o b ∷ rest) 1 (stops o) to stack
  decide_now Land b rest to stack e h = (refl, refl, h)
  decide_now Lor b rest to stack e h = (refl, refl, h)
  decide_now o b rest to stack e h = absurd cc

  decide_again : (o : Binop) (b : TExprTree) (rest : List Frame) (to : ℕ) (stack : List Value) → is_logical o ≡ true → Decided o b rest true to stack → Turns (Decides o b ∷ rest) 1 (not (not (stops o))) to stack
  decide_again Land b rest to stack e h = (refl, refl, h)
  decide_again Lor b rest to stack e h = (refl, refl, h)
  decide_again o b rest to stack e h = absurd cc

  decide_on : (o : Binop) (b : TExprTree) (rest : List Frame) (to : ℕ) (stack : List Value) → is_logical o ≡ true → Decided o b rest false to stack → Turns (Decides o b ∷ rest) 1 (not (stops o)) to stack
  decide_on Land b rest to stack e h = (refl, refl, h)
  decide_on Lor b rest to stack e h = (refl, refl, h)
  decide_on o b rest to stack e h = absurd cc

  -- the whole's truth where the first operand decides
  whole_truth : (rest : List Frame) (sense x : Bool) (more to end : ℕ) (stack : List Value) → Turns rest more sense to stack → Turns rest more (not sense) end stack → Turns rest more x (chosen (beq sense x) to end) stack
  whole_truth rest true true more to end stack t u = t
  whole_truth rest true false more to end stack t u = u
  whole_truth rest false true more to end stack t u = u
  whole_truth rest false false more to end stack t u = t

  -- a value: the first operand's condition, the second one's, and the numbers behind them
  record ValueParts (o : Binop) (a b : TExprTree) (at owed : ℕ) (rest : List Frame) (stack : List Value) : Type 0 where
    first : HasAt K at (jump_code p at owed 1 (stops o) (decided_at (stops o) (at + jump_len p (stops o) a (value_len p a) + condition_len p b)) a (value_code p at owed a))
    decides : Turns (Decides o b ∷ rest) 1 (stops o) (decided_at (stops o) (at + jump_len p (stops o) a (value_len p a) + condition_len p b)) stack
    goes : Turns (Decides o b ∷ rest) 1 (not (stops o)) (at + jump_len p (stops o) a (value_len p a)) stack

  value_parts : (o : Binop) (a b : TExprTree) → is_logical o ≡ true → Fits p f b → (at owed : ℕ) (rest : List Frame) (stack : List Value)
      → HasAt K at (jump_code p at owed 1 (stops o) (decided_at (stops o) (at + jump_len p (stops o) a (value_len p a) + condition_len p b)) a (value_code p at owed a)
      ++ (jump_code p (at + jump_len p (stops o) a (value_len p a)) 0 1 false (at + jump_len p (stops o) a (value_len p a) + condition_len p b + 2) b (value_code p (at + jump_len p (stops o) a (value_len p a)) 0 b)
      ++ truth_code (at + jump_len p (stops o) a (value_len p a) + condition_len p b)))
      → Awaits 0 rest (at + (jump_len p (stops o) a (value_len p a) + (jump_len p false b (value_len p b) + 3))) stack → ValueParts o a b at owed rest stack
  value_parts o a b is fits at owed rest stack has go =
      let l = at + jump_len p (stops o) a (value_len p a) in
      let ones = l + condition_len p b in
      let to = decided_at (stops o) ones in
      let code_a = jump_code p at owed 1 (stops o) to a (value_code p at owed a) in
      let code_b = jump_code p l 0 1 false (ones + 2) b (value_code p l 0 b) in
      let to_l : at + length code_a ≡ l = ap (λ n. at + n) (jump_length p at owed 1 (stops o) to a (value_code p at owed a) (value_len p a) (value_length p at owed a)) in
      let to_ones : l + length code_b ≡ ones = ap (λ n. l + n) (jump_length p l 0 1 false (ones + 2) b (value_code p l 0 b) (value_len p b) (value_length p l 0 b)) in
      let behind : HasAt K l (code_b ++ truth_code ones) = has_rest K at l code_a (code_b ++ truth_code ones) to_l has in
      let second : HasAt K l code_b = has_front K l code_b (truth_code ones) behind in
      let truths : HasAt K ones (truth_code ones) = has_rest K l ones code_b (truth_code ones) to_ones behind in
      let end : Awaits 0 rest (ones + 3) stack = moved 0 rest _ (ones + 3) stack (omega arith) go in
      record {
        first = has_front K at code_a _ has;
        decides = decide_now o b rest to stack is (inl (ones, truths, refl, end));
        goes = decide_on o b rest l stack is (fits, 1, false, ones + 2, second, inl (refl, ones, truths, refl, end), inl (refl, ones, truths, refl, end));
      }

  -- a condition: the first operand's, a jump where it decides, and the second one's
  record JumpParts (o : Binop) (a b : TExprTree) (at owed : ℕ) (rest : List Frame) (stack : List Value) : Type 0 where
    first : HasAt K at (jump_code p at owed 1 (not (stops o)) (at + jump_len p (not (stops o)) a (value_len p a) + 1) a (value_code p at owed a))
    goes : Turns (Decides o b ∷ rest) 1 (not (stops o)) (at + jump_len p (not (stops o)) a (value_len p a) + 1) stack
    decides : Turns (Decides o b ∷ rest) 1 (not (not (stops o))) (at + jump_len p (not (stops o)) a (value_len p a)) stack

  jump_parts : (o : Binop) (a b : TExprTree) → is_logical o ≡ true → Fits p f b → (at owed more : ℕ) (sense : Bool) (to : ℕ) (rest : List Frame) (stack : List Value)
      → HasAt K at (jump_code p at owed 1 (not (stops o)) (at + jump_len p (not (stops o)) a (value_len p a) + 1) a (value_code p at owed a)
      ++ costing more (op.Jump (chosen (beq sense (stops o)) to (at + jump_len p (not (stops o)) a (value_len p a) + 1 + jump_len p sense b (value_len p b))))
      ∷ jump_code p (at + jump_len p (not (stops o)) a (value_len p a) + 1) 0 (more + 1) sense to b (value_code p (at + jump_len p (not (stops o)) a (value_len p a) + 1) 0 b))
      → Turns rest more sense to stack → Turns rest more (not sense) (at + (jump_len p (not (stops o)) a (value_len p a) + (1 + jump_len p sense b (value_len p b)))) stack → JumpParts o a b at owed rest stack
  jump_parts o a b is fits at owed more sense to rest stack has t u =
      let l = at + jump_len p (not (stops o)) a (value_len p a) in
      let skip = l + 1 in
      let end = skip + jump_len p sense b (value_len p b) in
      let code_a = jump_code p at owed 1 (not (stops o)) skip a (value_code p at owed a) in
      let to_l : at + length code_a ≡ l = ap (λ n. at + n) (jump_length p at owed 1 (not (stops o)) skip a (value_code p at owed a) (value_len p a) (value_length p at owed a)) in
      let behind = has_rest K at l code_a _ to_l has in
      let v : Turns rest more (not sense) end stack = turned rest more (not sense) _ end stack (omega arith) u in
      record {
        first = has_front K at code_a _ has;
        goes = decide_on o b rest skip stack is (fits, more + 1, sense, to, behind.1, inr (more, refl, t), inr (more, refl, v));
        decides = decide_again o b rest l stack is (inr (more, chosen (beq sense (stops o)) to end, (behind.0, tt), whole_truth rest sense (stops o) more to end stack t v));
      }

  -- ---- conversions

  -- a cast that is none, or one with or without an op
  cast : (b : Bool) (owed : ℕ) (s t : TyTree) (rest : List Frame) (at : ℕ) (stack : List Value) → HasAt K at (chosen b [] (convert_code owed s t)) → Awaits (chosen b owed (convert_late owed s t)) rest (at + chosen b 0 (convert_len s t)) stack → Awaits owed (if b then rest else Converts s t ∷ rest) at stack
  cast true owed s t rest at stack has go = moved owed rest (at + 0) at stack (omega arith) go
  cast false owed (IntTy i) (IntTy j) rest at stack has go = (has, go)
  cast false owed (PtrTy s) (IntTy j) rest at stack has go = inl (has, go)
  cast false owed s t rest at stack has go = moved (owed + 1) rest (at + 0) at stack (omega arith) go

  -- ---- expressions

  mutual
    pub reach_at : (e : TExprTree) → Fits p f e → (at owed : ℕ) (rest : List Frame) (stack : List Value) → HasAt K at (reach_code p at owed e) → Awaits (late p e) rest (at + reach_len p e) stack → SpotAt owed (reach e rest) at stack
    reach_at (ENumber ty w) fits at owed rest stack has go = (w, refl, inl (has, go))
    reach_at (ELiteral ty n) fits at owed rest stack has go = (has, go)
    reach_at (EGlobal ty n) fits at owed rest stack has go = (has, go)
    reach_at (ELocal ty n) fits at owed rest stack has go = inl (has, go)
    reach_at (EUn ty Addr e) fits at owed rest stack has go =
        reach_at e fits at owed (Applies Addr ty ∷ rest) stack has (moved (late p e + 1) rest (at + (reach_len p e + 0)) (at + reach_len p e) stack (omega arith) go)
    reach_at (EUn ty Deref e) fits at owed rest stack has go =
        value_then e [] fits at owed (Applies Deref (type_of e) ∷ rest) stack (λ after h a. reach_at e fits at owed after stack h a) has
        (λ h. moved (value_late p e + 1) rest (at + (value_len p e + 0)) (at + value_len p e) stack (omega arith) go)
    reach_at (EUn ty Lnot e) fits at owed rest stack has go =
        value_then e _ fits at owed (Applies Lnot (type_of e) ∷ rest) stack (λ after h a. reach_at e fits at owed after stack h a) has
        (λ h. inl (h, further 0 rest at (value_len p e) 1 stack go))
    reach_at (EUn ty o e) fits at owed rest stack has go =
        value_then e _ fits at owed (Applies o (type_of e) ∷ rest) stack (λ after h a. reach_at e fits at owed after stack h a) has
        (λ h. (h, further 0 rest at (value_len p e) 1 stack go))
    reach_at (EBin ty Land a b) fits at owed rest stack has go =
        let x = value_parts Land a b refl fits.1 at owed rest stack has go in
        condition_at a fits.0 at owed 1 false _ (Decides Land b ∷ rest) stack (λ after h k. reach_at a fits.0 at owed after stack h k) x.first x.decides x.goes
    reach_at (EBin ty Lor a b) fits at owed rest stack has go =
        let x = value_parts Lor a b refl fits.1 at owed rest stack has go in
        condition_at a fits.0 at owed 1 true _ (Decides Lor b ∷ rest) stack (λ after h k. reach_at a fits.0 at owed after stack h k) x.first x.decides x.goes
    reach_at (EBin ty o a b) fits at owed rest stack has go =
        binary_at o a b fits.0 fits.1 fits.2 at owed rest stack (λ after h k. reach_at a fits.1 at owed after stack h k) has go
    reach_at (ECast ty e) fits at owed rest stack has go =
        value_then e _ fits at owed (converting (type_of e) ty rest) stack (λ after h a. reach_at e fits at owed after stack h a) has
        (λ h. cast (same_type (type_of e) ty) (value_late p e) (type_of e) ty rest (at + value_len p e) stack h (further (late p (ECast ty e)) rest at (value_len p e) _ stack go))
    reach_at (EConvert ty e) fits at owed rest stack has go =
        value_then e _ fits at owed (converting (type_of e) ty rest) stack (λ after h a. reach_at e fits at owed after stack h a) has
        (λ h. cast (same_type (type_of e) ty) (value_late p e) (type_of e) ty rest (at + value_len p e) stack h (further (late p (EConvert ty e)) rest at (value_len p e) _ stack go))
    reach_at (ESize ty t) fits at owed rest stack has go = inl (has, go)
    reach_at (EIndex ty a b) fits at owed rest stack has go =
        binary_at Add a b fits.0 fits.1 fits.2 at owed rest stack (λ after h k. reach_at a fits.1 at owed after stack h k) has go
    reach_at (EMember ty e n) fits at owed rest stack has go =
        let there : at + length (reach_code p at owed e) ≡ at + reach_len p e = ap (λ n. at + n) (reach_length p at owed e) in
        reach_at e fits at owed (Steps (type_of e) n ∷ rest) stack (has_front K at (reach_code p at owed e) _ has)
        (has_rest K at _ (reach_code p at owed e) _ there has, further 0 rest at (reach_len p e) 1 stack go)
    reach_at (EArrow ty e n) fits at owed rest stack has go =
        value_then e _ fits at owed (Steps (pointed (type_of e)) n ∷ rest) stack (λ after h a. reach_at e fits at owed after stack h a) has (λ h. (h, further 0 rest at (value_len p e) 1 stack go))
    reach_at (ECall ty g NoTExprs) fits at owed rest stack has go = (stack, refl, fits.0, (has, moved 0 rest _ (at + 1) stack (omega arith) go), refl)
    reach_at (ECall ty g (MoreTExprs e more)) fits at owed rest stack has go =
        value_then e _ fits.1.0 at owed (Arguments g Plainly [] more ∷ rest) stack (λ after h a. reach_at e fits.1.0 at owed after stack h a) has
        (λ h. (stack, refl, fits.1.1, omega (arith, fits.0), h, moved 0 rest _ (at + value_len p e + args_len p more + 1) stack (omega arith) go, refl))
    reach_at (EGate ty g NoTExprs) fits at owed rest stack has go = (stack, refl, fits.0, (has, moved 0 rest _ (at + 1) stack (omega arith) go), refl)
    reach_at (EGate ty g (MoreTExprs e more)) fits at owed rest stack has go =
        value_then e _ fits.1.0 at owed (Arguments g ByGate [] more ∷ rest) stack (λ after h a. reach_at e fits.1.0 at owed after stack h a) has
        (λ h. (stack, refl, fits.1.1, omega (arith, fits.0), h, moved 0 rest _ (at + value_len p e + args_len p more + 1) stack (omega arith) go, refl))
    reach_at (EGetc ty) fits at owed rest stack has go = (has, go)
    reach_at (EPutc ty e) fits at owed rest stack has go =
        value_then e _ fits at owed (Tells 0 0 ∷ rest) stack (λ after h a. reach_at e fits at owed after stack h a) has (λ h. (h, further 0 rest at (value_len p e) 1 stack go))
    reach_at (EDevLoad ty d r) fits at owed rest stack has go = (has, go)
    reach_at (EDevStore ty d r e) fits at owed rest stack has go =
        value_then e _ fits at owed (Tells d r ∷ rest) stack (λ after h a. reach_at e fits at owed after stack h a) has (λ h. (h, further 0 rest at (value_len p e) 1 stack go))
    reach_at (ESpawn ty g e) fits at owed rest stack has go =
        value_then e _ fits at owed (Spawns g ∷ rest) stack (λ after h a. reach_at e fits at owed after stack h a) has (λ h. (h, further 0 rest at (value_len p e) 1 stack go))
    reach_at (ESwitch ty e) fits at owed rest stack has go =
        value_then e _ fits at owed (Switches ∷ rest) stack (λ after h a. reach_at e fits at owed after stack h a) has (λ h. (h, further 0 rest at (value_len p e) 1 stack go))
    reach_at (EMe ty) fits at owed rest stack has go = (has, go)

    -- a condition; told how what is reached goes on
    pub condition_at : (e : TExprTree) → Fits p f e → (at owed more : ℕ) (sense : Bool) (to : ℕ) (rest : List Frame) (stack : List Value) → ((after : List Frame) → HasAt K at (reach_code p at owed e) → Awaits (late p e) after (at + reach_len p e) stack → SpotAt owed (reach e after) at stack) → HasAt K at (jump_code p at owed more sense to e (value_code p at owed e)) → Turns rest more sense to stack → Turns rest more (not sense) (at + jump_len p sense e (value_len p e)) stack → SpotAt owed (start e rest) at stack
    condition_at (EUn ty Lnot e) fits at owed more sense to rest stack by has t u =
        condition_at e fits at owed (more + 1) (not sense) to (Applies Lnot (type_of e) ∷ rest) stack (λ after h a. reach_at e fits at owed after stack h a) has
        (more, refl, subst (λ b. Turns rest more b to stack) (sym (not_not sense)) t)
        (more, refl, subst (λ b. Turns rest more b (at + jump_len p (not sense) e (value_len p e)) stack) (sym (not_not (not sense))) u)
    condition_at (EBin ty Land a b) fits at owed more sense to rest stack by has t u =
        let x = jump_parts Land a b refl fits.1 at owed more sense to rest stack has t u in
        condition_at a fits.0 at owed 1 true _ (Decides Land b ∷ rest) stack (λ after h k. reach_at a fits.0 at owed after stack h k) x.first x.goes x.decides
    condition_at (EBin ty Lor a b) fits at owed more sense to rest stack by has t u =
        let x = jump_parts Lor a b refl fits.1 at owed more sense to rest stack has t u in
        condition_at a fits.0 at owed 1 false _ (Decides Lor b ∷ rest) stack (λ after h k. reach_at a fits.0 at owed after stack h k) x.first x.goes x.decides
    condition_at (EBin ty Lt a b) fits at owed more sense to rest stack by has t u =
        compared_at Lt a b refl fits.0 fits.1 fits.2 at owed more sense to rest stack (λ after h k. reach_at a fits.1 at owed after stack h k) has t u
    condition_at (EBin ty Gt a b) fits at owed more sense to rest stack by has t u =
        compared_at Gt a b refl fits.0 fits.1 fits.2 at owed more sense to rest stack (λ after h k. reach_at a fits.1 at owed after stack h k) has t u
    condition_at (EBin ty Le a b) fits at owed more sense to rest stack by has t u =
        compared_at Le a b refl fits.0 fits.1 fits.2 at owed more sense to rest stack (λ after h k. reach_at a fits.1 at owed after stack h k) has t u
    condition_at (EBin ty Ge a b) fits at owed more sense to rest stack by has t u =
        compared_at Ge a b refl fits.0 fits.1 fits.2 at owed more sense to rest stack (λ after h k. reach_at a fits.1 at owed after stack h k) has t u
    condition_at (EBin ty Eq a b) fits at owed more sense to rest stack by has t u =
        compared_at Eq a b refl fits.0 fits.1 fits.2 at owed more sense to rest stack (λ after h k. reach_at a fits.1 at owed after stack h k) has t u
    condition_at (EBin ty Ne a b) fits at owed more sense to rest stack by has t u =
        compared_at Ne a b refl fits.0 fits.1 fits.2 at owed more sense to rest stack (λ after h k. reach_at a fits.1 at owed after stack h k) has t u
    condition_at (EConvert ty e) fits at owed more sense to rest stack by has t u =
        null_condition (type_of e) ty e refl fits at owed more sense to rest stack (λ after h a. reach_at e fits at owed after stack h a) by has t u
    condition_at e fits at owed more sense to rest stack by has t u = plain_condition e fits at owed more sense to rest stack by has t u

  -- to a value
  pub start_at : (e : TExprTree) (ys : List Step) → Fits p f e → (at owed : ℕ) (rest : List Frame) (stack : List Value) → HasAt K at (value_code p at owed e ++ ys) → (HasAt K (at + value_len p e) ys → Awaits (value_late p e) rest (at + value_len p e) stack) → SpotAt owed (start e rest) at stack
  start_at e ys fits at owed rest stack has go = value_then e ys fits at owed rest stack (λ after h a. reach_at e fits at owed after stack h a) has go

  -- to a condition's jump
  pub test_at : (e : TExprTree) → Fits p f e → (at owed more : ℕ) (sense : Bool) (to : ℕ) (rest : List Frame) (stack : List Value) → HasAt K at (jump_code p at owed more sense to e (value_code p at owed e)) → Turns rest more sense to stack → Turns rest more (not sense) (at + jump_len p sense e (value_len p e)) stack → SpotAt owed (start e rest) at stack
  test_at e fits at owed more sense to rest stack has t u = condition_at e fits at owed more sense to rest stack (λ after h a. reach_at e fits at owed after stack h a) has t u
