-- Where a value's code goes on.
use Rattle.std.proofs.Common.{◌≡◌, Bool, true, false, not, ℕ, ◌+◌, inl, inr, List, [], ◌∷◌, ◌++◌, length, ◌-◌, ◌≤◌, if◌then◌else◌, refl, sym, ap, ◌∙◌, subst, arith, length-append}
use Rattle.fx_c_ast.specs.declared.operator.IntType.{IntType}
use Rattle.fx_c_ast.specs.declared.operator.IntType.TheVariants.{Long, Ulong}
use Rattle.fx_c_ast.specs.declared.operator.Unop.TheVariants.{Lnot, Deref, Addr}
use Rattle.fx_c_ast.specs.declared.operator.Binop.{Binop}
use Rattle.fx_c_ast.specs.declared.operator.Binop.TheVariants.{Add, Sub}
use Rattle.fx_c_ast.specs.CheckedTrees.{TyTree, IntTy, PtrTy, TExprTree, NoTExprs, MoreTExprs}
use Rattle.fx_c_mean_blocks.specs.declared.value.Value.{Value}
use Rattle.fx_c_mean_blocks.specs.declared.block.Object.{Object}
use Rattle.fx_c_mean_model.specs.Programs.{Program, function_at}
use Rattle.fx_c_mean_model.specs.States.{Call, Frame, Loads, Applies, Converts, Steps, Second, Combines, Decides, Truth, Arguments, Tells, Spawns, Switches, Target, Into, Discards, Forks, Tests, Answers, Spot, type_of, start, give}
use Rattle.fx_c_mean_model.specs.Steps.{is_true}
use Rattle.fx_c_lin.specs.declared.op.Right.{Right}
use Rattle.fx_c_lin.specs.declared.op.Right.TheVariants as right
use Rattle.fx_c_lin.specs.Ops.{Step}
use Rattle.fx_c_lin.specs.Ops as op
use Rattle.fx_c_lin.specs.Machine.{At, word_of}
use Rattle.fx_c_lower_model.specs.Steps.{costing, is_comparison}
use Rattle.fx_c_lower_model.specs.Direct.{Direct, Constant, Whole, direct, right_of, right_owed, right_len}
use Rattle.fx_c_lower_model.specs.Operands.{left_code, left_len, left_late, combine_code, combine_len, test_code, test_len}
use Rattle.fx_c_lower_model.specs.Late.{value_late}
use Rattle.fx_c_lower_model.specs.Lengths.{value_len}
use Rattle.fx_c_lower_model.specs.Code.{right_code, value_code}
use Rattle.fx_c_lower_law.specs.Fits.{Fits, FitsPair, count}
use Rattle.fx_c_lower_law.proofs.Places.{HasAt}
use Rattle.fx_c_lower_law.proofs.Relation.{pushed, left_word, right_word, number_in_op, combine_op}
use Rattle.fx_c_lower_law.proofs.Relation as relation
use Rattle.fx_c_lower_law.proofs.Words.{true_word}
use Rattle.fx_c_lower_law.proofs.Reach.{RightView, right_view, pushed_one}
use Rattle.fx_c_lower_law.proofs.Reach as reaching
use Rattle.fx_c_lower_law.proofs.Costs.{left_pays, right_pays}
use Rattle.fx_c_lower_law.proofs.Costs as costs

-- a frame whose code begins with an op that costs what is owed
abbrev pub is_payer : Frame → Bool
is_payer Discards = true
is_payer (Second o first b) = left_pays o first (type_of b)
is_payer (Combines o first second v) = right_pays first second
is_payer _ = false

abbrev pub pays : List Frame → Bool
pays [] = false
pays (x ∷ rest) = is_payer x

-- ---- no widening

record NoLeft (o : Binop) (s t : TyTree) (owed : ℕ) (v : Value) : Type 0 where
  code : left_code o owed s t ≡ []
  len : left_len o s t ≡ 0
  late : left_late o owed s t ≡ owed
  word : left_word s t v ≡ v

no_left : (s t : TyTree) (o : Binop) (owed : ℕ) (v : Value) → FitsPair o s t → left_pays o s t ≡ false → NoLeft o s t owed v
no_left (IntTy i) (IntTy j) Add owed v fits e = record { code = refl; len = refl; late = refl; word = refl }
no_left (IntTy i) (IntTy j) o owed v fits e = record { code = refl; len = refl; late = refl; word = refl }
no_left (PtrTy s) (IntTy j) Add owed v fits e = record { code = refl; len = refl; late = refl; word = refl }
no_left (PtrTy s) (IntTy j) o owed v fits e = record { code = refl; len = refl; late = refl; word = refl }
no_left (PtrTy s) (PtrTy t) Add owed v fits e = record { code = refl; len = refl; late = refl; word = refl }
no_left (PtrTy s) (PtrTy t) o owed v fits e = record { code = refl; len = refl; late = refl; word = refl }
no_left (IntTy Long) (PtrTy t) Add owed v fits e = record { code = refl; len = refl; late = refl; word = refl }
no_left (IntTy Ulong) (PtrTy t) Add owed v fits e = absurd fits
no_left (IntTy i) (PtrTy t) Add owed v fits e = absurd cc
no_left (IntTy i) (PtrTy t) o owed v fits e = absurd fits
no_left s t o owed v fits e = absurd fits

-- the op that combines stands alone where the right operand is in it, or is pending and not widened
record Alone (p : Program) (owed : ℕ) (r : Right) (o : Binop) (s t : TyTree) : Type 0 where
  code : combine_code p owed r o s t ≡ costing (1 + owed) (combine_op p r o s t) ∷ []
  len : combine_len r o s t ≡ 1
  takes : relation.takes r o s t ≡ true

pending_alone : (s t : TyTree) (p : Program) (owed : ℕ) (o : Binop) → FitsPair o s t → right_pays s t ≡ false → Alone p owed right.Pending o s t
pending_alone (IntTy i) (IntTy j) p owed o fits e = record { code = refl; len = refl; takes = refl }
pending_alone (PtrTy s) (IntTy Long) p owed Add fits e = record { code = refl; len = refl; takes = refl }
pending_alone (PtrTy s) (IntTy Ulong) p owed Add fits e = absurd fits
pending_alone (PtrTy s) (IntTy i) p owed Add fits e = absurd cc
pending_alone (PtrTy s) (IntTy Long) p owed Sub fits e = record { code = refl; len = refl; takes = refl }
pending_alone (PtrTy s) (IntTy Ulong) p owed Sub fits e = absurd fits
pending_alone (PtrTy s) (IntTy i) p owed Sub fits e = absurd cc
pending_alone (PtrTy s) (IntTy i) p owed o fits e = absurd fits
pending_alone (IntTy i) (PtrTy t) p owed o fits e = record { code = refl; len = refl; takes = refl }
pending_alone (PtrTy s) (PtrTy t) p owed Sub fits e = record { code = refl; len = refl; takes = refl }
pending_alone (PtrTy s) (PtrTy t) p owed o fits e = record { code = refl; len = refl; takes = refl }
pending_alone s t p owed o fits e = absurd fits

abbrev pub is_pending : Right → Bool
is_pending right.Pending = true
is_pending r = false

in_op_alone : (s t : TyTree) (p : Program) (owed : ℕ) (o : Binop) (d : Direct) (r : Right) → FitsPair o s t → right_of o s t d ≡ r → is_pending r ≡ false → Alone p owed r o s t
in_op_alone (IntTy i) (IntTy j) p owed o d right.Pending fits e n = absurd cc
in_op_alone (IntTy i) (IntTy j) p owed o d r fits e n = record { code = refl; len = refl; takes = refl }
in_op_alone (PtrTy s) (IntTy i) p owed Add d right.Pending fits e n = absurd cc
in_op_alone (PtrTy s) (IntTy i) p owed Add d r fits e n = record { code = refl; len = refl; takes = refl }
in_op_alone (PtrTy s) (IntTy i) p owed Sub d r fits e n = let q : true ≡ false = ap is_pending e ∙ n in absurd cc
in_op_alone (PtrTy s) (IntTy i) p owed o d r fits e n = absurd fits
in_op_alone (IntTy i) (PtrTy t) p owed Add d r fits e n = let q : true ≡ false = ap is_pending e ∙ n in absurd cc
in_op_alone (IntTy i) (PtrTy t) p owed o d r fits e n = absurd fits
in_op_alone (PtrTy s) (PtrTy t) p owed Sub d r fits e n = let q : true ≡ false = ap is_pending e ∙ n in absurd cc
in_op_alone (PtrTy s) (PtrTy t) p owed o d right.Pending fits e n = absurd cc
in_op_alone (PtrTy s) (PtrTy t) p owed o d r fits e n = record { code = refl; len = refl; takes = refl }
in_op_alone s t p owed o d r fits e n = absurd fits

no_right : (s t : TyTree) (v : Value) → right_pays s t ≡ false → right_word s t v ≡ v
no_right (PtrTy t) (IntTy Long) v e = refl
no_right (PtrTy t) (IntTy Ulong) v e = refl
no_right (PtrTy t) (IntTy i) v e = absurd cc
no_right s t v e = refl

module _ (p : Program) (all : List (List Step)) (memory : List Object) (c : Call) where
  abbrev K : List Step
  K = relation.K p all c

  abbrev Awaits : (owed : ℕ) → List Frame → ℕ → List Value → Type 0
  Awaits owed rest at stack = relation.Awaits p all c owed rest at stack

  abbrev Turns : List Frame → (cost : ℕ) → Bool → ℕ → List Value → Type 0
  Turns rest cost b to below = relation.Turns p all c rest cost b to below

  abbrev SpotAt : (owed : ℕ) → Spot → ℕ → List Value → Type 0
  SpotAt owed spot at stack = relation.SpotAt p all memory c owed spot (At at stack)

  moved : (owed : ℕ) (rest : List Frame) (m n : ℕ) (stack : List Value) → m ≡ n → Awaits owed rest m stack → Awaits owed rest n stack
  moved owed rest m n stack e a = subst (λ i. Awaits owed rest i stack) e a

  turned : (rest : List Frame) (cost : ℕ) (b : Bool) (m n : ℕ) (stack : List Value) → m ≡ n → Turns rest cost b m stack → Turns rest cost b n stack
  turned rest cost b m n stack e h = subst (λ i. Turns rest cost b i stack) e h

  -- ---- a test of a word that is there

  tests_word : (v : Value) (b : Bool) (at to : ℕ) (stack : List Value) → is_true v ≡ b → relation.Surely p all memory c (op.JumpZero to) at (word_of v ∷ stack) (if b then at + 1 else to) stack
  tests_word v true at to stack e = record { runs = λ r m answer k l. rw (true_word v, e) refl; loads = refl; crosses = λ cs. refl }
  tests_word v false at to stack e = record { runs = λ r m answer k l. rw (true_word v, e) refl; loads = refl; crosses = λ cs. refl }

  tested_judged : (X : ℕ → Bool → ℕ → List Value → Type 0) (owed at : ℕ) (v : Value) (stack : List Value) → relation.Tested p all c owed X at stack → relation.Judged p all memory c owed X v at (word_of v ∷ stack)
  tested_judged X owed at v stack h = by h.0 (is_true v) refl h.3 h.4 h.5 where
    by : (sense b : Bool) → is_true v ≡ b → HasAt K at (test_code at (h.1 + owed) sense h.2) → X h.1 sense h.2 stack → X h.1 (not sense) (at + test_len sense) stack → relation.Judged p all memory c owed X v at (word_of v ∷ stack)
    by false true e has t u = (op.JumpZero h.2, h.1, at + 1, at + 1, stack, has.0, tests_word v true at h.2 stack e, inl refl, subst (λ b. X h.1 b (at + 1) stack) (sym e) u)
    by false false e has t u = (op.JumpZero h.2, h.1, h.2, h.2, stack, has.0, tests_word v false at h.2 stack e, inl refl, subst (λ b. X h.1 b h.2 stack) (sym e) t)
    by true true e has t u = (op.JumpZero (at + 2), h.1, at + 1, h.2, stack, has.0, tests_word v true at (at + 2) stack e, inr (has.1.0, tt), subst (λ b. X h.1 b h.2 stack) (sym e) t)
    by true false e has t u = (op.JumpZero (at + 2), h.1, at + 2, at + 2, stack, has.0, tests_word v false at (at + 2) stack e, inl refl, subst (λ b. X h.1 b (at + 2) stack) (sym e) u)

  -- ---- the second operand

  abbrev Combined : (owed : ℕ) → List Frame → Right → Binop → TyTree → TyTree → ℕ → List Value → Type 0
  Combined owed rest r o s t at below = relation.Combined p all c owed (λ at stack. Awaits 0 rest at stack) (λ cost b to below. Turns rest cost b to below) r o s t at below

  abbrev CombinesAt : (owed : ℕ) → List Frame → Right → Binop → TyTree → TyTree → ℕ → List Value → Type 0
  CombinesAt owed rest r o s t at below = relation.CombinesAt p all c owed (λ at stack. Awaits 0 rest at stack) (λ cost b to below. Turns rest cost b to below) r o s t at below

  -- the op stands alone
  alone_there : (owed : ℕ) (rest : List Frame) (r : Right) (o : Binop) (s t : TyTree) (at : ℕ) (below : List Value) → Alone p owed r o s t → Combined owed rest r o s t at below → CombinesAt owed rest r o s t at below
  alone_there owed rest r o s t at below x (inl h) = inl (subst (λ l. HasAt K at l) x.code h.0, subst (λ n. Awaits 0 rest (at + n) below) x.len h.1, x.takes)
  alone_there owed rest r o s t at below x (inr h) = inr h

  start_pending : (o : Binop) (first : TyTree) (b : TExprTree) (v : Value) → FitsPair o first (type_of b) → Fits p c.function b → (owed at : ℕ) (rest : List Frame) (below : List Value) (ys : List Step) → HasAt K at (value_code p at owed b ++ ys) → (HasAt K (at + value_len p b) ys → Combined (value_late p b) rest right.Pending o first (type_of b) (at + value_len p b) below) → SpotAt owed (start b (Combines o first (type_of b) v ∷ rest)) at (left_word first (type_of b) (word_of v) ∷ below)
  start_pending o first b v pair fits owed at rest below ys has go =
      reaching.start_at p all memory c b ys fits at owed (Combines o first (type_of b) v ∷ rest) _ has (λ h. (below, refl, pair, go h))

  start_number : (o : Binop) (first : TyTree) (b : TExprTree) (v : Value) → FitsPair o first (type_of b) → (n w cost : ℕ) → direct p b ≡ Constant w cost → n ≡ number_in_op first (type_of b) w → (owed at : ℕ) (rest : List Frame) (below : List Value) → CombinesAt (owed + cost) rest (right.Number n) o first (type_of b) at below → SpotAt owed (start b (Combines o first (type_of b) v ∷ rest)) at (left_word first (type_of b) (word_of v) ∷ below)
  start_number o first b v pair n w cost q e owed at rest below h =
      let le : 1 ≤ cost = subst costs.AtLeast q (costs.direct_least p b) in
      let z : owed + cost ≡ owed + cost - 1 + 1 = omega (arith, le) in
      let h2 = subst (λ m. CombinesAt (owed + cost) rest (right.Number m) o first (type_of b) at below) e h in
      let h3 = subst (λ k. CombinesAt k rest (right.Number (number_in_op first (type_of b) w)) o first (type_of b) at below) z h2 in
      reaching.constant_at p all memory c b owed (Combines o first (type_of b) v ∷ rest) at _
      (subst (λ d. reaching.GivenBy p all memory c d owed (Combines o first (type_of b) v ∷ rest) at (left_word first (type_of b) (word_of v) ∷ below)) (sym q)
      (owed + cost - 1, omega (arith, le), inr (below, refl, pair, h3)))

  start_local : (o : Binop) (first : TyTree) (b : TExprTree) (v : Value) → FitsPair o first (type_of b) → Fits p c.function b → (n : ℕ) → direct p b ≡ Whole n → (owed at : ℕ) (rest : List Frame) (below : List Value) → CombinesAt (owed + 2) rest (right.Local n) o first (type_of b) at below → SpotAt owed (start b (Combines o first (type_of b) v ∷ rest)) at (left_word first (type_of b) (word_of v) ∷ below)
  start_local o first b v pair fits n q owed at rest below h =
      let z : owed + 2 ≡ owed + 1 + 1 = omega arith in
      let h2 = subst (λ k. CombinesAt k rest (right.Local n) o first (type_of b) at below) z h in
      reaching.whole_at p all memory c b fits owed (Combines o first (type_of b) v ∷ rest) at _
      (subst (λ d. reaching.HeldBy p all memory c d (type_of b) owed (Combines o first (type_of b) v ∷ rest) at (left_word first (type_of b) (word_of v) ∷ below)) (sym q)
      (inr (refl, (below, refl, pair, h2))))

  -- the op alone behind a right operand that is in it
  alone_here : (o : Binop) (s t : TyTree) (r : Right) (k m at : ℕ) (rest : List Frame) (below : List Value) → Alone p k r o s t → k ≡ m → HasAt K at (combine_code p k r o s t) → Awaits 0 rest (at + combine_len r o s t) below → CombinesAt m rest r o s t at below
  alone_here o s t r k m at rest below x e has go = subst (λ i. CombinesAt i rest r o s t at below) e (alone_there k rest r o s t at below x (inl (has, go)))

  pub second_start : (o : Binop) (first : TyTree) (b : TExprTree) (v : Value) (r : Right) → right_of o first (type_of b) (direct p b) ≡ r → RightView (direct p b) first (type_of b) r → FitsPair o first (type_of b) → Fits p c.function b → (owed at : ℕ) (rest : List Frame) (below : List Value) → HasAt K at (right_code r (value_code p at owed b) ++ combine_code p (right_owed r (direct p b) owed (value_late p b)) r o first (type_of b)) → Awaits 0 rest (at + (right_len r (value_len p b) + combine_len r o first (type_of b))) below → SpotAt owed (start b (Combines o first (type_of b) v ∷ rest)) at (left_word first (type_of b) (word_of v) ∷ below)
  second_start o first b v right.Pending q view pair fits owed at rest below has go =
      start_pending o first b v pair fits owed at rest below _ has (λ h. inl (h, moved 0 rest _ (at + value_len p b + combine_len right.Pending o first (type_of b)) below (omega arith) go))
  second_start o first b v (right.Number n) q view pair fits owed at rest below has go =
      start_number o first b v pair n view.0 view.1 view.2 view.3 owed at rest below
      (alone_here o first (type_of b) (right.Number n) _ (owed + view.1) at rest below (in_op_alone first (type_of b) p _ o (direct p b) (right.Number n) pair q refl) (ap (λ d. right_owed (right.Number n) d owed (value_late p b)) view.2) has
      (moved 0 rest _ (at + combine_len (right.Number n) o first (type_of b)) below (omega arith) go))
  second_start o first b v (right.Local n) q view pair fits owed at rest below has go =
      start_local o first b v pair fits n view owed at rest below
      (alone_here o first (type_of b) (right.Local n) _ (owed + 2) at rest below (in_op_alone first (type_of b) p _ o (direct p b) (right.Local n) pair q refl) (ap (λ d. right_owed (right.Local n) d owed (value_late p b)) view) has
      (moved 0 rest _ (at + combine_len (right.Local n) o first (type_of b)) below (omega arith) go))

  -- the same where a comparison is a condition
  second_compare : (o : Binop) (first : TyTree) (b : TExprTree) (v : Value) (r : Right) → RightView (direct p b) first (type_of b) r → is_comparison o ≡ true → FitsPair o first (type_of b) → Fits p c.function b → (owed at more : ℕ) (sense : Bool) (to : ℕ) (rest : List Frame) (below : List Value) → HasAt K at (right_code r (value_code p at owed b) ++ costing (1 + more + right_owed r (direct p b) owed (value_late p b)) (relation.compare_op p all r o first sense to) ∷ []) → Turns rest more sense to below → Turns rest more (not sense) (at + right_len r (value_len p b) + 1) below → SpotAt owed (start b (Combines o first (type_of b) v ∷ rest)) at (left_word first (type_of b) (word_of v) ∷ below)
  second_compare o first b v right.Pending view is pair fits owed at more sense to rest below has t u =
      start_pending o first b v pair fits owed at rest below _ has (λ h. inr (is, (sense, more, to, h, t, u)))
  second_compare o first b v (right.Number n) view is pair fits owed at more sense to rest below has t u =
      let e : right_owed (right.Number n) (direct p b) owed (value_late p b) ≡ owed + view.1 = ap (λ d. right_owed (right.Number n) d owed (value_late p b)) view.2 in
      start_number o first b v pair n view.0 view.1 view.2 view.3 owed at rest below
      (inr (is, (sense, more, to, subst (λ k. HasAt K at (costing (1 + more + k) (relation.compare_op p all (right.Number n) o first sense to) ∷ [])) e has, t, turned rest more (not sense) _ (at + 1) below (omega arith) u)))
  second_compare o first b v (right.Local n) view is pair fits owed at more sense to rest below has t u =
      let e : right_owed (right.Local n) (direct p b) owed (value_late p b) ≡ owed + 2 = ap (λ d. right_owed (right.Local n) d owed (value_late p b)) view in
      start_local o first b v pair fits n view owed at rest below
      (inr (is, (sense, more, to, subst (λ k. HasAt K at (costing (1 + more + k) (relation.compare_op p all (right.Local n) o first sense to) ∷ [])) e has, t, turned rest more (not sense) _ (at + 1) below (omega arith) u)))

  second_at : (o : Binop) (first : TyTree) (b : TExprTree) (v : Value) (owed at : ℕ) (rest : List Frame) (stack : List Value) → left_pays o first (type_of b) ≡ false → Awaits owed (Second o first b ∷ rest) at stack → SpotAt owed (start b (Combines o first (type_of b) v ∷ rest)) at (word_of v ∷ stack)
  second_at o first b v owed at rest stack kept h = subst (λ w. SpotAt owed (start b (Combines o first (type_of b) v ∷ rest)) at (w ∷ stack)) n.word (by h.2) where
    n : NoLeft o first (type_of b) owed (word_of v)
    n = no_left first (type_of b) o owed (word_of v) h.0 kept

    r : Right
    r = right_of o first (type_of b) (direct p b)

    view : RightView (direct p b) first (type_of b) r
    view = right_view o first (type_of b) (direct p b)

    by : relation.SecondAt p all c owed (λ at stack. Awaits 0 rest at stack) (λ cost b to below. Turns rest cost b to below) r o first b at stack → SpotAt owed (start b (Combines o first (type_of b) v ∷ rest)) at (left_word first (type_of b) (word_of v) ∷ stack)
    by (inl k) =
        let z : at + 0 ≡ at = omega arith in
        let h1 = subst (λ l. HasAt K at (l ++ (right_code r (value_code p (at + left_len o first (type_of b)) (left_late o owed first (type_of b)) b) ++ combine_code p (right_owed r (direct p b) (left_late o owed first (type_of b)) (value_late p b)) r o first (type_of b)))) n.code k.0 in
        let h2 = subst (λ i. HasAt K at (right_code r (value_code p (at + i) (left_late o owed first (type_of b)) b) ++ combine_code p (right_owed r (direct p b) (left_late o owed first (type_of b)) (value_late p b)) r o first (type_of b))) n.len h1 in
        let h3 = subst (λ i. HasAt K at (right_code r (value_code p (at + 0) i b) ++ combine_code p (right_owed r (direct p b) i (value_late p b)) r o first (type_of b))) n.late h2 in
        let h4 = subst (λ i. HasAt K at (right_code r (value_code p i owed b) ++ combine_code p (right_owed r (direct p b) owed (value_late p b)) r o first (type_of b))) z h3 in
        second_start o first b v r refl view h.0 h.1 owed at rest stack h4 (moved 0 rest _ (at + (right_len r (value_len p b) + combine_len r o first (type_of b))) stack (omega (arith, n.len)) k.1)
    by (inr k) = second_compare o first b v r view k.0 h.0 h.1 owed at k.2 k.1 k.3 rest stack k.4 k.5 k.6

  -- ---- a value whose code does not begin with an op that pays

  lnot_at : (rest : List Frame) (owed at : ℕ) (v : Value) (stack : List Value) (ty : TyTree) → Awaits owed (Applies Lnot ty ∷ rest) at stack → SpotAt owed (give v (Applies Lnot ty ∷ rest)) at (word_of v ∷ stack)
  lnot_at rest owed at v stack ty (inl h) = inl (stack, refl, h.0, h.1)
  lnot_at rest owed at v stack ty (inr h) = inr (tested_judged (Turns (Applies Lnot ty ∷ rest)) owed at v stack h)

  null_at : (rest : List Frame) (owed at : ℕ) (v : Value) (stack : List Value) (s : TyTree) (j : IntType) → Awaits owed (Converts (PtrTy s) (IntTy j) ∷ rest) at stack → SpotAt owed (give v (Converts (PtrTy s) (IntTy j) ∷ rest)) at (word_of v ∷ stack)
  null_at rest owed at v stack s j (inl h) = inl (stack, refl, h)
  null_at rest owed at v stack s j (inr h) = inr (stack, refl, h)

  store_at : (rest : List Frame) (owed at : ℕ) (v : Value) (stack : List Value) (ty : TyTree) (to : Value) → Awaits owed (Into ty to ∷ rest) at stack → SpotAt owed (give v (Into ty to ∷ rest)) at (word_of v ∷ stack)
  store_at rest owed at v stack (IntTy i) to (inl h) = inl (ap (λ l. word_of v ∷ l) h.0, h.1, h.2)
  store_at rest owed at v stack (IntTy i) to (inr h) = inr (ap (λ l. word_of v ∷ l) h.0, h.1, h.2, h.4, h.5, h.6)
  store_at rest owed at v stack (PtrTy t) to (inl h) = inl (ap (λ l. word_of v ∷ l) h.0, h.1, h.2)
  store_at rest owed at v stack (PtrTy t) to (inr h) = inr (ap (λ l. word_of v ∷ l) h.0, h.1, h.2, h.4, h.5, h.6)
  store_at rest owed at v stack ty to (inl h) = (refl, ap (λ l. word_of v ∷ l) h.0, h.1, h.2)
  store_at rest owed at v stack ty to (inr h) = absurd cc

  pub give_at : (rest : List Frame) (owed at : ℕ) (v : Value) (stack : List Value) → pays rest ≡ false → Awaits owed rest at stack → SpotAt owed (give v rest) at (word_of v ∷ stack)
  give_at [] owed at v stack kept h = absurd h
  give_at (Loads ty ∷ rest) owed at v stack kept h = inl (stack, refl, h)
  give_at (Applies Deref ty ∷ rest) owed at v stack kept h = (stack, refl, h)
  give_at (Applies Addr ty ∷ rest) owed at v stack kept h = (stack, refl, h)
  give_at (Applies Lnot ty ∷ rest) owed at v stack kept h = lnot_at rest owed at v stack ty h
  give_at (Applies o ty ∷ rest) owed at v stack kept h = (stack, refl, h.0, h.1)
  give_at (Converts (IntTy i) (IntTy j) ∷ rest) owed at v stack kept h = inl (stack, refl, h)
  give_at (Converts (PtrTy s) (IntTy j) ∷ rest) owed at v stack kept h = null_at rest owed at v stack s j h
  give_at (Converts s t ∷ rest) owed at v stack kept h = inl (stack, refl, h)
  give_at (Steps struct member ∷ rest) owed at v stack kept h = (stack, refl, h)
  give_at (Second o first b ∷ rest) owed at v stack kept h = second_at o first b v owed at rest stack kept h
  give_at (Combines o first second w ∷ rest) owed at v stack kept h = (
    right.Pending,
    h.0,
    h.2,
    ap (λ l. word_of v ∷ l) h.1 ∙ ap (λ x. x ∷ (left_word first second (word_of w) ∷ h.0)) (sym (no_right first second (word_of v) kept)),
    alone_there owed rest right.Pending o first second at h.0 (pending_alone first second p owed o h.2 kept) h.3,
  )
  give_at (Decides o b ∷ rest) owed at v stack kept h = tested_judged (Turns (Decides o b ∷ rest)) owed at v stack h
  give_at (Truth ∷ rest) owed at v stack kept h = tested_judged (Turns (Truth ∷ rest)) owed at v stack h
  give_at (Arguments g way before NoTExprs ∷ rest) owed at v stack kept h =
      let n : length (before ++ v ∷ []) ≡ (function_at p g).params = omega (arith, length-append before (v ∷ []), h.3) in
      let l : word_of v ∷ stack ≡ pushed (before ++ v ∷ []) h.0 = ap (λ l. word_of v ∷ l) h.1 ∙ sym (pushed_one before v h.0) in
      let q : at + 0 + 1 ≡ at + 1 = omega arith in
      (h.0, l, n, (h.4, moved 0 rest (at + 0 + 1) (at + 1) h.0 q h.5), h.6)
  give_at (Arguments g way before (MoreTExprs e more) ∷ rest) owed at v stack kept h =
      let n : length (before ++ v ∷ []) + 1 + count more ≡ (function_at p g).params = omega (arith, length-append before (v ∷ []), h.3) in
      let l : word_of v ∷ stack ≡ pushed (before ++ v ∷ []) h.0 = ap (λ l. word_of v ∷ l) h.1 ∙ sym (pushed_one before v h.0) in
      reaching.start_at p all memory c e _ h.2.0 at owed (Arguments g way (before ++ v ∷ []) more ∷ rest) (word_of v ∷ stack) h.4
      (λ k. (h.0, l, h.2.1, n, k, moved 0 rest _ _ h.0 (omega arith) h.5, h.6))
  give_at (Tells device register ∷ rest) owed at v stack kept h = (stack, refl, h)
  give_at (Spawns g ∷ rest) owed at v stack kept h = (stack, refl, h)
  give_at (Switches ∷ rest) owed at v stack kept h = (stack, refl, h)
  give_at (Target ty e ∷ rest) owed at v stack kept h =
      reaching.start_at p all memory c e _ h.1 at owed (Into ty v ∷ rest) (word_of v ∷ stack) h.2 (λ k. inl (ap (λ l. word_of v ∷ l) h.0, k, h.3))
  give_at (Into ty to ∷ rest) owed at v stack kept h = store_at rest owed at v stack ty to h
  give_at (Discards ∷ rest) owed at v stack kept h = absurd cc
  give_at (Forks s other ∷ rest) owed at v stack kept h = tested_judged (Turns (Forks s other ∷ rest)) owed at v stack h
  give_at (Tests loop ∷ rest) owed at v stack kept h = tested_judged (Turns (Tests loop ∷ rest)) owed at v stack h
  give_at (Answers ∷ rest) owed at v stack kept h = (ap (λ l. word_of v ∷ l) h.0, h.1)
  give_at (x ∷ rest) owed at v stack kept h = absurd h
