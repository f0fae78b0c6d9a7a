-- Lowered code is well stacked.
use Rattle.std.proofs.Common.{◌≡◌, ℕ, zero, suc, ◌+◌, ◌<◌, ◌≤◌, max, List, [], ◌∷◌, ◌++◌, length, map, Option, Some, None, refl, sym, ap, ◌∙◌, subst, arith, length-append}
use Rattle.std.specs.Prelude.{slice_get, slice_index_or, replicate}
use Rattle.std.proofs.lemmas.Option.{slice_get-get_or}
use Rattle.fx_c_ast.specs.CheckedTrees.{TyTree, IntTy, PtrTy}
use Rattle.fx_c_ast.specs.StackUse.{need_stmts}
use Rattle.fx_c_mean_model.specs.Programs.{Program, Function, function_at, no_function, program_of}
use Rattle.fx_c_types_model.specs.Each.{EachInAll}
use Rattle.fx_c_lin.specs.Ops.{Op, Step}
use Rattle.fx_c_lin.specs.Ops as op
use Rattle.fx_c_lin.specs.Machine.{no_code}
use Rattle.fx_c_lower_model.specs.Steps.{fall_code}
use Rattle.fx_c_lower_model.specs.Lengths.{stmts_len}
use Rattle.fx_c_lower_model.specs.Code.{stmts_code, function_code}
use Rattle.fx_c_lower_law.proofs.Lengths as lengths
use Rattle.fx_c_lower_stack_law.specs.Heights.{takes, behind, leads_to, heights, heights_from, with_mark, height_with, height_at}
use Rattle.fx_c_lower_stack_law.specs.Stacked.{IsStacked, AreStacked, LoweredCodeIsStacked}
use Rattle.fx_c_lower_stack_law.proofs.Stands.{Stands, front, rest, stands_in_itself, stands_at, within}
use Rattle.fx_c_lower_stack_law.proofs.Pieces.{IsRight, AreRight, Stacks}
use Rattle.fx_c_lower_stack_law.proofs.Pieces as pieces
use Rattle.fx_c_lower_stack_law.proofs.Needs.{CallPasses}
use Rattle.fx_c_lower_stack_law.proofs.Statements.{statements}
use Rattle.fx_c_lower_stack_law.proofs.Scans.{scan}
use Rattle.fx_c_lower_stack_law.proofs.Arity.{programs_pass}

-- ---- code of which a table is known

length_heights : (b : ℕ → Op → ℕ) (marks : List (Option ℕ)) (k count : ℕ) (xs : List Step) → length (heights_from b marks k count xs) ≡ length xs
length_heights b marks k count [] = refl
length_heights b marks k count (x ∷ xs) = ap suc (length_heights b (with_mark marks (b (height_with marks k count) x.op) (leads_to x.op)) (k + 1) (b (height_with marks k count) x.op) xs)

some_same : (x y : ℕ) → Some x ≡ Some y → x ≡ y
some_same x y e = cc

step_same : (x y : Step) → Some x ≡ Some y → x ≡ y
step_same x y e = cc

module _ (p : Program) (most : ℕ) where
  right_at : (all : List ℕ) (steps : List Step) (at : ℕ) (xs : List Step) (i : ℕ) (x : Step) → AreRight p most all steps at xs → slice_get xs i ≡ Some x → IsRight p most all steps (at + i) x.op
  right_at all steps at [] i x h e = absurd (none_some x e) where
    none_some : (y : Step) → None ≡ Some y → ⊥
    none_some y z = cc
  right_at all steps at (y ∷ ys) zero x h e =
      let z : at ≡ at + 0 = omega arith in
      subst (λ n. IsRight p most all steps n x.op) z (subst (λ (s : Step). IsRight p most all steps at s.op) (step_same y x e) h.0)
  right_at all steps at (y ∷ ys) (suc i) x h e =
      let z : at + 1 + i ≡ at + suc i = omega arith in
      subst (λ n. IsRight p most all steps n x.op) z (right_at all steps (at + 1) ys i x h.1 e)

  module _ (all : List ℕ) (steps : List Step) (long : length all ≡ length steps) (first : slice_get all 0 ≡ Some 0) (right : AreRight p most all steps 0 steps) where
    height_is : (k h : ℕ) → slice_get all k ≡ Some h → (k < length steps) × (height_at p steps k ≡ h)
    height_is k h e =
        let stands : Stands all 0 (heights p steps) = scan p most (behind p) all steps long (λ n o t. refl) first (stands_in_itself steps) right in
        let inside : k < length steps = omega (arith, within all k h e, long) in
        let n = length_heights (behind p) (replicate (length steps) None) 0 0 steps in
        let here : slice_get all (0 + k) ≡ slice_get (heights p steps) k = stands_at all 0 (heights p steps) k (omega arith) stands in
        let z : 0 + k ≡ k = omega arith in
        let there : slice_get (heights p steps) k ≡ Some (height_at p steps k) = slice_get-get_or (heights p steps) k 0 (omega arith) in
        (inside, some_same (height_at p steps k) h (sym there ∙ sym here ∙ subst (λ i. slice_get all i ≡ Some h) (sym z) e))

    step_stacked : (k : ℕ) (x : Step) → slice_get steps k ≡ Some x → IsStacked p most steps k x.op
    step_stacked k x e =
        let z : 0 + k ≡ k = omega arith in
        let r : IsRight p most all steps k x.op = subst (λ n. IsRight p most all steps n x.op) z (right_at all steps 0 steps k x right e) in
        let same : height_at p steps k ≡ r.count = (height_is k r.count r.here).1 in
        let by : (t : ℕ) → slice_get all t ≡ Some (behind p r.count x.op) → (t < length steps) × (height_at p steps t ≡ behind p (height_at p steps k) x.op) = λ t g. ((height_is t (behind p r.count x.op) g).0, (height_is t (behind p r.count x.op) g).1 ∙ ap (λ n. behind p n x.op) (sym same)) in
        record {
          few = subst (λ n. n ≤ most) (sym same) r.few;
          there = subst (λ n. takes p x.op ≤ n) (sym same) r.there;
          on = λ g. by (k + 1) (r.on g);
          to = λ t g. by t (r.to t g);
          last = λ g. subst (λ n. n ≤ 1) (sym same) (r.last g);
        }

    are_stacked : 0 < length steps → AreStacked p most steps
    are_stacked some = record { some = some; first = (height_is 0 0 first).1; each = step_stacked }

-- ---- a function's code

abbrev fall_heights : TyTree → List ℕ
fall_heights (IntTy i) = 0 ∷ 1 ∷ []
fall_heights (PtrTy t) = 0 ∷ 1 ∷ []
fall_heights _ = 0 ∷ []

fall_size : (g : TyTree) → length (fall_heights g) ≡ length (fall_code g)
fall_size (IntTy i) = refl
fall_size (PtrTy t) = refl
fall_size g = refl

fall_some : (g : TyTree) → 0 < length (fall_code g)
fall_some (IntTy i) = omega arith
fall_some (PtrTy t) = omega arith
fall_some g = omega arith

fall_first : (all : List ℕ) (at : ℕ) (g : TyTree) → Stands all at (fall_heights g) → slice_get all at ≡ Some 0
fall_first all at (IntTy i) h = h.0
fall_first all at (PtrTy t) h = h.0
fall_first all at g h = h.0

abbrev AnyTable : List ℕ → List Step → Type 0
AnyTable all steps = Unit {0}

fall_right : (p : Program) (most : ℕ) → 1 ≤ most → (all : List ℕ) (steps : List Step) (at : ℕ) (g : TyTree) → Stands all at (fall_heights g) → ((h : ℕ) → slice_get all (at + length (fall_code g)) ≡ Some h → h ≡ 0) → AreRight p most all steps at (fall_code g)
fall_right p most room all steps at (IntTy i) h after =
    let z : at + 1 + 1 ≡ at + 2 = omega arith in (
      pieces.plain_right p most AnyTable (op.Number 0) 0 1 refl refl (omega arith) (omega arith) (omega arith) all steps at h.0 h.1.0,
      (pieces.return_right p most AnyTable all steps (at + 1) 1 (omega arith) room h.1.0 (λ n e. after n (subst (λ k. slice_get all k ≡ Some n) z e)), tt),
    )
fall_right p most room all steps at (PtrTy t) h after =
    let z : at + 1 + 1 ≡ at + 2 = omega arith in (
      pieces.plain_right p most AnyTable (op.Number 0) 0 1 refl refl (omega arith) (omega arith) (omega arith) all steps at h.0 h.1.0,
      (pieces.return_right p most AnyTable all steps (at + 1) 1 (omega arith) room h.1.0 (λ n e. after n (subst (λ k. slice_get all k ≡ Some n) z e)), tt),
    )
fall_right p most room all steps at g h after = (pieces.return_right p most AnyTable all steps at 0 (omega arith) (omega arith) h.0 after, tt)

function_stacked : (p : Program) (most : ℕ) (f : Function) → 1 ≤ most → need_stmts f.body ≤ most → EachInAll (CallPasses p) f.body → AreStacked p most (function_code p f)
function_stacked p most f room few passes = are_stacked p most all code long first right some where
  len : ℕ
  len = stmts_len p f.gives f.body

  body : List Step
  body = stmts_code p f.gives 0 len 0 0 f.body

  code : List Step
  code = body ++ fall_code f.gives

  O : List ℕ → List Step → Type 0
  O = λ all steps. (slice_get all 0 ≡ Some 0) × (slice_get all len ≡ Some 0)

  x : Stacks p most O 0 0 0 body
  x = statements p most room O f.gives 0 len 0 0 f.body passes few (λ all steps o. o.1) (λ all steps o. o.0) (λ all steps o. o.0)

  all : List ℕ
  all = x.heights ++ fall_heights f.gives

  ends : length body ≡ len
  ends = lengths.stmts_length p f.gives 0 len 0 0 f.body

  long : length all ≡ length code
  long = omega (arith, length-append x.heights (fall_heights f.gives), length-append body (fall_code f.gives), x.size, fall_size f.gives)

  some : 0 < length code
  some = omega (arith, length-append body (fall_code f.gives), fall_some f.gives)

  front_part : Stands all 0 x.heights
  front_part = front all 0 x.heights (fall_heights f.gives) (stands_in_itself all)

  last_part : Stands all (0 + length body) (fall_heights f.gives)
  last_part = rest all 0 x.heights (fall_heights f.gives) (length body) x.size (stands_in_itself all)

  at_end : slice_get all (0 + length body) ≡ Some 0
  at_end = fall_first all (0 + length body) f.gives last_part

  first : slice_get all 0 ≡ Some 0
  first = x.starts all front_part at_end

  at_len : slice_get all len ≡ Some 0
  at_len = let z : 0 + length body ≡ len = omega (arith, ends) in subst (λ k. slice_get all k ≡ Some 0) z at_end

  past : (h : ℕ) → slice_get all (0 + length body + length (fall_code f.gives)) ≡ Some h → h ≡ 0
  past h e = absurd (omega (arith, within all (0 + length body + length (fall_code f.gives)) h e, long, length-append body (fall_code f.gives)))

  right : AreRight p most all code 0 code
  right = pieces.right_both p most all code 0 body (fall_code f.gives)
      (x.fits all code (front code 0 body (fall_code f.gives) (stands_in_itself code)) front_part at_end (first, at_len))
      (fall_right p most room all code (0 + length body) f.gives last_part past)

-- ---- a program's code

steps_at : (p : Program) (fs : List Function) (f : ℕ) → slice_index_or (map (function_code p) fs) f no_code ≡ function_code p (slice_index_or fs f no_function)
steps_at p [] f = refl
steps_at p (x ∷ fs) zero = refl
steps_at p (x ∷ fs) (suc f) = steps_at p fs f

pub lowered_is_stacked : LoweredCodeIsStacked
lowered_is_stacked t f lowerable =
    let p = program_of t in
    let F = function_at p f in
    subst (λ code. AreStacked p (max 1 (need_stmts F.body)) code) (sym (steps_at p p.functions f))
    (function_stacked p (max 1 (need_stmts F.body)) F (omega arith) (omega arith) (programs_pass t f lowerable))
