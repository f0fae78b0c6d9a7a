-- The heights before the ops of single nodes.
use Rattle.std.proofs.Common.{◌≡◌, inr, ℕ, zero, suc, ◌+◌, ◌-◌, ◌≤◌, Bool, true, false, List, [], ◌∷◌, ◌++◌, length, Some, None, refl, ap, ◌∙◌, subst, arith}
use Rattle.std.specs.Prelude.{slice_get}
use Rattle.fx_c_ast.specs.declared.operator.IntType.{IntType}
use Rattle.fx_c_ast.specs.declared.operator.IntType.TheVariants.{Long, Ulong}
use Rattle.fx_c_ast.specs.declared.operator.Unop.{Unop}
use Rattle.fx_c_ast.specs.declared.operator.Unop.TheVariants.{Deref, Addr}
use Rattle.fx_c_ast.specs.declared.operator.Binop.{Binop}
use Rattle.fx_c_ast.specs.declared.operator.Binop.TheVariants.{Add, Sub}
use Rattle.fx_c_ast.specs.CheckedTrees.{TyTree, IntTy, PtrTy}
use Rattle.fx_c_mean_model.specs.Programs.{Program, function_at}
use Rattle.fx_c_mean_model.specs.States.{Way, ByGate, same_type}
use Rattle.fx_c_lin.specs.declared.op.Right.{Right}
use Rattle.fx_c_lin.specs.declared.op.Right.TheVariants as right
use Rattle.fx_c_lin.specs.Ops.{Op, Step}
use Rattle.fx_c_lin.specs.Ops as op
use Rattle.fx_c_lower_model.specs.Steps.{costing, free, load_code, unary_code, convert_code, cast_code, widening, assign_op, fall_code, tell_op, ask_op}
use Rattle.fx_c_lower_model.specs.Direct.{Direct, Constant, Whole, Other, right_of, right_by, as_long}
use Rattle.fx_c_lower_model.specs.Operands.{left_code, move_code, combine_code, truth_code, test_code}
use Rattle.fx_c_lower_model.specs.Code.{value_by, right_code, call_op}
use Rattle.fx_c_lower_stack_law.specs.Heights.{right_takes, takes, behind, goes_on, leads_to}
use Rattle.fx_c_lower_stack_law.proofs.Stands.{Stands}
use Rattle.fx_c_lower_stack_law.proofs.Pieces.{IsLed, IsRight, AreRight, Stacks, Goes, some_same}
use Rattle.fx_c_lower_stack_law.proofs.Pieces as pieces

module _ (p : Program) (most : ℕ) (O : List ℕ → List Step → Type 0) where
  -- an op that takes one operand and leaves one, and one that takes none
  change : (at n : ℕ) (x : Step) → goes_on x.op ≡ true → leads_to x.op ≡ None → takes p x.op ≡ 1 → behind p (n + 1) x.op ≡ n + 1 → n + 1 ≤ most → Stacks p most O at (n + 1) (n + 1) (x ∷ [])
  change at n x g t one b few = pieces.plain p most O at (n + 1) (n + 1) x g t (omega arith) b few

  pub load : (at n : ℕ) (b : Bool) (owed : ℕ) (ty : TyTree) → n + 1 ≤ most → Stacks p most O at (n + 1) (n + 1) (load_code b owed ty)
  load at n true owed ty few = change at n _ refl refl refl (omega arith) few
  load at n false owed ty few = pieces.none p most O at (n + 1)

  pub value : (at n : ℕ) (d : Direct) (owed : ℕ) (xs : List Step) (b : Bool) (owes : ℕ) (ty : TyTree) → n + 1 ≤ most → Stacks p most O at n (n + 1) xs → Stacks p most O at n (n + 1) (value_by d owed xs b owes ty)
  value at n (Constant w cost) owed xs b owes ty few x = pieces.plain p most O at n (n + 1) _ refl refl (omega arith) (omega arith) (omega arith)
  value at n (Whole i) owed xs b owes ty few x = pieces.plain p most O at n (n + 1) _ refl refl (omega arith) (omega arith) (omega arith)
  value at n Other owed xs b owes ty few x = pieces.both p most O at n (n + 1) (n + 1) (length xs) xs _ refl x (load _ n b owes ty few)

  pub unary : (at n : ℕ) (o : Unop) (owed : ℕ) (ty : TyTree) → n + 1 ≤ most → Stacks p most O at (n + 1) (n + 1) (unary_code o owed ty)
  unary at n Deref owed ty few = pieces.none p most O at (n + 1)
  unary at n Addr owed ty few = pieces.none p most O at (n + 1)
  unary at n o owed ty few = change at n _ refl refl refl (omega arith) few

  convert : (at n owed : ℕ) (s t : TyTree) → n + 1 ≤ most → Stacks p most O at (n + 1) (n + 1) (convert_code owed s t)
  convert at n owed (IntTy i) (IntTy j) few = change at n _ refl refl refl (omega arith) few
  convert at n owed (PtrTy s) (IntTy j) few = change at n _ refl refl refl (omega arith) few
  convert at n owed s t few = pieces.none p most O at (n + 1)

  pub cast : (at n owed : ℕ) (s t : TyTree) → n + 1 ≤ most → Stacks p most O at (n + 1) (n + 1) (cast_code owed s t)
  cast at n owed s t few = pieces.either p most O at (n + 1) (n + 1) (same_type s t) [] _ (λ y. pieces.none p most O at (n + 1)) (λ y. convert at n owed s t few)

  -- ---- two operands

  widened : (at n owed : ℕ) (i : IntType) → n + 1 ≤ most → Stacks p most O at (n + 1) (n + 1) (widening owed i)
  widened at n owed Long few = pieces.none p most O at (n + 1)
  widened at n owed Ulong few = pieces.none p most O at (n + 1)
  widened at n owed i few = change at n _ refl refl refl (omega arith) few

  pub left : (at n : ℕ) (o : Binop) (owed : ℕ) (s t : TyTree) → n + 1 ≤ most → Stacks p most O at (n + 1) (n + 1) (left_code o owed s t)
  left at n Add owed (IntTy i) (PtrTy t) few = widened at n owed i few
  left at n o owed s t few = pieces.none p most O at (n + 1)

  -- the right operand, where it is pending
  pub second : (at n : ℕ) (r : Right) (xs : List Step) → Stacks p most O at (n + 1) (n + 1 + 1) xs → Stacks p most O at (n + 1) (n + 1 + right_takes r) (right_code r xs)
  second at n right.Pending xs x = x
  second at n (right.Number w) xs x = let z : n + 1 ≡ n + 1 + 0 = omega arith in subst (λ m. Stacks p most O at (n + 1) m []) z (pieces.none p most O at (n + 1))
  second at n (right.Local i) xs x = let z : n + 1 ≡ n + 1 + 0 = omega arith in subst (λ m. Stacks p most O at (n + 1) m []) z (pieces.none p most O at (n + 1))

  -- an op that combines two operands of which the right one may be pending
  pair : (at n : ℕ) (r : Right) (x : Step) → goes_on x.op ≡ true → leads_to x.op ≡ None → takes p x.op ≡ 1 + right_takes r → behind p (n + 1 + right_takes r) x.op ≡ n + 1 → n + 1 + right_takes r ≤ most → Stacks p most O at (n + 1 + right_takes r) (n + 1) (x ∷ [])
  pair at n r x g t two b few = pieces.plain p most O at _ (n + 1) x g t (omega arith) b few

  -- an integer is widened, and an op takes it and the pointer below it
  by_long : (at n owed : ℕ) (i : IntType) (x : Step) → goes_on x.op ≡ true → leads_to x.op ≡ None → takes p x.op ≡ 2 → behind p (n + 1 + 1) x.op ≡ n + 1 → n + 1 + 1 ≤ most → Stacks p most O at (n + 1 + 1) (n + 1) (widening owed i ++ x ∷ [])
  by_long at n owed i x g t two b few =
      pieces.both p most O at (n + 1 + 1) (n + 1 + 1) (n + 1) (length (widening owed i)) (widening owed i) (x ∷ []) refl (widened at (n + 1) owed i few)
      (pieces.plain p most O _ (n + 1 + 1) (n + 1) x g t (omega arith) b few)

  added : (at n owed : ℕ) (r : Right) (bytes : ℕ) (i : IntType) → n + 1 + right_takes r ≤ most → Stacks p most O at (n + 1 + right_takes r) (n + 1) (move_code owed r Add bytes i)
  added at n owed right.Pending bytes i few = by_long at n owed i _ refl refl refl (omega arith) few
  added at n owed (right.Number w) bytes i few = pair at n (right.Number w) _ refl refl refl (omega arith) few
  added at n owed (right.Local j) bytes i few = pair at n (right.Local j) _ refl refl refl (omega arith) few

  pub combined : (at n owed : ℕ) (o : Binop) (s t : TyTree) (d : Direct) → n + 1 + right_takes (right_of o s t d) ≤ most → Stacks p most O at (n + 1 + right_takes (right_of o s t d)) (n + 1) (combine_code p owed (right_of o s t d) o s t)
  combined at n owed o (IntTy i) (IntTy j) d few = pair at n (right_by d) _ refl refl refl (omega arith) few
  combined at n owed Add (PtrTy s) (IntTy i) d few = added at n owed (right_by (as_long i d)) _ i few
  combined at n owed Sub (PtrTy s) (IntTy i) d few = by_long at n owed i _ refl refl refl (omega arith) few
  combined at n owed o (PtrTy s) (IntTy i) d few = pieces.plain p most O at _ (n + 1) _ refl refl (omega arith) (omega arith) few
  combined at n owed Sub (PtrTy s) (PtrTy t) d few = pair at n right.Pending _ refl refl refl (omega arith) few
  combined at n owed o (PtrTy s) (PtrTy t) d few = pair at n (right_by d) _ refl refl refl (omega arith) few
  combined at n owed o (IntTy i) (PtrTy t) d few = pair at n right.Pending _ refl refl refl (omega arith) few
  combined at n owed o s t d few = pieces.plain p most O at _ (n + 1) _ refl refl (omega arith) (omega arith) few

  -- ---- conditions

  pub tested : (at cost n : ℕ) (sense : Bool) (to : ℕ) → n + 1 ≤ most → Goes O to n → Stacks p most O at (n + 1) n (test_code at cost sense to)
  tested at cost n false to few goes = pieces.branch p most O at (n + 1) n to _ refl refl (omega arith) (omega arith) few goes
  tested at cost n true to few goes =
      pieces.closed p most O O2 at (n + 1) n (test_code at cost true to)
      (pieces.both p most O2 at (n + 1) n n 1 (costing cost (op.JumpZero (at + 2)) ∷ []) (free (op.Jump to) ∷ []) refl
      (pieces.branch p most O2 at (n + 1) n (at + 2) _ refl refl (omega arith) (omega arith) few (λ all steps o. o.1))
      (pieces.jump p most O2 (at + 1) n to 0 (omega arith) (λ all steps o. goes all steps o.0)))
      (λ all steps c h e o. (o, e))
    where
      O2 : List ℕ → List Step → Type 0
      O2 = λ all steps. O all steps × (slice_get all (at + 2) ≡ Some n)

  -- 1, or 0 for those who come to the last step
  pub truth_fits : (at n : ℕ) → n + 1 ≤ most → ((all : List ℕ) (steps : List Step) → O all steps → IsLed steps (at + 1 + 1)) → (all : List ℕ) (steps : List Step) → Stands steps at (truth_code at) → Stands all at (n ∷ (n + 1) ∷ n ∷ []) → slice_get all (at + 3) ≡ Some (n + 1) → O all steps → AreRight p most all steps at (truth_code at)
  truth_fits at n few led all steps c h e o =
      let z : at + 3 ≡ at + 1 + 1 + 1 = omega arith in (
        pieces.plain_right p most O (op.Number 1) n (n + 1) refl refl (omega arith) (omega arith) (omega arith) all steps at h.0 h.1.0,
        (
          record {
            count = n + 1;
            here = h.1.0;
            few = few;
            there = omega arith;
            on = λ i. absurd (cc);
            to = λ i j. let same : at + 3 ≡ i = some_same (at + 3) i j in subst (λ k. slice_get all k ≡ Some (n + 1 - 0 + 0)) same (e ∙ ap Some (omega arith));
            last = λ r. absurd (cc);
            next = λ i j. inr (led all steps o);
          },
          (
            pieces.plain_right p most O (op.Number 0) n (n + 1) refl refl (omega arith) (omega arith) (omega arith) all steps (at + 1 + 1) h.1.1.0 (subst (λ k. slice_get all k ≡ Some (n + 1)) z e),
            tt,
          ),
        ),
      )

  abbrev pub truth : (at n : ℕ) → n + 1 ≤ most → ((all : List ℕ) (steps : List Step) → O all steps → IsLed steps (at + 1 + 1)) → Stacks p most O at n (n + 1) (truth_code at)
  truth at n few led = record {
    heights = n ∷ (n + 1) ∷ n ∷ [];
    size = refl;
    starts = λ all h e. h.0;
    fits = truth_fits at n few led;
  }

  -- ---- calls, devices, assignments and the end of a function

  pub called : (at s n : ℕ) (cost : ℕ) (way : Way) (f : ℕ) → s ≡ n + (function_at p f).params → s ≤ most → Stacks p most O at s (n + 1) (costing cost (call_op way f) ∷ [])
  called at s n cost ByGate f e few = pieces.plain p most O at s (n + 1) _ refl refl (omega arith) (omega arith) few
  called at s n cost way f e few = pieces.plain p most O at s (n + 1) _ refl refl (omega arith) (omega arith) few

  pub told : (at n cost d r : ℕ) → n + 1 ≤ most → Stacks p most O at (n + 1) (n + 1) (costing cost (tell_op d r) ∷ [])
  told at n cost zero zero few = change at n _ refl refl refl (omega arith) few
  told at n cost zero (suc r) few = change at n _ refl refl refl (omega arith) few
  told at n cost (suc d) r few = change at n _ refl refl refl (omega arith) few

  pub asked : (at n cost d r : ℕ) → n + 1 ≤ most → Stacks p most O at n (n + 1) (costing cost (ask_op d r) ∷ [])
  asked at n cost zero zero few = pieces.plain p most O at n (n + 1) _ refl refl (omega arith) (omega arith) (omega arith)
  asked at n cost zero (suc r) few = pieces.plain p most O at n (n + 1) _ refl refl (omega arith) (omega arith) (omega arith)
  asked at n cost (suc d) r few = pieces.plain p most O at n (n + 1) _ refl refl (omega arith) (omega arith) (omega arith)

  pub assigned : (at cost : ℕ) (ty : TyTree) → 2 ≤ most → Stacks p most O at 2 0 (costing cost (assign_op p ty) ∷ [])
  assigned at cost (IntTy i) few = pieces.plain p most O at 2 0 _ refl refl (omega arith) (omega arith) few
  assigned at cost (PtrTy t) few = pieces.plain p most O at 2 0 _ refl refl (omega arith) (omega arith) few
  assigned at cost ty few = pieces.plain p most O at 2 0 _ refl refl (omega arith) (omega arith) few

  -- a return that names no value
  numbered : (at : ℕ) → 1 ≤ most → Stacks p most O at 0 0 (free (op.Number 0) ∷ costing 1 op.Return ∷ [])
  numbered at few =
      pieces.both p most O at 0 1 0 1 (free (op.Number 0) ∷ []) (costing 1 op.Return ∷ []) refl
      (pieces.plain p most O at 0 1 _ refl refl (omega arith) (omega arith) (omega arith))
      (pieces.returns p most O (at + 1) 1 1 (omega arith) few)

  pub fallen : (at : ℕ) (gives : TyTree) → 1 ≤ most → Stacks p most O at 0 0 (fall_code gives)
  fallen at (IntTy i) few = numbered at few
  fallen at (PtrTy t) few = numbered at few
  fallen at gives few = pieces.returns p most O at 0 1 (omega arith) (omega arith)
