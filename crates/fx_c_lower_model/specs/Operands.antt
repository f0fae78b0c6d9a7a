-- Ops that combine two operands.
use Rattle.std.specs.Prelude.{ℕ, ◌+◌, Bool, true, false, List, [], ◌∷◌, ◌++◌}
use Rattle.fx_c_ast.specs.declared.operator.IntType.{IntType}
use Rattle.fx_c_ast.specs.declared.operator.Binop.{Binop}
use Rattle.fx_c_ast.specs.declared.operator.Binop.TheVariants.{Add, Sub}
use Rattle.fx_c_ast.specs.CheckedTrees.{TyTree, IntTy, PtrTy}
use Rattle.fx_c_mean_model.specs.Programs.{Program, size_in}
use Rattle.fx_c_lin.specs.declared.op.Right.{Right}
use Rattle.fx_c_lin.specs.declared.op.Right.TheVariants as right
use Rattle.fx_c_lin.specs.Ops.{Op, Step}
use Rattle.fx_c_lin.specs.Ops as op
use Rattle.fx_c_lower_model.specs.Steps.{costing, free, widening, widening_len, widening_late}

-- behind the left operand: an integer below a pointer is a long
abbrev pub left_code : Binop → ℕ → TyTree → TyTree → List Step
left_code Add owed (IntTy i) (PtrTy t) = widening owed i
left_code o owed s t = []

abbrev pub left_len : Binop → TyTree → TyTree → ℕ
left_len Add (IntTy i) (PtrTy t) = widening_len i
left_len o s t = 0

abbrev pub left_late : Binop → ℕ → TyTree → TyTree → ℕ
left_late Add owed (IntTy i) (PtrTy t) = widening_late owed i
left_late o owed s t = owed

-- a pointer moved by elements of a size
abbrev pub move_code : ℕ → Right → Binop → ℕ → IntType → List Step
move_code owed right.Pending Add bytes i =
    widening owed i ++ costing (1 + widening_late owed i) (op.Index bytes right.Pending) ∷ []
move_code owed r Add bytes i = costing (1 + owed) (op.Index bytes r) ∷ []
move_code owed r Sub bytes i =
    widening owed i ++ costing (1 + widening_late owed i) (op.Back bytes) ∷ []
move_code owed r o bytes i = costing (1 + owed) op.Drop ∷ []

abbrev pub move_len : Right → Binop → IntType → ℕ
move_len right.Pending Add i = widening_len i + 1
move_len r Add i = 1
move_len r Sub i = widening_len i + 1
move_len r o i = 1

abbrev pub pointers_code : ℕ → Right → Binop → ℕ → List Step
pointers_code owed r Sub bytes = costing (1 + owed) (op.Difference bytes) ∷ []
pointers_code owed r o bytes = costing (1 + owed) (op.PtrCompare o r) ∷ []

-- no checked program combines operands of other types
abbrev pub combine_code : Program → ℕ → Right → Binop → TyTree → TyTree → List Step
combine_code p owed r o (IntTy i) (IntTy j) = costing (1 + owed) (op.Binary o i r) ∷ []
combine_code p owed r o (PtrTy t) (IntTy i) = move_code owed r o (size_in p t) i
combine_code p owed r o (IntTy i) (PtrTy t) = costing (1 + owed) (op.IndexLeft (size_in p t)) ∷ []
combine_code p owed r o (PtrTy s) (PtrTy t) = pointers_code owed r o (size_in p s)
combine_code p owed r o s t = costing (1 + owed) op.Drop ∷ []

abbrev pub combine_len : Right → Binop → TyTree → TyTree → ℕ
combine_len r o (PtrTy t) (IntTy i) = move_len r o i
combine_len r o s t = 1

-- 1, or 0 for those who come to its last step
abbrev pub truth_code : ℕ → List Step
truth_code at = free (op.Number 1) ∷ free (op.Jump (at + 3)) ∷ free (op.Number 0) ∷ []

-- goes to a place where a word's truth is this
abbrev pub test_code : (at cost : ℕ) → Bool → ℕ → List Step
test_code at cost false to = costing cost (op.JumpZero to) ∷ []
test_code at cost true to = costing cost (op.JumpZero (at + 2)) ∷ free (op.Jump to) ∷ []

abbrev pub test_len : Bool → ℕ
test_len false = 1
test_len true = 2
