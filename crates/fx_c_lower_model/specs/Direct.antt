-- Operands that one op brings by itself: numbers with their conversions, and whole local variables.
use Rattle.std.specs.Prelude.{ℕ, ◌+◌, ◌/◌, ◌%◌, Bool, true, false, ◌||◌, nat_eq, Option, Some, None}
use Rattle.fx_c_ast.specs.declared.operator.IntType.{IntType}
use Rattle.fx_c_ast.specs.declared.operator.IntType.TheVariants.{Long}
use Rattle.fx_c_ast.specs.declared.operator.Binop.{Binop}
use Rattle.fx_c_ast.specs.declared.operator.Binop.TheVariants.{Add, Sub}
use Rattle.fx_c_ast.specs.CheckedTrees.{TyTree, IntTy, PtrTy, TExprTree, ENumber, ELocal, ECast}
use Rattle.fx_c_ast.specs.CheckedTrees.{EConvert, ESize}
use Rattle.fx_c_mean_blocks.specs.Integers.{converted}
use Rattle.fx_c_mean_model.specs.Programs.{Program, size_in}
use Rattle.fx_c_mean_model.specs.States.{type_of, is_scalar, same_type}
use Rattle.fx_c_lin.specs.declared.op.Right.{Right}
use Rattle.fx_c_lin.specs.declared.op.Right.TheVariants as right
use Rattle.fx_c_lower_model.specs.Steps.{chosen}

-- a word with the cost of the steps that make it; a variable of integer or pointer type; any other expression
pub data Direct : Type 0 where
  Constant : (word cost : ℕ) → Direct
  Whole : (n : ℕ) → Direct
  Other : Direct

-- the null pointer is the word 0, as the number that it is made of
abbrev pub converted_direct : TyTree → TyTree → Direct → Direct
converted_direct (IntTy i) (IntTy j) (Constant w cost) = Constant (converted i j w) (cost + 1)
converted_direct (IntTy i) (PtrTy t) (Constant w cost) = Constant w (cost + 1)
converted_direct (PtrTy s) (PtrTy t) (Constant w cost) = Constant w (cost + 1)
converted_direct from to d = Other

abbrev pub cast_direct : TyTree → TyTree → Direct → Direct
cast_direct from to d = chosen (same_type from to) d (converted_direct from to d)

abbrev pub direct : Program → TExprTree → Direct
direct p (ENumber ty w) = Constant w 1
direct p (ESize ty t) = Constant (size_in p t) 1
direct p (ELocal ty n) = chosen (is_scalar ty) (Whole n) Other
direct p (ECast ty e) = cast_direct (type_of e) ty (direct p e)
direct p (EConvert ty e) = cast_direct (type_of e) ty (direct p e)
direct p e = Other

-- the variable of integer or pointer type that an expression is
abbrev pub whole_local : TExprTree → Option ℕ
whole_local (ELocal ty n) = chosen (is_scalar ty) (Some n) None
whole_local e = None

-- ---- right operands

-- whether three bytes of a word from a place on are 0F 01 EF, which would be a WRPKRU in the instruction
abbrev pub key_at : ℕ → ℕ → Bool
key_at w unit = nat_eq (w / unit % 16777216) 15663375

abbrev pub holds_key : ℕ → Bool
holds_key w =
    key_at w 1
    || (key_at w 256
    || (key_at w 65536
    || (key_at w 16777216 || (key_at w 4294967296 || key_at w 1099511627776))))

abbrev pub right_by : Direct → Right
right_by (Constant w cost) = chosen (holds_key w) right.Pending (right.Number w)
right_by (Whole n) = right.Local n
right_by Other = right.Pending

-- a number of elements is a long
abbrev pub as_long : IntType → Direct → Direct
as_long i (Constant w cost) = Constant (converted i Long w) cost
as_long i d = d

-- the right operand of an op; a pointer that is moved back, and a difference of pointers, take theirs from the stack,
-- and so does an integer below a pointer
abbrev pub right_of : Binop → TyTree → TyTree → Direct → Right
right_of o (IntTy i) (IntTy j) d = right_by d
right_of Add (PtrTy t) (IntTy i) d = right_by (as_long i d)
right_of Sub (PtrTy s) (PtrTy t) d = right.Pending
right_of o (PtrTy s) (PtrTy t) d = right_by d
right_of o s t d = right.Pending

-- what the steps of a right operand cost that has no op of its own
abbrev pub direct_cost : Direct → ℕ
direct_cost (Constant w cost) = cost
direct_cost (Whole n) = 2
direct_cost Other = 0

-- what is owed before an op: behind a pending right operand, or behind the left one and for the right one
abbrev pub right_owed : Right → Direct → (left after : ℕ) → ℕ
right_owed right.Pending d left after = after
right_owed r d left after = left + direct_cost d

abbrev pub right_len : Right → ℕ → ℕ
right_len right.Pending len = len
right_len r len = 0
