-- Steps, and what is done for types alone.
use Rattle.std.specs.Prelude.{ℕ, zero, ◌+◌, Bool, true, false, ◌&&◌, List, [], ◌∷◌}
use Rattle.fx_c_ast.specs.declared.operator.IntType.{IntType}
use Rattle.fx_c_ast.specs.declared.operator.IntType.TheVariants.{Int, Long, Ulong}
use Rattle.fx_c_ast.specs.declared.operator.Unop.{Unop}
use Rattle.fx_c_ast.specs.declared.operator.Unop.TheVariants.{Deref, Addr}
use Rattle.fx_c_ast.specs.declared.operator.Binop.{Binop}
use Rattle.fx_c_ast.specs.declared.operator.Binop.TheVariants.{Lt, Gt, Le, Ge, Eq, Ne, Land, Lor}
use Rattle.fx_c_ast.specs.CheckedTrees.{TyTree, IntTy, StructTy, PtrTy, TExprTree}
use Rattle.fx_c_mean_model.specs.Programs.{Program, function_at, size_in, offset_of}
use Rattle.fx_c_mean_model.specs.States.{type_of, is_lvalue, is_scalar, same_type}
use Rattle.fx_c_lin.specs.declared.op.Right.{Right}
use Rattle.fx_c_lin.specs.declared.op.Right.TheVariants as right
use Rattle.fx_c_lin.specs.declared.op.Compared.{Compared}
use Rattle.fx_c_lin.specs.declared.op.Compared.TheVariants.{Integers, Pointers}
use Rattle.fx_c_lin.specs.Ops.{Op, Step}
use Rattle.fx_c_lin.specs.Ops as op

abbrev pub costing : ℕ → Op → Step
costing n o = record { op = o; cost = n }

-- an op that is done together with the step before it
abbrev pub free : Op → Step
free o = costing 0 o

abbrev pub chosen : {A : Type 0} → Bool → A → A → A
chosen true one other = one
chosen false one other = other

-- ---- loads

-- an lvalue of integer or pointer type, whose value is loaded where it is wanted
abbrev pub is_loaded : TExprTree → Bool
is_loaded e = is_lvalue e && is_scalar (type_of e)

abbrev pub load_code : Bool → ℕ → TyTree → List Step
load_code true owed ty = costing (1 + owed) (op.Load ty) ∷ []
load_code false owed ty = []

abbrev pub load_len : Bool → ℕ
load_len true = 1
load_len false = 0

-- what is owed behind the load
abbrev pub load_late : Bool → ℕ → ℕ
load_late true owed = 0
load_late false owed = owed

-- ---- operators of one operand, and conversions

abbrev pub integer_in : TyTree → IntType
integer_in (IntTy i) = i
integer_in _ = Int

-- `*` and `&` have no op
abbrev pub unary_code : Unop → ℕ → TyTree → List Step
unary_code Deref owed ty = []
unary_code Addr owed ty = []
unary_code o owed ty = costing (1 + owed) (op.Unary o (integer_in ty)) ∷ []

abbrev pub unary_len : Unop → ℕ
unary_len Deref = 0
unary_len Addr = 0
unary_len o = 1

abbrev pub unary_late : Unop → ℕ → ℕ
unary_late Deref owed = owed + 1
unary_late Addr owed = owed + 1
unary_late o owed = 0

-- the operand of `&` is not loaded
abbrev pub takes_value : Unop → Bool
takes_value Addr = false
takes_value o = true

-- a conversion between pointers, of an array to a pointer or of the number 0 to a pointer has no op; a pointer as a
-- condition is compared with null
abbrev pub convert_code : ℕ → TyTree → TyTree → List Step
convert_code owed (IntTy i) (IntTy j) = costing (1 + owed) (op.Convert i j) ∷ []
convert_code owed (PtrTy s) (IntTy j) = costing (1 + owed) (op.PtrCompare Ne (right.Number 0)) ∷ []
convert_code owed from to = []

abbrev pub convert_len : TyTree → TyTree → ℕ
convert_len (IntTy i) (IntTy j) = 1
convert_len (PtrTy s) (IntTy j) = 1
convert_len from to = 0

abbrev pub convert_late : ℕ → TyTree → TyTree → ℕ
convert_late owed (IntTy i) (IntTy j) = 0
convert_late owed (PtrTy s) (IntTy j) = 0
convert_late owed from to = owed + 1

-- a conversion to the same type is none
abbrev pub cast_code : ℕ → TyTree → TyTree → List Step
cast_code owed from to = chosen (same_type from to) [] (convert_code owed from to)

abbrev pub cast_len : TyTree → TyTree → ℕ
cast_len from to = chosen (same_type from to) 0 (convert_len from to)

abbrev pub cast_late : ℕ → TyTree → TyTree → ℕ
cast_late owed from to = chosen (same_type from to) owed (convert_late owed from to)

-- an integer as a long, by which a pointer is moved
abbrev pub widening : ℕ → IntType → List Step
widening owed Long = []
widening owed Ulong = []
widening owed i = costing owed (op.Convert i Long) ∷ []

abbrev pub widening_len : IntType → ℕ
widening_len Long = 0
widening_len Ulong = 0
widening_len i = 1

abbrev pub widening_late : ℕ → IntType → ℕ
widening_late owed Long = owed
widening_late owed Ulong = owed
widening_late owed i = 0

-- ---- members, assignments and the end of a function

abbrev pub member_offset : Program → TyTree → ℕ → ℕ
member_offset p (StructTy n) member = offset_of p n member
member_offset p _ member = 0

-- a struct is copied
abbrev pub assign_op : Program → TyTree → Op
assign_op p (IntTy i) = op.Store (IntTy i)
assign_op p (PtrTy t) = op.Store (PtrTy t)
assign_op p t = op.Copy (size_in p t)

-- a return that names no value
abbrev pub fall_code : TyTree → List Step
fall_code (IntTy i) = free (op.Number 0) ∷ costing 1 op.Return ∷ []
fall_code (PtrTy t) = free (op.Number 0) ∷ costing 1 op.Return ∷ []
fall_code _ = costing 1 op.Return ∷ []

abbrev pub fall_len : TyTree → ℕ
fall_len (IntTy i) = 2
fall_len (PtrTy t) = 2
fall_len _ = 1

-- ---- devices

abbrev pub tell_op : ℕ → ℕ → Op
tell_op zero zero = op.Putc
tell_op device register = op.DevStore device register

abbrev pub ask_op : ℕ → ℕ → Op
ask_op zero zero = op.Getc
ask_op device register = op.DevLoad device register

-- ---- operators of two operands

abbrev pub is_logical : Binop → Bool
is_logical Land = true
is_logical Lor = true
is_logical o = false

-- the truth of the first operand of `&&` or `||` that is the whole's
abbrev pub stops : Binop → Bool
stops Lor = true
stops o = false

abbrev pub is_comparison : Binop → Bool
is_comparison Lt = true
is_comparison Gt = true
is_comparison Le = true
is_comparison Ge = true
is_comparison Eq = true
is_comparison Ne = true
is_comparison o = false

-- the comparison that is true where this one is false
abbrev pub opposite : Binop → Binop
opposite Lt = Ge
opposite Gt = Le
opposite Le = Gt
opposite Ge = Lt
opposite Eq = Ne
opposite Ne = Eq
opposite o = o

-- `CompareJump` jumps where its comparison is false
abbrev pub jumping : Bool → Binop → Binop
jumping true o = opposite o
jumping false o = o

abbrev pub compared : TyTree → Compared
compared (IntTy i) = Integers i
compared t = Pointers

-- a pointer that is a condition
abbrev pub tests_pointer : TyTree → TyTree → Bool
tests_pointer (PtrTy s) (IntTy j) = true
tests_pointer s t = false
