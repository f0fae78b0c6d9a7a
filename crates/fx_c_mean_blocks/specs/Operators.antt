-- What operators and conversions give at values, by the types of their operands.
use Rattle.std.specs.Prelude.{ℕ, ◌-◌, Bool, true, false, not, ◌&&◌, nat_eq, nat_lt, nat_le, int_div, ℤ, pos, ◌-ℤ◌, ◌*ℤ◌, neg_ℤ, List, Option, Some, None, Result, Ok, Err, if◌then◌else◌}
use Rattle.fx_c_ast.specs.declared.operator.IntType.{IntType}
use Rattle.fx_c_ast.specs.declared.operator.Unop.{Unop}
use Rattle.fx_c_ast.specs.declared.operator.Unop.TheVariants.{Neg, Not, Lnot, Deref, Addr}
use Rattle.fx_c_ast.specs.declared.operator.Binop.{Binop}
use Rattle.fx_c_ast.specs.declared.operator.Binop.TheVariants.{Add, Sub, Lt, Gt, Le, Ge, Eq, Ne}
use Rattle.fx_c_ast.specs.CheckedTrees.{TyTree, IntTy, PtrTy, ArrayTy}
use Rattle.fx_c_ast.specs.Layout.{layout_of}
use Rattle.fx_c_mean_blocks.specs.declared.value.Value.{Value}
use Rattle.fx_c_mean_blocks.specs.declared.value.Value.TheVariants.{Number, Null, Address}
use Rattle.fx_c_mean_blocks.specs.declared.fault.Fault.{Fault}
use Rattle.fx_c_mean_blocks.specs.declared.fault.Fault.TheVariants.{Undefined}
use Rattle.fx_c_mean_blocks.specs.Integers.{width_of, wrapped, number, word, converted, truth, integer_result}
use Rattle.fx_x64_forms.specs.declared.operand.Width.TheVariants.{W64}
use Rattle.fx_word_ops.specs.Words.{size}
use Rattle.fx_c_mean_blocks.specs.declared.block.Object.{Object}
use Rattle.fx_c_mean_blocks.specs.Blocks.{same_pointer, moved, is_comparable}

abbrev pub counted : Result ℕ Fault → Result Value Fault
counted (Ok w) = Ok (Number w)
counted (Err e) = Err e

-- ---- one operand

-- negation, complement and `!` (6.5.3.3); `*` and `&` change no value (6.5.3.2)
abbrev pub unary_result : Unop → TyTree → Value → Result Value Fault
unary_result Neg (IntTy i) (Number w) = counted (integer_result Sub i 0 w)
unary_result Not (IntTy i) (Number w) = Ok (Number (size (width_of i) - 1 - wrapped i w))
unary_result Lnot (IntTy i) (Number w) = Ok (Number (truth (nat_eq w 0)))
unary_result Deref t v = Ok v
unary_result Addr t v = Ok v
unary_result _ _ _ = Err Undefined

-- the number token 0 is the null pointer (6.3.2.3)
abbrev pub null_token : ℕ → Result Value Fault
null_token w = if nat_eq w 0 then Ok Null else Err Undefined

-- a pointer as a condition: whether it isn't null (6.8.4.1, 6.5.3.3)
abbrev pub is_not_null : Value → Bool
is_not_null (Address p) = true
is_not_null _ = false

-- conversion of a value from a type to another one (6.3); an array becomes the pointer to its first
-- element, which is where it stands (6.3.2.1)
abbrev pub conversion : List Object → TyTree → TyTree → Value → Result Value Fault
conversion memory (IntTy i) (IntTy j) (Number w) = Ok (Number (converted i j w))
conversion memory (IntTy i) (PtrTy t) (Number w) = null_token w
conversion memory (PtrTy s) (PtrTy t) v = Ok v
conversion memory (ArrayTy s n) (PtrTy t) v = Ok v
conversion memory (PtrTy s) (IntTy j) v = if is_comparable memory v then Ok (Number (truth (is_not_null v))) else Err Undefined
conversion memory _ _ _ = Err Undefined

-- ---- two operands

-- the bytes of n elements of a size
abbrev pub elements : ℕ → ℤ → ℤ
elements bytes n = n *ℤ pos bytes

-- the difference of two pointers into one object, in elements of a size, truncated (6.5.6)
abbrev pub difference : ℕ → Value → Value → Result Value Fault
difference bytes (Address p) (Address q) =
    if nat_eq p.object q.object then Ok (Number (word W64 (int_div (pos p.offset -ℤ pos q.offset) (pos bytes)))) else Err Undefined
difference bytes _ _ = Err Undefined

abbrev pub both_comparable : List Object → Value → Value → Bool → Result Value Fault
both_comparable memory v w answer = if is_comparable memory v && is_comparable memory w then Ok (Number (truth answer)) else Err Undefined

abbrev pub same_place : Value → Value → Bool
same_place Null Null = true
same_place (Address p) (Address q) = same_pointer p q
same_place _ _ = false

-- the offsets of two pointers into one object; two null pointers count as one place
abbrev pub offsets_of : Value → Value → Option (ℕ × ℕ)
offsets_of Null Null = Some (0, 0)
offsets_of (Address p) (Address q) = if nat_eq p.object q.object then Some (p.offset, q.offset) else None
offsets_of _ _ = None

abbrev pub order_of : Binop → ℕ → ℕ → Bool
order_of Lt a b = nat_lt a b
order_of Gt a b = nat_lt b a
order_of Le a b = nat_le a b
order_of Ge a b = nat_le b a
order_of _ a b = false

-- the order of two pointers into one object, or of two null pointers (6.5.8)
abbrev pub in_order : Binop → Option (ℕ × ℕ) → Result Value Fault
in_order op (Some (a, b)) = Ok (Number (truth (order_of op a b)))
in_order op None = Err Undefined

-- difference, equality (6.5.9) and order of pointers to elements of a size
abbrev pub pointer_result : List Object → Binop → ℕ → Value → Value → Result Value Fault
pointer_result memory Sub bytes v w = difference bytes v w
pointer_result memory Eq bytes v w = both_comparable memory v w (same_place v w)
pointer_result memory Ne bytes v w = both_comparable memory v w (not (same_place v w))
pointer_result memory Lt bytes v w = in_order Lt (offsets_of v w)
pointer_result memory Gt bytes v w = in_order Gt (offsets_of v w)
pointer_result memory Le bytes v w = in_order Le (offsets_of v w)
pointer_result memory Ge bytes v w = in_order Ge (offsets_of v w)
pointer_result memory _ bytes v w = Err Undefined

-- a pointer and an integer (6.5.6): the integer counts elements
abbrev pub pointer_moved : List Object → Binop → ℕ → IntType → Value → Value → Result Value Fault
pointer_moved memory Add bytes i v (Number w) = moved memory v (elements bytes (number i w))
pointer_moved memory Sub bytes i v (Number w) = moved memory v (neg_ℤ (elements bytes (number i w)))
pointer_moved memory _ bytes i v _ = Err Undefined

-- an integer and a pointer
abbrev pub moved_by : List Object → Binop → ℕ → IntType → Value → Value → Result Value Fault
moved_by memory Add bytes i w v = pointer_moved memory Add bytes i v w
moved_by memory _ bytes i w v = Err Undefined

abbrev pub integers : Binop → IntType → Value → Value → Result Value Fault
integers op i (Number a) (Number b) = counted (integer_result op i a b)
integers op i _ _ = Err Undefined

-- the size of a type
abbrev pub bytes_in : List (List TyTree) → TyTree → ℕ
bytes_in structs t = (layout_of structs t).size

-- a binary operator at values of two types; integers have been converted to one type, shifts aside
abbrev pub binary_result : List (List TyTree) → List Object → Binop → TyTree → TyTree → Value → Value → Result Value Fault
binary_result structs memory op (IntTy i) (IntTy j) v w = integers op i v w
binary_result structs memory op (PtrTy t) (IntTy i) v w = pointer_moved memory op (bytes_in structs t) i v w
binary_result structs memory op (IntTy i) (PtrTy t) v w = moved_by memory op (bytes_in structs t) i v w
binary_result structs memory op (PtrTy s) (PtrTy t) v w = pointer_result memory op (bytes_in structs s) v w
binary_result structs memory op _ _ v w = Err Undefined
