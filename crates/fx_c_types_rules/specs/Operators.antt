-- The operators: each rule gives the checked tree of a node from those of its operands, or refuses it.
-- `declared` counts the structs that are complete there.
use Rattle.std.specs.Prelude.{ℕ, ◌&&◌, Ok, if◌then◌else◌}
use Rattle.fx_c_ast.specs.declared.operator.IntType.TheVariants.{Int, Long, Ulong}
use Rattle.fx_c_ast.specs.declared.operator.Unop.{Unop}
use Rattle.fx_c_ast.specs.declared.operator.Unop.TheVariants.{Neg, Not, Lnot, Deref, Addr}
use Rattle.fx_c_ast.specs.declared.operator.Binop.{Binop}
use Rattle.fx_c_ast.specs.declared.operator.Binop.TheVariants.{Add, Sub, Mul, Div, Rem, Shl, Shr, Lt, Gt, Le, Ge, Eq, Ne, And, Xor, Or, Land, Lor}
use Rattle.fx_c_ast.specs.CheckedTrees.{TyTree, VoidTy, IntTy, StructTy, PtrTy, ArrayTy, TExprTree, EUn, EBin, ECast, EIndex}
use Rattle.fx_c_types_rules.specs.declared.category.Category.{Category}
use Rattle.fx_c_types_rules.specs.declared.category.Category.TheVariants.{Nothing, Integer, Structure, Pointer, Array}
use Rattle.fx_c_types_rules.specs.declared.fault.TypeKind.TheVariants.{NotInteger, NotPointer, NotLvalue, Mismatch}
use Rattle.fx_c_types_rules.specs.Checks.{Checked, ◌>>=◌, refuse, demand}
use Rattle.fx_c_types_rules.specs.Types.{promoted, common, category, pointee, same_type, is_void, is_complete}
use Rattle.fx_c_types_rules.specs.Values.{type_of, is_zero, is_object, converted, value_of, integer_of, condition, pointers_agree}

-- ---- one operand

-- - and ~ of an integer
abbrev pub signed : Unop → TExprTree → Checked TExprTree
signed op e = integer_of e >>= (λ i. Ok (EUn (IntTy (promoted i)) op (converted (IntTy (promoted i)) e)))

-- ! of a scalar
abbrev pub negated : TExprTree → Checked TExprTree
negated e = condition e >>= (λ e. Ok (EUn (IntTy Int) Lnot e))

-- * of a pointer to a complete type
abbrev pub pointed : ℕ → Category → TExprTree → Checked TExprTree
pointed declared Pointer e = demand (is_complete declared (pointee (type_of e))) NotPointer (Ok (EUn (pointee (type_of e)) Deref e))
pointed declared (Integer i) e = refuse NotPointer
pointed declared _ e = refuse NotInteger

abbrev pub dereferenced : ℕ → TExprTree → Checked TExprTree
dereferenced declared e = pointed declared (category (type_of e)) e

-- & of an object
abbrev pub address : TExprTree → Checked TExprTree
address e = demand (is_object e) NotLvalue (Ok (EUn (PtrTy (type_of e)) Addr e))

abbrev pub unary : ℕ → Unop → TExprTree → Checked TExprTree
unary declared Neg e = signed Neg (value_of e)
unary declared Not e = signed Not (value_of e)
unary declared Lnot e = negated (value_of e)
unary declared Deref e = dereferenced declared (value_of e)
unary declared Addr e = address e

-- ---- two operands

-- integers, both converted to their common type
abbrev pub arithmetic : Binop → TExprTree → TExprTree → Checked TExprTree
arithmetic op a b = integer_of a >>= (λ i. integer_of b >>= (λ j.
    Ok (EBin (IntTy (common i j)) op (converted (IntTy (common i j)) a) (converted (IntTy (common i j)) b))))

-- integers, each promoted by itself
abbrev pub shifted : Binop → TExprTree → TExprTree → Checked TExprTree
shifted op a b = integer_of a >>= (λ i. integer_of b >>= (λ j.
    Ok (EBin (IntTy (promoted i)) op (converted (IntTy (promoted i)) a) (converted (IntTy (promoted j)) b))))

-- && and || of scalars
abbrev pub logical : Binop → TExprTree → TExprTree → Checked TExprTree
logical op a b = condition a >>= (λ a. condition b >>= (λ b. Ok (EBin (IntTy Int) op a b)))

-- a pointer moved by an integer; neither operand is converted
abbrev pub moved : ℕ → Binop → TyTree → TExprTree → TExprTree → Checked TExprTree
moved declared op t a b = demand (is_complete declared (pointee t)) NotPointer (Ok (EBin t op a b))

abbrev pub sum_of : ℕ → Category → Category → TExprTree → TExprTree → Checked TExprTree
sum_of declared Pointer (Integer j) a b = moved declared Add (type_of a) a b
sum_of declared (Integer i) Pointer a b = moved declared Add (type_of b) a b
sum_of declared _ _ a b = arithmetic Add a b

abbrev pub sum : ℕ → TExprTree → TExprTree → Checked TExprTree
sum declared a b = sum_of declared (category (type_of a)) (category (type_of b)) a b

-- how many elements lie between two pointers of one type
abbrev pub distance : ℕ → TExprTree → TExprTree → Checked TExprTree
distance declared a b =
    demand (is_complete declared (pointee (type_of a)) && is_complete declared (pointee (type_of b))) NotPointer
    (demand (same_type (type_of a) (type_of b)) Mismatch (Ok (EBin (IntTy Long) Sub a b)))

abbrev pub difference_of : ℕ → Category → Category → TExprTree → TExprTree → Checked TExprTree
difference_of declared Pointer (Integer j) a b = moved declared Sub (type_of a) a b
difference_of declared Pointer Pointer a b = distance declared a b
difference_of declared _ _ a b = arithmetic Sub a b

abbrev pub difference : ℕ → TExprTree → TExprTree → Checked TExprTree
difference declared a b = difference_of declared (category (type_of a)) (category (type_of b)) a b

-- integers in their common type, giving an int
abbrev pub numbers_compared : Binop → TExprTree → TExprTree → Checked TExprTree
numbers_compared op a b = integer_of a >>= (λ i. integer_of b >>= (λ j.
    Ok (EBin (IntTy Int) op (converted (IntTy (common i j)) a) (converted (IntTy (common i j)) b))))

-- both converted to one pointer type
abbrev pub compared_as : Binop → TyTree → TExprTree → TExprTree → TExprTree
compared_as op t a b = EBin (IntTy Int) op (converted t a) (converted t b)

-- of two pointer types, the one to void if there is one (C11 6.5.9)
abbrev pub common_pointer : TyTree → TyTree → TyTree
common_pointer s t = if is_void (pointee t) then t else s

abbrev pub compared_of : Binop → Category → Category → TExprTree → TExprTree → Checked TExprTree
compared_of op Pointer Pointer a b = demand (pointers_agree (type_of a) (type_of b)) Mismatch (Ok (compared_as op (common_pointer (type_of a) (type_of b)) a b))
compared_of op Pointer (Integer j) a b = demand (is_zero b) Mismatch (Ok (compared_as op (type_of a) a b))
compared_of op (Integer i) Pointer a b = demand (is_zero a) Mismatch (Ok (compared_as op (type_of b) a b))
compared_of op _ _ a b = numbers_compared op a b

abbrev pub compared : Binop → TExprTree → TExprTree → Checked TExprTree
compared op a b = compared_of op (category (type_of a)) (category (type_of b)) a b

-- the rule of an operator
abbrev pub binary_values : ℕ → Binop → TExprTree → TExprTree → Checked TExprTree
binary_values declared Add a b = sum declared a b
binary_values declared Sub a b = difference declared a b
binary_values declared Mul a b = arithmetic Mul a b
binary_values declared Div a b = arithmetic Div a b
binary_values declared Rem a b = arithmetic Rem a b
binary_values declared Shl a b = shifted Shl a b
binary_values declared Shr a b = shifted Shr a b
binary_values declared Lt a b = compared Lt a b
binary_values declared Gt a b = compared Gt a b
binary_values declared Le a b = compared Le a b
binary_values declared Ge a b = compared Ge a b
binary_values declared Eq a b = compared Eq a b
binary_values declared Ne a b = compared Ne a b
binary_values declared And a b = arithmetic And a b
binary_values declared Xor a b = arithmetic Xor a b
binary_values declared Or a b = arithmetic Or a b
binary_values declared Land a b = logical Land a b
binary_values declared Lor a b = logical Lor a b

abbrev pub binary : ℕ → Binop → TExprTree → TExprTree → Checked TExprTree
binary declared op a b = binary_values declared op (value_of a) (value_of b)

-- ---- casts and elements

-- between integers, or between pointers
abbrev pub cast_of : Category → Category → TyTree → TExprTree → Checked TExprTree
cast_of (Integer i) (Integer j) t e = Ok (ECast t e)
cast_of Pointer Pointer t e = Ok (ECast t e)
cast_of (Integer i) Pointer t e = refuse NotPointer
cast_of Pointer (Integer j) t e = refuse NotPointer
cast_of _ _ t e = refuse NotInteger

abbrev pub cast : TyTree → TExprTree → Checked TExprTree
cast t e = cast_of (category t) (category (type_of e)) t e

-- a[b] of a pointer to a complete type and an integer
abbrev pub element_of : ℕ → Category → TExprTree → TExprTree → Checked TExprTree
element_of declared Pointer a b = integer_of b >>= (λ j. demand (is_complete declared (pointee (type_of a))) NotPointer (Ok (EIndex (pointee (type_of a)) a b)))
element_of declared (Integer i) a b = integer_of b >>= (λ j. refuse NotPointer)
element_of declared _ a b = refuse NotInteger

abbrev pub element : ℕ → TExprTree → TExprTree → Checked TExprTree
element declared a b = element_of declared (category (type_of a)) a b
