-- Operators: the tree that each gives for its operands, with the conversions of these (C11 6.5.2 to 6.5.14).
--
-- `declared` counts the structs that are complete there.
use Rattle.std.specs.Prelude.{◌≡◌, ℕ, ◌<◌, List, Some, slice_get}
use Rattle.fx_c_ast.specs.declared.operator.IntType.{IntType}
use Rattle.fx_c_ast.specs.declared.operator.IntType.TheVariants.{Int, Long}
use Rattle.fx_c_ast.specs.declared.operator.Unop.{Unop}
use Rattle.fx_c_ast.specs.declared.operator.Unop.TheVariants.{Neg, Not, Lnot, Deref, Addr}
use Rattle.fx_c_ast.specs.declared.operator.Binop.{Binop}
use Rattle.fx_c_ast.specs.declared.operator.Binop.TheVariants.{Add, Sub, Mul, Div, Rem, Shl, Shr, Lt, Gt, Le, Ge, Eq, Ne, And, Xor, Or, Land, Lor}
use Rattle.fx_c_ast.specs.CheckedTrees.{TyTree, IntTy, StructTy, PtrTy, TExprTree, EUn, EBin, ECast, EConvert, EIndex, EMember, EArrow}
use Rattle.fx_c_types_rules.specs.Types.{promoted, common}
use Rattle.fx_c_types_rules.specs.Values.{type_of}
use Rattle.fx_c_types_rules.specs.Structs.{StructTree, member_at, place_32}
use Rattle.fx_c_types_rules_law.specs.Types.{IsComplete}
use Rattle.fx_c_types_rules_law.specs.Values.{IsLvalue, HasValue, Converts, IsNull, HaveCommonPointer, IsTested}

-- - and ~ promote an integer (6.5.3.3, 3 and 4), ! gives an int (6.5.3.3, 5), * goes through a pointer to a complete
-- type (6.5.3.2, 4), & takes an lvalue, which doesn't decay (6.5.3.2, 3)
pub data UnaryGives : ℕ → Unop → TExprTree → TExprTree → Type 0 where
  negation : {declared : ℕ} {e v w : TExprTree} {i : IntType} → HasValue e v → type_of v ≡ IntTy i → Converts (IntTy (promoted i)) v w → UnaryGives declared Neg e (EUn (IntTy (promoted i)) Neg w)
  complement : {declared : ℕ} {e v w : TExprTree} {i : IntType} → HasValue e v → type_of v ≡ IntTy i → Converts (IntTy (promoted i)) v w → UnaryGives declared Not e (EUn (IntTy (promoted i)) Not w)
  logical_negation : {declared : ℕ} {e v w : TExprTree} → HasValue e v → IsTested v w → UnaryGives declared Lnot e (EUn (IntTy Int) Lnot w)
  indirection : {declared : ℕ} {e v : TExprTree} {t : TyTree} → HasValue e v → type_of v ≡ PtrTy t → IsComplete declared t → UnaryGives declared Deref e (EUn t Deref v)
  address : {declared : ℕ} {e : TExprTree} → IsLvalue e → UnaryGives declared Addr e (EUn (PtrTy (type_of e)) Addr e)

-- *, /, % (6.5.5), + and - (6.5.6), &, ^ and | (6.5.10 to 6.5.12)
pub data IsArithmetic : Binop → Type 0 where
  sum : IsArithmetic Add
  difference : IsArithmetic Sub
  product : IsArithmetic Mul
  quotient : IsArithmetic Div
  remainder : IsArithmetic Rem
  bitwise_and : IsArithmetic And
  exclusive_or : IsArithmetic Xor
  inclusive_or : IsArithmetic Or

-- << and >> (6.5.7)
pub data IsShift : Binop → Type 0 where
  left_shift : IsShift Shl
  right_shift : IsShift Shr

-- relational and equality operators (6.5.8, 6.5.9)
pub data IsComparison : Binop → Type 0 where
  less : IsComparison Lt
  greater : IsComparison Gt
  at_most : IsComparison Le
  at_least : IsComparison Ge
  equal : IsComparison Eq
  unequal : IsComparison Ne

-- && and || (6.5.13, 6.5.14)
pub data IsLogical : Binop → Type 0 where
  logical_and : IsLogical Land
  logical_or : IsLogical Lor

-- two operands, which are values
pub data BinaryGives : ℕ → Binop → TExprTree → TExprTree → TExprTree → Type 0 where
  -- the usual arithmetic conversions (6.3.1.8)
  arithmetic : {declared : ℕ} {op : Binop} {a b v w : TExprTree} {i j : IntType} → IsArithmetic op
      → type_of a ≡ IntTy i → type_of b ≡ IntTy j → Converts (IntTy (common i j)) a v
      → Converts (IntTy (common i j)) b w
      → BinaryGives declared op a b (EBin (IntTy (common i j)) op v w)
  -- each operand is promoted by itself; the left one gives the type (6.5.7, 3)
  shift : {declared : ℕ} {op : Binop} {a b v w : TExprTree} {i j : IntType} → IsShift op
      → type_of a ≡ IntTy i → type_of b ≡ IntTy j → Converts (IntTy (promoted i)) a v
      → Converts (IntTy (promoted j)) b w
      → BinaryGives declared op a b (EBin (IntTy (promoted i)) op v w)
  -- scalars, compared with 0 (6.5.13, 3; 6.5.14, 3)
  logical : {declared : ℕ} {op : Binop} {a b v w : TExprTree} → IsLogical op → IsTested a v → IsTested b w → BinaryGives declared op a b (EBin (IntTy Int) op v w)
  -- a pointer to a complete type and an integer, in either order for + (6.5.6, 2, 3 and 8)
  pointer_plus_integer : {declared : ℕ} {a b : TExprTree} {t : TyTree} {j : IntType}
      → type_of a ≡ PtrTy t → type_of b ≡ IntTy j → IsComplete declared t
      → BinaryGives declared Add a b (EBin (PtrTy t) Add a b)
  integer_plus_pointer : {declared : ℕ} {a b : TExprTree} {i : IntType} {t : TyTree}
      → type_of a ≡ IntTy i → type_of b ≡ PtrTy t → IsComplete declared t
      → BinaryGives declared Add a b (EBin (PtrTy t) Add a b)
  pointer_minus_integer : {declared : ℕ} {a b : TExprTree} {t : TyTree} {j : IntType}
      → type_of a ≡ PtrTy t → type_of b ≡ IntTy j → IsComplete declared t
      → BinaryGives declared Sub a b (EBin (PtrTy t) Sub a b)
  -- two pointers to one complete type; the difference is a long (6.5.6, 3 and 9)
  pointer_minus_pointer : {declared : ℕ} {a b : TExprTree} {t : TyTree} → type_of a ≡ PtrTy t → type_of b ≡ PtrTy t → IsComplete declared t → BinaryGives declared Sub a b (EBin (IntTy Long) Sub a b)
  -- integers in their common type, giving an int (6.5.8, 3 and 6; 6.5.9, 3 and 4)
  integers_compared : {declared : ℕ} {op : Binop} {a b v w : TExprTree} {i j : IntType}
      → IsComparison op → type_of a ≡ IntTy i → type_of b ≡ IntTy j
      → Converts (IntTy (common i j)) a v → Converts (IntTy (common i j)) b w
      → BinaryGives declared op a b (EBin (IntTy Int) op v w)
  -- pointers to one type, or to void (6.5.8, 2; 6.5.9, 2 and 5)
  pointers_compared : {declared : ℕ} {op : Binop} {a b v w : TExprTree} {s t u : TyTree}
      → IsComparison op → type_of a ≡ PtrTy s → type_of b ≡ PtrTy t
      → HaveCommonPointer (PtrTy s) (PtrTy t) u → Converts u a v → Converts u b w
      → BinaryGives declared op a b (EBin (IntTy Int) op v w)
  -- a pointer and a null pointer constant, which becomes one of its type (6.5.9, 5)
  pointer_with_null : {declared : ℕ} {op : Binop} {a b : TExprTree} {t : TyTree} {j : IntType}
      → IsComparison op → type_of a ≡ PtrTy t → type_of b ≡ IntTy j → IsNull b
      → BinaryGives declared op a b (EBin (IntTy Int) op a (EConvert (PtrTy t) b))
  null_with_pointer : {declared : ℕ} {op : Binop} {a b : TExprTree} {i : IntType} {t : TyTree}
      → IsComparison op → type_of a ≡ IntTy i → type_of b ≡ PtrTy t → IsNull a
      → BinaryGives declared op a b (EBin (IntTy Int) op (EConvert (PtrTy t) a) b)

-- a cast of a value to a type: between integers or between pointers (6.5.4, of which the profile has these alone)
pub data CastGives : TyTree → TExprTree → TExprTree → Type 0 where
  integer_cast : {i j : IntType} {e : TExprTree} → type_of e ≡ IntTy j → CastGives (IntTy i) e (ECast (IntTy i) e)
  pointer_cast : {s t : TyTree} {e : TExprTree} → type_of e ≡ PtrTy s → CastGives (PtrTy t) e (ECast (PtrTy t) e)

-- a[b] of the values of a pointer to a complete type and an integer (6.5.2.1)
pub data IndexGives : ℕ → TExprTree → TExprTree → TExprTree → Type 0 where
  element : {declared : ℕ} {a b : TExprTree} {t : TyTree} {j : IntType} → type_of a ≡ PtrTy t → type_of b ≡ IntTy j → IsComplete declared t → IndexGives declared a b (EIndex t a b)

-- a member of a complete struct: its place and its type
pub data IsMember : List StructTree → ℕ → ℕ → List ℕ → ℕ × TyTree → Type 0 where
  member_named : {structs : List StructTree} {declared n : ℕ} {name : List ℕ} {st : StructTree}
      {m : ℕ × TyTree}
      → n < declared → slice_get structs n ≡ Some st → member_at 0 name st.members ≡ Some m
      → IsMember structs declared n name m

-- e.m of a struct, and e->m of the value of a pointer to one (6.5.2.3)
pub data MemberGives : List StructTree → ℕ → List ℕ → TExprTree → TExprTree → Type 0 where
  member_of : {structs : List StructTree} {declared n : ℕ} {name : List ℕ} {e : TExprTree}
      {m : ℕ × TyTree}
      → type_of e ≡ StructTy n → IsMember structs declared n name m
      → MemberGives structs declared name e (EMember m.1 e (place_32 m.0))

pub data ArrowGives : List StructTree → ℕ → List ℕ → TExprTree → TExprTree → Type 0 where
  member_through : {structs : List StructTree} {declared n : ℕ} {name : List ℕ} {e : TExprTree}
      {m : ℕ × TyTree}
      → type_of e ≡ PtrTy (StructTy n) → IsMember structs declared n name m
      → ArrowGives structs declared name e (EArrow m.1 e (place_32 m.0))
