-- Lvalues, values and conversions (C11 6.3, 6.5.1, 6.5.16).
use Rattle.std.specs.Prelude.{◌≡◌, ◌≢◌, ℕ, zero}
use Rattle.fx_c_ast.specs.declared.operator.IntType.{IntType}
use Rattle.fx_c_ast.specs.declared.operator.IntType.TheVariants.{Int}
use Rattle.fx_c_ast.specs.declared.operator.Unop.TheVariants.{Deref}
use Rattle.fx_c_ast.specs.CheckedTrees.{TyTree, VoidTy, IntTy, StructTy, PtrTy, ArrayTy, TExprTree, ENumber, ELiteral, EGlobal, ELocal, EUn, EConvert, EIndex, EMember, EArrow}
use Rattle.fx_c_types_rules.specs.Values.{type_of}
use Rattle.fx_c_types_rules_law.specs.Types.{IsNoArray}

-- an expression that designates an object (6.3.2.1, 1): a string (6.5.1, 4), a variable (6.5.1, 2), *e (6.5.3.2, 4),
-- e[i] (6.5.2.1, 2), e->m (6.5.2.3, 4), and e.m where e does (6.5.2.3, 3)
pub data IsLvalue : TExprTree → Type 0 where
  string_lvalue : {ty : TyTree} {n : ℕ} → IsLvalue (ELiteral ty n)
  global_lvalue : {ty : TyTree} {n : ℕ} → IsLvalue (EGlobal ty n)
  local_lvalue : {ty : TyTree} {n : ℕ} → IsLvalue (ELocal ty n)
  target_lvalue : {ty : TyTree} {e : TExprTree} → IsLvalue (EUn ty Deref e)
  element_lvalue : {ty : TyTree} {a b : TExprTree} → IsLvalue (EIndex ty a b)
  member_lvalue : {ty : TyTree} {e : TExprTree} {n : ℕ} → IsLvalue e → IsLvalue (EMember ty e n)
  arrow_lvalue : {ty : TyTree} {e : TExprTree} {n : ℕ} → IsLvalue (EArrow ty e n)

-- an expression and its value: an array becomes a pointer to its first element (6.3.2.1, 3)
pub data HasValue : TExprTree → TExprTree → Type 0 where
  array_value : {e : TExprTree} {t : TyTree} {count : ℕ} → type_of e ≡ ArrayTy t count → HasValue e (EConvert (PtrTy t) e)
  own_value : {e : TExprTree} → IsNoArray (type_of e) → HasValue e e

-- a value as one of a type: a conversion is written where it has another (6.3)
pub data Converts : TyTree → TExprTree → TExprTree → Type 0 where
  unconverted : {t : TyTree} {e : TExprTree} → type_of e ≡ t → Converts t e e
  converted_to : {t : TyTree} {e : TExprTree} → type_of e ≢ t → Converts t e (EConvert t e)

-- a null pointer constant: the number 0 (6.3.2.3, 3, of which the profile has this form alone)
pub data IsNull : TExprTree → Type 0 where
  zero_is_null : {ty : TyTree} → IsNull (ENumber ty zero)

-- pointer types of which one converts to the other without a cast, and the type that two such operands are compared
-- in: the same type, or that to void (6.3.2.3, 1; 6.5.9, 5)
pub data HaveCommonPointer : TyTree → TyTree → TyTree → Type 0 where
  same_pointers : {t : TyTree} → HaveCommonPointer (PtrTy t) (PtrTy t) (PtrTy t)
  with_void : {t : TyTree} → HaveCommonPointer (PtrTy t) (PtrTy VoidTy) (PtrTy VoidTy)
  from_void : {t : TyTree} → HaveCommonPointer (PtrTy VoidTy) (PtrTy t) (PtrTy VoidTy)

-- a value that may be assigned to an object of a type (6.5.16.1, 1)
pub data IsAssignable : TyTree → TExprTree → Type 0 where
  assigns_integer : {i j : IntType} {e : TExprTree} → type_of e ≡ IntTy j → IsAssignable (IntTy i) e
  assigns_pointer : {t u v : TyTree} {e : TExprTree} → type_of e ≡ PtrTy u → HaveCommonPointer (PtrTy t) (PtrTy u) v → IsAssignable (PtrTy t) e
  assigns_null : {t : TyTree} {j : IntType} {e : TExprTree} → type_of e ≡ IntTy j → IsNull e → IsAssignable (PtrTy t) e
  assigns_struct : {n : ℕ} {e : TExprTree} → type_of e ≡ StructTy n → IsAssignable (StructTy n) e

-- the value that is assigned to an object, which is no array (6.5.16, 2; 6.5.16.1, 2)
pub data IsAssigned : TExprTree → TExprTree → TExprTree → Type 0 where
  assigned_value : {to e v : TExprTree} → IsLvalue to → IsNoArray (type_of to) → IsAssignable (type_of to) e → Converts (type_of to) e v → IsAssigned to e v

-- a value that is compared with 0: a scalar, of which a pointer is made an int (6.5.3.3, 5; 6.5.13, 3; 6.8.4.1; 6.8.5;
-- that the conversion is written is this project's own)
pub data IsTested : TExprTree → TExprTree → Type 0 where
  tested_integer : {e : TExprTree} {i : IntType} → type_of e ≡ IntTy i → IsTested e e
  tested_pointer : {e : TExprTree} {t : TyTree} → type_of e ≡ PtrTy t → IsTested e (EConvert (IntTy Int) e)
