-- Kinds of types, and the types that are written (C11 6.2.5, 6.7).
use Rattle.std.specs.Prelude.{◌≡◌, ℕ, ◌<◌, ◌≤◌, List, Some}
use Rattle.fx_c_ast.specs.declared.operator.IntType.{IntType}
use Rattle.fx_c_ast.specs.ParsedTrees.{TypeTree, VoidType, IntegerType, StructType, PointerType, ArrayType}
use Rattle.fx_c_ast.specs.CheckedTrees.{TyTree, VoidTy, IntTy, StructTy, PtrTy, ArrayTy}
use Rattle.fx_c_ast.specs.declared.layout.Layout.{Layout}
use Rattle.fx_c_ast.specs.Layout.{type_layout}
use Rattle.fx_c_types_heads.specs.Names.{found}
use Rattle.fx_c_types_heads.specs.Sizes.{known}

-- arithmetic types and pointer types together (6.2.5, 21)
pub data IsScalar : TyTree → Type 0 where
  integer_scalar : {i : IntType} → IsScalar (IntTy i)
  pointer_scalar : {t : TyTree} → IsScalar (PtrTy t)

-- each type but an array type
pub data IsNoArray : TyTree → Type 0 where
  void_itself : IsNoArray VoidTy
  integer_itself : {i : IntType} → IsNoArray (IntTy i)
  struct_itself : {n : ℕ} → IsNoArray (StructTy n)
  pointer_itself : {t : TyTree} → IsNoArray (PtrTy t)

-- a complete type, where the structs with a number below `declared` are complete (6.2.5, 1 and 22; 6.7.2.1, 8)
pub data IsComplete : ℕ → TyTree → Type 0 where
  integer_complete : {declared : ℕ} {i : IntType} → IsComplete declared (IntTy i)
  struct_complete : {declared n : ℕ} → n < declared → IsComplete declared (StructTy n)
  pointer_complete : {declared : ℕ} {t : TyTree} → IsComplete declared (PtrTy t)
  array_complete : {declared : ℕ} {t : TyTree} {count : ℕ} → IsComplete declared t → IsComplete declared (ArrayTy t count)

-- no array by value is of length 0 (6.7.6.2, 1)
pub data HasElements : TyTree → Type 0 where
  void_elements : HasElements VoidTy
  integer_elements : {i : IntType} → HasElements (IntTy i)
  struct_elements : {n : ℕ} → HasElements (StructTy n)
  pointer_elements : {t : TyTree} → HasElements (PtrTy t)
  array_elements : {t : TyTree} {count : ℕ} → HasElements t → 1 ≤ count → HasElements (ArrayTy t count)

-- the type that a written one means, where each tag is declared with a number (6.7.2.3, 6.7.6, 6.7.7)
pub data Means : List (List ℕ × ℕ) → TypeTree → TyTree → Type 0 where
  void_means : {tags : List (List ℕ × ℕ)} → Means tags VoidType VoidTy
  integer_means : {tags : List (List ℕ × ℕ)} {i : IntType} → Means tags (IntegerType i) (IntTy i)
  struct_means : {tags : List (List ℕ × ℕ)} {tag : List ℕ} {n : ℕ} → found tag tags ≡ Some n → Means tags (StructType tag) (StructTy n)
  pointer_means : {tags : List (List ℕ × ℕ)} {t : TypeTree} {u : TyTree} → Means tags t u → Means tags (PointerType t) (PtrTy u)
  array_means : {tags : List (List ℕ × ℕ)} {t : TypeTree} {u : TyTree} {count : ℕ} → Means tags t u → Means tags (ArrayType t count) (ArrayTy u count)

-- a type that an object may have (6.7, 7): it is complete, its arrays have elements, and it has at most 67,108,864 bytes
-- (the last is this project's own)
pub record IsObjectType (tags : List (List ℕ × ℕ)) (layouts : List Layout) (declared : ℕ) (t : TypeTree) (ty : TyTree) : Type 0 where
  pub means : Means tags t ty
  pub complete : IsComplete declared ty
  pub elements : HasElements ty
  pub small : (type_layout (known layouts) ty).size ≤ 67108864
