-- Types as they are written: what they mean, and which of them objects may have.
use Rattle.std.specs.Prelude.{ℕ, Bool, true, false, ◌&&◌, not, nat_eq, List, Option, Some, None, is_some}
use Rattle.fx_c_ast.specs.ParsedTrees.{TypeTree, VoidType, IntegerType, StructType, PointerType, ArrayType}
use Rattle.fx_c_ast.specs.CheckedTrees.{TyTree, VoidTy, IntTy, StructTy, PtrTy, ArrayTy}
use Rattle.fx_c_types_heads.specs.Names.{found}
use Rattle.fx_c_types_rules.specs.declared.category.Category.{Category}
use Rattle.fx_c_types_rules.specs.declared.category.Category.TheVariants.{Nothing, Integer, Structure, Pointer, Array}
use Rattle.fx_c_types_rules.specs.Types.{is_complete}

abbrev pub number_or : ℕ → Option ℕ → ℕ
number_or other None = other
number_or other (Some n) = n

-- the number of a struct; a tag that is not declared has one that no struct has
abbrev pub tag_number : List (List ℕ × ℕ) → List ℕ → ℕ
tag_number tags tag = number_or 4294967295 (found tag tags)

abbrev pub ty_of : List (List ℕ × ℕ) → TypeTree → TyTree
ty_of tags VoidType = VoidTy
ty_of tags (IntegerType i) = IntTy i
ty_of tags (StructType tag) = StructTy (tag_number tags tag)
ty_of tags (PointerType t) = PtrTy (ty_of tags t)
ty_of tags (ArrayType t count) = ArrayTy (ty_of tags t) count

-- each tag is declared somewhere
abbrev pub is_named : List (List ℕ × ℕ) → TypeTree → Bool
is_named tags VoidType = true
is_named tags (IntegerType i) = true
is_named tags (StructType tag) = is_some (found tag tags)
is_named tags (PointerType t) = is_named tags t
is_named tags (ArrayType t count) = is_named tags t

-- no array by value has a length of 0
abbrev pub has_elements : TyTree → Bool
has_elements VoidTy = true
has_elements (IntTy i) = true
has_elements (StructTy n) = true
has_elements (PtrTy t) = true
has_elements (ArrayTy t count) = has_elements t && not (nat_eq count 0)

-- objects may have the type, where the structs with a number below `declared` are complete
abbrev pub is_object : List (List ℕ × ℕ) → ℕ → TypeTree → Bool
is_object tags declared t = (is_named tags t && is_complete declared (ty_of tags t)) && has_elements (ty_of tags t)

-- the category of the type that it means
abbrev pub written_category : TypeTree → Category
written_category VoidType = Nothing
written_category (IntegerType i) = Integer i
written_category (StructType tag) = Structure
written_category (PointerType t) = Pointer
written_category (ArrayType t count) = Array
