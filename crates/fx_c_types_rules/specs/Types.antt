-- Types of expressions, in the terms of C11 for the eight integer types, pointers, arrays and structs.
use Rattle.std.specs.Prelude.{ℕ, Bool, true, false, ◌&&◌, nat_eq, nat_lt, if◌then◌else◌}
use Rattle.fx_c_ast.specs.declared.operator.IntType.{IntType}
use Rattle.fx_c_ast.specs.declared.operator.IntType.TheVariants.{Char, Uchar, Short, Ushort, Int, Uint, Long, Ulong}
use Rattle.fx_c_ast.specs.CheckedTrees.{TyTree, VoidTy, IntTy, StructTy, PtrTy, ArrayTy}
use Rattle.fx_c_types_rules.specs.declared.category.Category.{Category}
use Rattle.fx_c_types_rules.specs.declared.category.Category.TheVariants.{Nothing, Integer, Structure, Pointer, Array}

-- the place of an integer type in the list of all, in which a type's rank never falls and an
-- unsigned type follows its signed one
abbrev pub place : IntType → ℕ
place Char = 0
place Uchar = 1
place Short = 2
place Ushort = 3
place Int = 4
place Uint = 5
place Long = 6
place Ulong = 7

-- integer promotions (C11 6.3.1.1): int holds all values of the shorter types
abbrev pub promoted : IntType → IntType
promoted Char = Int
promoted Uchar = Int
promoted Short = Int
promoted Ushort = Int
promoted Int = Int
promoted Uint = Uint
promoted Long = Long
promoted Ulong = Ulong

-- usual arithmetic conversions (C11 6.3.1.8): of promoted types the one that stands later in the
-- list int, unsigned int, long, unsigned long, since long holds all values of unsigned int
abbrev pub common : IntType → IntType → IntType
common i j = if nat_lt (place (promoted i)) (place (promoted j)) then promoted j else promoted i

abbrev pub category : TyTree → Category
category VoidTy = Nothing
category (IntTy i) = Integer i
category (StructTy n) = Structure
category (PtrTy t) = Pointer
category (ArrayTy t count) = Array

-- what a pointer type points to
abbrev pub pointee : TyTree → TyTree
pointee VoidTy = VoidTy
pointee (IntTy i) = IntTy i
pointee (StructTy n) = StructTy n
pointee (PtrTy t) = t
pointee (ArrayTy t count) = ArrayTy t count

abbrev pub is_void : TyTree → Bool
is_void VoidTy = true
is_void _ = false

abbrev pub same_type : TyTree → TyTree → Bool
same_type VoidTy VoidTy = true
same_type (IntTy i) (IntTy j) = nat_eq (place i) (place j)
same_type (StructTy m) (StructTy n) = nat_eq m n
same_type (PtrTy s) (PtrTy t) = same_type s t
same_type (ArrayTy s m) (ArrayTy t n) = same_type s t && nat_eq m n
same_type _ _ = false

-- objects of the type have a size, where the structs with a number below `declared` have one
abbrev pub is_complete : ℕ → TyTree → Bool
is_complete declared VoidTy = false
is_complete declared (IntTy i) = true
is_complete declared (StructTy n) = nat_lt n declared
is_complete declared (PtrTy t) = true
is_complete declared (ArrayTy t count) = is_complete declared t
