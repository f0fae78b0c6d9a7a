-- Sizes and alignments of types in bytes: those of the x86-64 System V ABI for the types of the profile.
use Rattle.std.specs.Prelude.{ℕ, zero, suc, ◌+◌, ◌-◌, ◌*◌, ◌/◌, ◌<◌, ◌≤◌, max, List, [], ◌∷◌, length, slice_index_or}
use Rattle.fx_c_ast.specs.declared.layout.Layout.{Layout}
use Rattle.fx_c_ast.specs.declared.operator.IntType.{IntType}
use Rattle.fx_c_ast.specs.declared.operator.IntType.TheVariants.{Char, Uchar, Short, Ushort, Int, Uint, Long, Ulong}
use Rattle.fx_c_ast.specs.CheckedTrees.{TyTree, VoidTy, IntTy, StructTy, PtrTy, ArrayTy}

abbrev pub integer_size : IntType → ℕ
integer_size Char = 1
integer_size Uchar = 1
integer_size Short = 2
integer_size Ushort = 2
integer_size Int = 4
integer_size Uint = 4
integer_size Long = 8
integer_size Ulong = 8

-- the next multiple of a number
abbrev pub round_up : ℕ → ℕ → ℕ
round_up n align = (n + (align - 1)) / align * align

-- the layout of a type, where that of each struct is known by its number
abbrev pub type_layout : (ℕ → Layout) → TyTree → Layout
type_layout known VoidTy = record { size = 0; align = 1 }
type_layout known (IntTy i) = record { size = integer_size i; align = integer_size i }
type_layout known (StructTy n) = known n
type_layout known (PtrTy t) = record { size = 8; align = 8 }
type_layout known (ArrayTy t count) = record { size = (type_layout known t).size * count; align = (type_layout known t).align }

-- where members end that begin after the first bytes: each stands at the next multiple of its alignment
abbrev pub members_end : (ℕ → Layout) → ℕ → List TyTree → ℕ
members_end known at [] = at
members_end known at (t ∷ ts) = members_end known (round_up at (type_layout known t).align + (type_layout known t).size) ts

abbrev pub greatest_align : (ℕ → Layout) → ℕ → List TyTree → ℕ
greatest_align known align [] = align
greatest_align known align (t ∷ ts) = greatest_align known (max align (type_layout known t).align) ts

-- a struct's size is rounded up to its greatest alignment
abbrev pub members_layout : (ℕ → Layout) → List TyTree → Layout
members_layout known ts = record { size = round_up (members_end known 0 ts) (greatest_align known 1 ts); align = greatest_align known 1 ts }

-- the layouts of structs in which at most so many structs stand inside one another by value
unfoldable pub struct_layout : List (List TyTree) → ℕ → ℕ → Layout
struct_layout structs zero n = record { size = 0; align = 1 }
struct_layout structs (suc inside) n = members_layout (struct_layout structs inside) (slice_index_or structs n [])

-- the layouts of a program's structs: a struct holds by value only those declared before it
abbrev pub known_layouts : List (List TyTree) → ℕ → Layout
known_layouts structs n = struct_layout structs (length structs) n

abbrev pub layout_of : List (List TyTree) → TyTree → Layout
layout_of structs t = type_layout (known_layouts structs) t

-- a type that has a size: by value it holds no void and only structs with a number below a bound,
-- and neither it nor a type in it by value is larger than 67,108,864 bytes
abbrev pub IsSized : (ℕ → Layout) → ℕ → TyTree → Type 0
IsSized known bound VoidTy = ⊥
IsSized known bound (IntTy i) = Unit {0}
IsSized known bound (StructTy n) = (n < bound) × ((known n).size ≤ 67108864)
IsSized known bound (PtrTy t) = Unit {0}
IsSized known bound (ArrayTy t count) = ((type_layout known t).size * count ≤ 67108864) × IsSized known bound t

abbrev pub AreSized : (ℕ → Layout) → ℕ → List TyTree → Type 0
AreSized known bound [] = Unit {0}
AreSized known bound (t ∷ ts) = IsSized known bound t × AreSized known bound ts

-- a program's structs: each member has a size and holds by value only structs declared before
abbrev pub StructsAreSized : List (List TyTree) → Type 0
StructsAreSized structs = (n : ℕ) → n < length structs → AreSized (known_layouts structs) n (slice_index_or structs n [])
