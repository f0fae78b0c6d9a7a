-- Arrays of arrays, from their elements.
use Rattle.std.specs.Prelude.{◌*◌, ◌<◌, ◌^◌}
use Rattle.fx_c_ast.specs.CheckedTrees.{TyTree, VoidTy, IntTy, StructTy, PtrTy, ArrayTy}
use Rattle.fx_c_ast.specs.declared.layout.Layout.{Layout}

abbrev pub element_of : TyTree → TyTree
element_of VoidTy = VoidTy
element_of (IntTy i) = IntTy i
element_of (StructTy n) = StructTy n
element_of (PtrTy t) = PtrTy t
element_of (ArrayTy t count) = element_of t

abbrev pub IsElement : TyTree → Type 0
IsElement VoidTy = Unit {0}
IsElement (IntTy i) = Unit {0}
IsElement (StructTy n) = Unit {0}
IsElement (PtrTy t) = Unit {0}
IsElement (ArrayTy t count) = ⊥

-- the layout of a type whose elements have this one
abbrev pub scaled : Layout → TyTree → Layout
scaled of VoidTy = of
scaled of (IntTy i) = of
scaled of (StructTy n) = of
scaled of (PtrTy t) = of
scaled of (ArrayTy t count) = record { size = (scaled of t).size * count; align = (scaled of t).align }

-- each size on the way fits 64 bits
abbrev pub IsScaled : Layout → TyTree → Type 0
IsScaled of VoidTy = Unit {0}
IsScaled of (IntTy i) = Unit {0}
IsScaled of (StructTy n) = Unit {0}
IsScaled of (PtrTy t) = Unit {0}
IsScaled of (ArrayTy t count) = ((scaled of t).size * count < 2 ^ 64) × IsScaled of t
