-- Types that are written, and those that the rules make of them: their arrays have elements and are small.
use Rattle.std.proofs.Common.{◌≡◌, ℕ, zero, suc, ◌+◌, ◌*◌, ◌<◌, ◌≤◌, true, not, nat_eq, inl, inr, List, [], ◌∷◌, length, get_or, lit≤, sym, arith, subst}
use Rattle.std.proofs.Math.Nat.{le-mul_of_pos_right}
use Rattle.std.proofs.lemmas.Bool.{and_parts, ltb-true, cases_lt}
use Rattle.fx_c_ast.specs.declared.layout.Layout.{Layout}
use Rattle.fx_c_ast.specs.declared.operator.IntType.{IntType}
use Rattle.fx_c_ast.specs.declared.operator.IntType.TheVariants.{Char, Uchar, Short, Ushort, Int, Uint, Long, Ulong}
use Rattle.fx_c_ast.specs.ParsedTrees.{TypeTree, VoidType, IntegerType, StructType, PointerType, ArrayType}
use Rattle.fx_c_ast.specs.CheckedTrees.{TyTree, VoidTy, IntTy, StructTy, PtrTy, ArrayTy}
use Rattle.fx_c_ast.specs.Layout.{integer_size, round_up, type_layout, members_end, greatest_align, members_layout, IsSized, AreSized}
use Rattle.fx_c_ast.proofs.Layouts.{greatest_from, round_from}
use Rattle.fx_c_types_rules.specs.Types.{is_complete}
use Rattle.fx_c_types_heads.specs.Written.{ty_of, has_elements}
use Rattle.fx_c_types_law.proofs.Known.{Describes, end_from}
use Rattle.fx_c_types_texts_law.proofs.Trees.{IsBare, IsDeclared}

-- no array stands in it, also not behind a pointer
abbrev pub BareTy : TyTree → Type 0
BareTy VoidTy = Unit {0}
BareTy (IntTy i) = Unit {0}
BareTy (StructTy n) = Unit {0}
BareTy (PtrTy t) = BareTy t
BareTy (ArrayTy t count) = ⊥

-- arrays stand in it by value alone, and have elements
abbrev pub Shaped : TyTree → Type 0
Shaped VoidTy = Unit {0}
Shaped (IntTy i) = Unit {0}
Shaped (StructTy n) = Unit {0}
Shaped (PtrTy t) = BareTy t
Shaped (ArrayTy t count) = (1 ≤ count) × Shaped t

-- each array in it, also behind a pointer, has elements and is small
abbrev pub IsMeasured : (ℕ → Layout) → TyTree → Type 0
IsMeasured f VoidTy = Unit {0}
IsMeasured f (IntTy i) = Unit {0}
IsMeasured f (StructTy n) = Unit {0}
IsMeasured f (PtrTy t) = IsMeasured f t
IsMeasured f (ArrayTy t count) = (1 ≤ count) × ((type_layout f t).size * count ≤ 67108864) × IsMeasured f t

-- ---- written types

pub bare_ty : (tags : List (List ℕ × ℕ)) (t : TypeTree) → IsBare t → BareTy (ty_of tags t)
bare_ty tags VoidType bare = tt
bare_ty tags (IntegerType i) bare = tt
bare_ty tags (StructType tag) bare = tt
bare_ty tags (PointerType t) bare = bare_ty tags t bare
bare_ty tags (ArrayType t count) bare = absurd bare

some_elements : (count : ℕ) → not (nat_eq count 0) ≡ true → 1 ≤ count
some_elements zero h = absurd cc
some_elements (suc n) h = omega arith

pub shaped_ty : (tags : List (List ℕ × ℕ)) (t : TypeTree) → IsDeclared t → has_elements (ty_of tags t) ≡ true → Shaped (ty_of tags t)
shaped_ty tags VoidType is h = tt
shaped_ty tags (IntegerType i) is h = tt
shaped_ty tags (StructType tag) is h = tt
shaped_ty tags (PointerType t) is h = bare_ty tags t is
shaped_ty tags (ArrayType t count) is h =
    let both = and_parts (has_elements (ty_of tags t)) (not (nat_eq count 0)) h in
    (some_elements count both.1, shaped_ty tags t is both.0)

pub bare_measured : (f : ℕ → Layout) (t : TyTree) → BareTy t → IsMeasured f t
bare_measured f VoidTy bare = tt
bare_measured f (IntTy i) bare = tt
bare_measured f (StructTy n) bare = tt
bare_measured f (PtrTy t) bare = bare_measured f t bare
bare_measured f (ArrayTy t count) bare = absurd bare

pub shaped_measured : (f : ℕ → Layout) (bound : ℕ) (t : TyTree) → Shaped t → IsSized f bound t → IsMeasured f t
shaped_measured f bound VoidTy shaped sized = tt
shaped_measured f bound (IntTy i) shaped sized = tt
shaped_measured f bound (StructTy n) shaped sized = tt
shaped_measured f bound (PtrTy t) shaped sized = bare_measured f t shaped
shaped_measured f bound (ArrayTy t count) shaped sized = (shaped.0, sized.0, shaped_measured f bound t shaped.1 sized.1)

-- ---- sizes

integer_some : (i : IntType) → (1 ≤ integer_size i) × (integer_size i ≤ 67108864)
integer_some Char = (lit≤ tt, lit≤ tt)
integer_some Uchar = (lit≤ tt, lit≤ tt)
integer_some Short = (lit≤ tt, lit≤ tt)
integer_some Ushort = (lit≤ tt, lit≤ tt)
integer_some Int = (lit≤ tt, lit≤ tt)
integer_some Uint = (lit≤ tt, lit≤ tt)
integer_some Long = (lit≤ tt, lit≤ tt)
integer_some Ulong = (lit≤ tt, lit≤ tt)

-- so many elements take no less room than one
more_room : (size count : ℕ) → 1 ≤ count → size ≤ size * count
more_room size count some =
    let positive : zero < count = omega (arith, some) in
    le-mul_of_pos_right size positive

-- a type that has a size takes a byte at least, where the structs that it holds do
shape_size : (f : ℕ → Layout) (bound : ℕ) (t : TyTree) → Shaped t → IsSized f bound t → ((m : ℕ) → m < bound → 1 ≤ (f m).size) → 1 ≤ (type_layout f t).size
shape_size f bound VoidTy shaped sized all = absurd sized
shape_size f bound (IntTy i) shaped sized all = (integer_some i).0
shape_size f bound (StructTy n) shaped sized all = all n sized.0
shape_size f bound (PtrTy t) shaped sized all = lit≤ tt
shape_size f bound (ArrayTy t count) shaped sized all =
    let one : 1 ≤ (type_layout f t).size = shape_size f bound t shaped.1 sized.1 all in
    let more : (type_layout f t).size ≤ (type_layout f t).size * count = more_room (type_layout f t).size count shaped.0 in
    omega (arith, one, more)

-- a complete type has a size from 1 byte to 64 MiB, where the structs of the program do
pub element_size : (f : ℕ → Layout) (declared bound : ℕ) (t : TyTree) → declared ≤ bound → ((k : ℕ) → k < bound → (1 ≤ (f k).size) × ((f k).size ≤ 67108864)) → IsMeasured f t → is_complete declared t ≡ true → IsSized f bound t × (1 ≤ (type_layout f t).size) × ((type_layout f t).size ≤ 67108864)
element_size f declared bound VoidTy within all is whole = absurd cc
element_size f declared bound (IntTy i) within all is whole = (tt, (integer_some i).0, (integer_some i).1)
element_size f declared bound (StructTy n) within all is whole =
    let less : n < declared = ltb-true n declared whole in
    let there : n < bound = omega (arith, less, within) in
    ((there, (all n there).1), (all n there).0, (all n there).1)
element_size f declared bound (PtrTy t) within all is whole = (tt, lit≤ tt, lit≤ tt)
element_size f declared bound (ArrayTy t count) within all is whole =
    let one = element_size f declared bound t within all is.2 whole in
    let more : (type_layout f t).size ≤ (type_layout f t).size * count = more_room (type_layout f t).size count is.0 in
    ((is.1, one.0), omega (arith, one.1, more), is.1)

-- ---- structs

-- the types of members, of which there is one at least
abbrev pub AreShaped : List TyTree → Type 0
AreShaped [] = ⊥
AreShaped (t ∷ ts) = Shaped t

members_some : (f : ℕ → Layout) → ((n : ℕ) → 1 ≤ (f n).align) → (bound : ℕ) (ts : List TyTree) → AreShaped ts → AreSized f bound ts → ((m : ℕ) → m < bound → 1 ≤ (f m).size) → 1 ≤ (members_layout f ts).size
members_some f aligned bound [] shaped sized all = absurd shaped
members_some f aligned bound (t ∷ ts) shaped sized all =
    let first : ℕ = round_up 0 (type_layout f t).align + (type_layout f t).size in
    let one : 1 ≤ (type_layout f t).size = shape_size f bound t shaped sized.0 all in
    let end : first ≤ members_end f first ts = end_from f aligned first ts in
    let whole : members_end f first ts ≤ (members_layout f (t ∷ ts)).size = round_from (members_end f first ts) (greatest_align f 1 (t ∷ ts)) (greatest_from f 1 (t ∷ ts)) in
    omega (arith, one, end, whole)

-- each struct takes a byte at least
module _ (f : ℕ → Layout) (aligned : (n : ℕ) → 1 ≤ (f n).align) (tss : List (List TyTree)) (is : Describes f tss) (shaped : (n : ℕ) → n < length tss → AreShaped (get_or tss n [])) where
  some_below : (k : ℕ) → k ≤ length tss → (m : ℕ) → m < k → 1 ≤ (f m).size
  some_below zero within m less = absurd (omega (arith, less))
  some_below (suc k) within m less =
      let before : (j : ℕ) → j < k → 1 ≤ (f j).size = some_below k (omega (arith, within)) in
      let there : k < length tss = omega (arith, within) in
      let here : 1 ≤ (f k).size = subst (λ (l : Layout). 1 ≤ l.size) (sym (is.laid k there)) (members_some f aligned k (get_or tss k []) (shaped k there) (is.held k there) before) in
      elim (cases_lt m k) [
        | inl earlier ↦ before m earlier
        | inr later ↦ subst (λ j. 1 ≤ (f j).size) (omega (arith, less, later)) here
      ]

  pub struct_some : (m : ℕ) → m < length tss → 1 ≤ (f m).size
  struct_some m less = some_below (length tss) (omega arith) m less
