-- Layouts of types and structs.
use Rattle.std.proofs.Common.{◌≡◌, ℕ, zero, suc, ◌+◌, ◌-◌, ◌*◌, ◌<◌, ◌≤◌, max, List, [], ◌∷◌, length, get_or, lit≤, refl, sym, ap, ◌∙◌, arith, subst}
use Rattle.fx_c_ast.specs.declared.layout.Layout.{Layout}
use Rattle.std.proofs.Math.Nat.{lt-div-mul-add}
use Rattle.std.proofs.Common.{drop, drop-cons, drop_of_length-le, add-one}
use Rattle.fx_c_ast.specs.declared.operator.IntType.{IntType}
use Rattle.fx_c_ast.specs.declared.operator.IntType.TheVariants.{Char, Uchar, Short, Ushort, Int, Uint, Long, Ulong}
use Rattle.fx_c_ast.specs.declared.checked.TMember.{TMember}
use Rattle.fx_c_ast.specs.declared.checked.TStruct.{TStruct}
use Rattle.fx_c_ast.specs.CheckedTrees.{TyTree, VoidTy, IntTy, StructTy, PtrTy, ArrayTy, ty_tree, member_types, struct_types}
use Rattle.fx_c_ast.specs.Elements.{element_of, scaled, IsElement, IsScaled}
use Rattle.fx_c_ast.specs.Layout.{integer_size, round_up, type_layout, members_end, greatest_align, members_layout, struct_layout, known_layouts, IsSized, AreSized, StructsAreSized}

-- a type is its elements, repeated
pub repeated_is : (known : ℕ → Layout) (t : TyTree) → scaled (type_layout known (element_of t)) t ≡ type_layout known t
repeated_is known VoidTy = refl
repeated_is known (IntTy i) = refl
repeated_is known (StructTy n) = refl
repeated_is known (PtrTy t) = refl
repeated_is known (ArrayTy t count) = ap (λ (l : Layout). record { size = l.size * count; align = l.align }) (repeated_is known t)

pub element_sized : (known : ℕ → Layout) (bound : ℕ) (t : TyTree) → IsSized known bound t → IsSized known bound (element_of t)
element_sized known bound VoidTy is = is
element_sized known bound (IntTy i) is = is
element_sized known bound (StructTy n) is = is
element_sized known bound (PtrTy t) is = is
element_sized known bound (ArrayTy t count) is = element_sized known bound t is.1

pub element_is : (t : TyTree) → IsElement (element_of t)
element_is VoidTy = tt
element_is (IntTy i) = tt
element_is (StructTy n) = tt
element_is (PtrTy t) = tt
element_is (ArrayTy t count) = element_is t

pub scales : (known : ℕ → Layout) (bound : ℕ) (t : TyTree) → IsSized known bound t → IsScaled (type_layout known (element_of t)) t
scales known bound VoidTy is = tt
scales known bound (IntTy i) is = tt
scales known bound (StructTy n) is = tt
scales known bound (PtrTy t) is = tt
scales known bound (ArrayTy t count) is =
    let e = repeated_is known t in
    (rw e (omega arith), scales known bound t is.1)

pub more_bound : (known : ℕ → Layout) (m n : ℕ) (t : TyTree) → m ≤ n → IsSized known m t → IsSized known n t
more_bound known m n VoidTy le is = is
more_bound known m n (IntTy i) le is = is
more_bound known m n (StructTy s) le is = (omega arith, is.1)
more_bound known m n (PtrTy t) le is = is
more_bound known m n (ArrayTy t count) le is = (is.0, more_bound known m n t le is.1)

integer_small : (i : IntType) → integer_size i ≤ 8
integer_small Char = lit≤ tt
integer_small Uchar = lit≤ tt
integer_small Short = lit≤ tt
integer_small Ushort = lit≤ tt
integer_small Int = lit≤ tt
integer_small Uint = lit≤ tt
integer_small Long = lit≤ tt
integer_small Ulong = lit≤ tt

integer_positive : (i : IntType) → 1 ≤ integer_size i
integer_positive Char = lit≤ tt
integer_positive Uchar = lit≤ tt
integer_positive Short = lit≤ tt
integer_positive Ushort = lit≤ tt
integer_positive Int = lit≤ tt
integer_positive Uint = lit≤ tt
integer_positive Long = lit≤ tt
integer_positive Ulong = lit≤ tt

pub size_small : (known : ℕ → Layout) (bound : ℕ) (t : TyTree) → IsSized known bound t → (type_layout known t).size ≤ 67108864
size_small known bound VoidTy is = absurd is
size_small known bound (IntTy i) is = omega (arith, integer_small i)
size_small known bound (StructTy n) is = is.1
size_small known bound (PtrTy t) is = omega arith
size_small known bound (ArrayTy t count) is = is.0

-- each alignment is positive
pub greatest_from : (known : ℕ → Layout) (a : ℕ) (ts : List TyTree) → a ≤ greatest_align known a ts
greatest_from known a [] = omega arith
greatest_from known a (t ∷ ts) = omega (arith, greatest_from known (max a (type_layout known t).align) ts)

struct_align : (ss : List (List TyTree)) (inside n : ℕ) → 1 ≤ (struct_layout ss inside n).align
unfolding struct_layout
struct_align ss zero n = lit≤ tt
struct_align ss (suc inside) n = greatest_from (struct_layout ss inside) 1 (get_or ss n [])

type_align : (known : ℕ → Layout) → ((n : ℕ) → 1 ≤ (known n).align) → (t : TyTree) → 1 ≤ (type_layout known t).align
type_align known all VoidTy = lit≤ tt
type_align known all (IntTy i) = integer_positive i
type_align known all (StructTy n) = all n
type_align known all (PtrTy t) = lit≤ tt
type_align known all (ArrayTy t count) = type_align known all t

pub round_from : (n a : ℕ) → 1 ≤ a → n ≤ round_up n a
round_from n a le =
    let m : ℕ = n + (a - 1) in
    let p : zero < a = omega arith in
    omega (arith, lt-div-mul-add {a = m} {b = a} p)

end_from : (known : ℕ → Layout) → ((n : ℕ) → 1 ≤ (known n).align) → (at : ℕ) (ts : List TyTree) → at ≤ members_end known at ts
end_from known all at [] = omega arith
end_from known all at (t ∷ ts) =
    let next : ℕ = round_up at (type_layout known t).align + (type_layout known t).size in
    let le : at ≤ round_up at (type_layout known t).align = round_from at (type_layout known t).align (type_align known all t) in
    let more : next ≤ members_end known next ts = end_from known all next ts in
    omega arith

-- the end so far is no more than the end
pub end_grows : (ss : List (List TyTree)) (at : ℕ) (ts : List TyTree) → at ≤ members_end (known_layouts ss) at ts
end_grows ss at ts = end_from (known_layouts ss) (λ n. struct_align ss (length ss) n) at ts

-- layouts that agree on the structs below a bound agree on what has a size there
Agree : (ℕ → Layout) → (ℕ → Layout) → ℕ → Type 0
Agree f g bound = (m : ℕ) → m < bound → f m ≡ g m

type_same : (f g known : ℕ → Layout) (bound : ℕ) → Agree f g bound → (t : TyTree) → IsSized known bound t → type_layout f t ≡ type_layout g t
unfolding Agree
type_same f g known bound same VoidTy is = refl
type_same f g known bound same (IntTy i) is = refl
type_same f g known bound same (StructTy n) is = same n is.0
type_same f g known bound same (PtrTy t) is = refl
type_same f g known bound same (ArrayTy t count) is = ap (λ (l : Layout). record { size = l.size * count; align = l.align }) (type_same f g known bound same t is.1)

end_same : (f g known : ℕ → Layout) (bound : ℕ) → Agree f g bound → (at : ℕ) (ts : List TyTree) → AreSized known bound ts → members_end f at ts ≡ members_end g at ts
end_same f g known bound same at [] is = refl
end_same f g known bound same at (t ∷ ts) is =
    ap (λ (l : Layout). members_end f (round_up at l.align + l.size) ts) (type_same f g known bound same t is.0)
    ∙ end_same f g known bound same (round_up at (type_layout g t).align + (type_layout g t).size) ts is.1

greatest_same : (f g known : ℕ → Layout) (bound : ℕ) → Agree f g bound → (a : ℕ) (ts : List TyTree) → AreSized known bound ts → greatest_align f a ts ≡ greatest_align g a ts
greatest_same f g known bound same a [] is = refl
greatest_same f g known bound same a (t ∷ ts) is =
    ap (λ (l : Layout). greatest_align f (max a l.align) ts) (type_same f g known bound same t is.0)
    ∙ greatest_same f g known bound same (max a (type_layout g t).align) ts is.1

members_same : (f g known : ℕ → Layout) (bound : ℕ) → Agree f g bound → (ts : List TyTree) → AreSized known bound ts → members_layout f ts ≡ members_layout g ts
members_same f g known bound same ts is =
    let e = end_same f g known bound same 0 ts is in
    let a = greatest_same f g known bound same 1 ts is in
    ap (λ (n : ℕ). record { size = round_up n (greatest_align f 1 ts); align = greatest_align f 1 ts }) e
    ∙ ap (λ (n : ℕ). record { size = round_up (members_end g 0 ts) n; align = n }) a

agree : (ss : List (List TyTree)) → StructsAreSized ss → (k j n : ℕ) → n < k → n < j → n < length ss → struct_layout ss k n ≡ struct_layout ss j n
unfolding struct_layout Agree
agree ss sized zero j n lk lj l = absurd (omega arith)
agree ss sized (suc k) zero n lk lj l = absurd (omega arith)
agree ss sized (suc k) (suc j) n lk lj l =
    members_same (struct_layout ss k) (struct_layout ss j) (known_layouts ss) n (λ m lm. agree ss sized k j m (omega arith) (omega arith) (omega arith)) (get_or ss n []) (sized n l)

-- a struct's layout is by its members', each struct in which is known
pub struct_is : (ss : List (List TyTree)) (n : ℕ) → StructsAreSized ss → n < length ss → known_layouts ss n ≡ members_layout (known_layouts ss) (get_or ss n [])
unfolding struct_layout Agree
struct_is ss n sized l = by_count (length ss) refl
  where
    by_count : (k : ℕ) → length ss ≡ k → known_layouts ss n ≡ members_layout (known_layouts ss) (get_or ss n [])
    by_count zero e = absurd (omega arith)
    by_count (suc k) e =
        ap (λ (c : ℕ). struct_layout ss c n) e
        ∙ members_same (struct_layout ss k) (known_layouts ss) (known_layouts ss) n (λ m lm. agree ss sized k (length ss) m (omega arith) (omega arith) (omega arith)) (get_or ss n []) (sized n l)

pub types_at : (ss : List TStruct) (n : ℕ) (d : TStruct) → n < length ss → get_or (struct_types ss) n [] ≡ member_types (get_or ss n d).members
types_at [] n d l = absurd (omega arith)
types_at (s ∷ ss) zero d l = refl
types_at (s ∷ ss) (suc n) d l = types_at ss n d (omega arith)

pub types_length : (ss : List TStruct) → length (struct_types ss) ≡ length ss
types_length [] = refl
types_length (s ∷ ss) = ap suc (types_length ss)

-- how far down a type's structs reach
abbrev pub rank : TyTree → ℕ
rank VoidTy = 0
rank (IntTy i) = 0
rank (StructTy n) = 2 * n + 2
rank (PtrTy t) = 0
rank (ArrayTy t count) = rank t

pub rank_below : (known : ℕ → Layout) (bound : ℕ) (t : TyTree) → IsSized known bound t → rank (element_of t) < 2 * bound + 1
rank_below known bound VoidTy is = absurd is
rank_below known bound (IntTy i) is = omega arith
rank_below known bound (StructTy n) is = omega arith
rank_below known bound (PtrTy t) is = omega arith
rank_below known bound (ArrayTy t count) is = rank_below known bound t is.1

-- the members of a struct
pub begins : (ss : List TStruct) (n : ℕ) (s : TStruct) (ms : List TMember) → StructsAreSized (struct_types ss) → n < length ss → s ≡ get_or ss n s → ms ≡ s.members → (known_layouts (struct_types ss) n ≡ members_layout (known_layouts (struct_types ss)) (member_types ms)) × AreSized (known_layouts (struct_types ss)) n (member_types ms)
begins ss n s ms sized l is has =
    let there : n < length (struct_types ss) = rw (types_length ss) l in
    let types : get_or (struct_types ss) n [] ≡ member_types ms = types_at ss n s l ∙ ap (λ (x : TStruct). member_types x.members) (sym is) ∙ ap member_types (sym has) in
    (struct_is (struct_types ss) n sized there ∙ ap (members_layout (known_layouts (struct_types ss))) types, subst (λ ts. AreSized (known_layouts (struct_types ss)) n ts) types (sized n there))

pub end_small : (known : ℕ → Layout) (ts : List TyTree) → (members_layout known ts).size ≤ 67108864 → members_end known 0 ts ≤ 67108864
end_small known ts le = omega (arith, round_from (members_end known 0 ts) (greatest_align known 1 ts) (greatest_from known 1 ts))

-- the member at an index, and those behind it
pub next_member : (ms : List TMember) (i : ℕ) (m : TMember) → i < length ms → m ≡ get_or ms i m → member_types (drop i ms) ≡ ty_tree m.ty ∷ member_types (drop (i + 1) ms)
next_member ms i m l is = rw (add-one, drop-cons ms i m l) (ap (λ (x : TMember). ty_tree x.ty ∷ member_types (drop (suc i) ms)) (sym is))

-- a member's layout, from its elements'
pub member_is : (known : ℕ → Layout) (of : Layout) (t e : TyTree) → of ≡ type_layout known e → e ≡ element_of t → scaled of t ≡ type_layout known t
member_is known of t e is at = ap (λ (l : Layout). scaled l t) (is ∙ ap (type_layout known) at) ∙ repeated_is known t

pub aligns : (of : Layout) (t : TyTree) → (scaled of t).align ≡ of.align
aligns of VoidTy = refl
aligns of (IntTy i) = refl
aligns of (StructTy n) = refl
aligns of (PtrTy t) = refl
aligns of (ArrayTy t count) = aligns of t

pub end_next : (known : ℕ → Layout) (end total : ℕ) (ms : List TMember) (i : ℕ) (m : TMember) (of : Layout) → of ≡ type_layout known (ty_tree m.ty) → member_types (drop i ms) ≡ ty_tree m.ty ∷ member_types (drop (i + 1) ms) → members_end known end (member_types (drop i ms)) ≡ total → members_end known (round_up end of.align + of.size) (member_types (drop (i + 1) ms)) ≡ total
end_next known end total ms i m of is e h =
    ap (λ (l : Layout). members_end known (round_up end l.align + l.size) (member_types (drop (i + 1) ms))) is
    ∙ sym (ap (members_end known end) e) ∙ h

pub greatest_next : (known : ℕ → Layout) (a total : ℕ) (ms : List TMember) (i : ℕ) (m : TMember) (of : Layout) → of ≡ type_layout known (ty_tree m.ty) → member_types (drop i ms) ≡ ty_tree m.ty ∷ member_types (drop (i + 1) ms) → greatest_align known a (member_types (drop i ms)) ≡ total → greatest_align known (max a of.align) (member_types (drop (i + 1) ms)) ≡ total
greatest_next known a total ms i m of is e h =
    ap (λ (l : Layout). greatest_align known (max a l.align) (member_types (drop (i + 1) ms))) is
    ∙ sym (ap (greatest_align known a) e) ∙ h

pub all_read : (ms : List TMember) (i : ℕ) → length ms ≤ i → member_types (drop i ms) ≡ []
all_read ms i le = ap member_types (drop_of_length-le ms {i = i} le)
