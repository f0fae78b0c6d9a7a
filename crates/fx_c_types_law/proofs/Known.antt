-- A table of layouts, and the layouts that the structs themselves give.
use Rattle.std.proofs.Common.{◌≡◌, ℕ, zero, suc, ◌+◌, ◌*◌, ◌<◌, ◌≤◌, Bool, true, false, ◌&&◌, not, nat_eq, max, inl, inr, List, [], ◌∷◌, ◌++◌, length, get_or, lit≤, refl, sym, ap, ◌∙◌, arith, subst}
use Rattle.std.proofs.Math.Nat.{le-mul_of_pos_right}
use Rattle.std.proofs.lemmas.Bool.{ltb-true, cases_lt, cases_order}
use Rattle.std.proofs.lemmas.List.{get_or_append_left, get_or_push, get_or_past, length-append}
use Rattle.fx_c_ast.specs.declared.layout.Layout.{Layout}
use Rattle.fx_c_ast.specs.declared.operator.IntType.{IntType}
use Rattle.fx_c_ast.specs.declared.operator.IntType.TheVariants.{Char, Uchar, Short, Ushort, Int, Uint, Long, Ulong}
use Rattle.fx_c_ast.specs.CheckedTrees.{TyTree, VoidTy, IntTy, StructTy, PtrTy, ArrayTy}
use Rattle.fx_c_ast.specs.Layout.{integer_size, round_up, type_layout, members_end, greatest_align, members_layout, struct_layout, known_layouts, IsSized, AreSized, StructsAreSized}
use Rattle.fx_c_ast.proofs.Layouts.{greatest_from, round_from}
use Rattle.fx_c_types_rules.specs.Types.{is_complete}
use Rattle.fx_c_types_heads.specs.Written.{has_elements}
use Rattle.fx_c_types_heads.specs.Sizes.{known}

-- two tables that agree on the structs below a bound
abbrev pub Agree : (ℕ → Layout) → (ℕ → Layout) → ℕ → Type 0
Agree f g bound = (m : ℕ) → m < bound → f m ≡ g m

pub type_same : (f g h : ℕ → Layout) (bound : ℕ) → Agree f g bound → (t : TyTree) → IsSized h bound t → type_layout f t ≡ type_layout g t
type_same f g h bound same VoidTy is = refl
type_same f g h bound same (IntTy i) is = refl
type_same f g h bound same (StructTy n) is = same n is.0
type_same f g h bound same (PtrTy t) is = refl
type_same f g h bound same (ArrayTy t count) is = ap (λ (l : Layout). record { size = l.size * count; align = l.align }) (type_same f g h bound same t is.1)

pub sized_same : (f g : ℕ → Layout) (bound : ℕ) → Agree f g bound → (t : TyTree) → IsSized f bound t → IsSized g bound t
sized_same f g bound same VoidTy is = is
sized_same f g bound same (IntTy i) is = tt
sized_same f g bound same (StructTy n) is = (is.0, subst (λ (l : Layout). l.size ≤ 67108864) (same n is.0) is.1)
sized_same f g bound same (PtrTy t) is = tt
sized_same f g bound same (ArrayTy t count) is =
    (subst (λ (l : Layout). l.size * count ≤ 67108864) (type_same f g f bound same t is.1) is.0, sized_same f g bound same t is.1)

pub all_sized_same : (f g : ℕ → Layout) (bound : ℕ) → Agree f g bound → (ts : List TyTree) → AreSized f bound ts → AreSized g bound ts
all_sized_same f g bound same [] is = tt
all_sized_same f g bound same (t ∷ ts) is = (sized_same f g bound same t is.0, all_sized_same f g bound same ts is.1)

end_same : (f g h : ℕ → Layout) (bound : ℕ) → Agree f g bound → (at : ℕ) (ts : List TyTree) → AreSized h bound ts → members_end f at ts ≡ members_end g at ts
end_same f g h bound same at [] is = refl
end_same f g h bound same at (t ∷ ts) is =
    ap (λ (l : Layout). members_end f (round_up at l.align + l.size) ts) (type_same f g h bound same t is.0)
    ∙ end_same f g h bound same (round_up at (type_layout g t).align + (type_layout g t).size) ts is.1

greatest_same : (f g h : ℕ → Layout) (bound : ℕ) → Agree f g bound → (a : ℕ) (ts : List TyTree) → AreSized h bound ts → greatest_align f a ts ≡ greatest_align g a ts
greatest_same f g h bound same a [] is = refl
greatest_same f g h bound same a (t ∷ ts) is =
    ap (λ (l : Layout). greatest_align f (max a l.align) ts) (type_same f g h bound same t is.0)
    ∙ greatest_same f g h bound same (max a (type_layout g t).align) ts is.1

pub members_same : (f g h : ℕ → Layout) (bound : ℕ) → Agree f g bound → (ts : List TyTree) → AreSized h bound ts → members_layout f ts ≡ members_layout g ts
members_same f g h bound same ts is =
    let e = end_same f g h bound same 0 ts is in
    let a = greatest_same f g h bound same 1 ts is in
    ap (λ (n : ℕ). record { size = round_up n (greatest_align f 1 ts); align = greatest_align f 1 ts }) e
    ∙ ap (λ (n : ℕ). record { size = round_up (members_end g 0 ts) n; align = n }) a

-- ---- types that have sizes

and_left : (a b : Bool) → (a && b) ≡ true → a ≡ true
and_left true b h = refl
and_left false b h = h

and_right : (a b : Bool) → (a && b) ≡ true → b ≡ true
and_right true b h = h
and_right false b h = cc

some_elements : (count : ℕ) → not (nat_eq count 0) ≡ true → zero < count
some_elements zero h = cc
some_elements (suc n) h = omega arith

-- a complete type that is small enough has a size
pub has_size : (f : ℕ → Layout) (bound : ℕ) (t : TyTree) → is_complete bound t ≡ true → has_elements t ≡ true → (type_layout f t).size ≤ 67108864 → IsSized f bound t
has_size f bound VoidTy complete elements le = cc
has_size f bound (IntTy i) complete elements le = tt
has_size f bound (StructTy n) complete elements le = (ltb-true n bound complete, le)
has_size f bound (PtrTy t) complete elements le = tt
has_size f bound (ArrayTy t count) complete elements le =
    let some : zero < count = some_elements count (and_right (has_elements t) (not (nat_eq count 0)) elements) in
    let part : (type_layout f t).size ≤ (type_layout f t).size * count = le-mul_of_pos_right (type_layout f t).size some in
    (le, has_size f bound t complete (and_left (has_elements t) (not (nat_eq count 0)) elements) (omega arith))

integer_positive : (i : IntType) → 1 ≤ integer_size i
integer_positive Char = lit≤ tt
integer_positive Uchar = lit≤ tt
integer_positive Short = lit≤ tt
integer_positive Ushort = lit≤ tt
integer_positive Int = lit≤ tt
integer_positive Uint = lit≤ tt
integer_positive Long = lit≤ tt
integer_positive Ulong = lit≤ tt

type_align : (f : ℕ → Layout) → ((n : ℕ) → 1 ≤ (f n).align) → (t : TyTree) → 1 ≤ (type_layout f t).align
type_align f all VoidTy = lit≤ tt
type_align f all (IntTy i) = integer_positive i
type_align f all (StructTy n) = all n
type_align f all (PtrTy t) = lit≤ tt
type_align f all (ArrayTy t count) = type_align f all t

pub end_from : (f : ℕ → Layout) → ((n : ℕ) → 1 ≤ (f n).align) → (at : ℕ) (ts : List TyTree) → at ≤ members_end f at ts
end_from f all at [] = omega arith
end_from f all at (t ∷ ts) =
    let next : ℕ = round_up at (type_layout f t).align + (type_layout f t).size in
    let le : at ≤ round_up at (type_layout f t).align = round_from at (type_layout f t).align (type_align f all t) in
    let more : next ≤ members_end f next ts = end_from f all next ts in
    omega arith

-- each type is at most as large as its place in a struct leaves room
abbrev pub AreSmall : (ℕ → Layout) → List TyTree → Type 0
AreSmall f [] = Unit {0}
AreSmall f (t ∷ ts) = ((type_layout f t).size ≤ 67108864) × AreSmall f ts

members_small : (f : ℕ → Layout) → ((n : ℕ) → 1 ≤ (f n).align) → (at : ℕ) (ts : List TyTree) → members_end f at ts ≤ 67108864 → AreSmall f ts
members_small f all at [] le = tt
members_small f all at (t ∷ ts) le =
    let next : ℕ = round_up at (type_layout f t).align + (type_layout f t).size in
    let more : next ≤ members_end f next ts = end_from f all next ts in
    (omega arith, members_small f all next ts le)

-- the members of a struct that is small enough
pub struct_small : (f : ℕ → Layout) → ((n : ℕ) → 1 ≤ (f n).align) → (ts : List TyTree) → (members_layout f ts).size ≤ 67108864 → AreSmall f ts
struct_small f all ts le =
    let whole : members_end f 0 ts ≤ (members_layout f ts).size = round_from (members_end f 0 ts) (greatest_align f 1 ts) (greatest_from f 1 ts) in
    members_small f all 0 ts (omega arith)

-- ---- the layouts that the structs themselves give

-- a table that gives each struct the layout of its members, in which only earlier structs stand by value
pub record Describes (f : ℕ → Layout) (ss : List (List TyTree)) : Type 0 where
  pub laid : (n : ℕ) → n < length ss → f n ≡ members_layout f (get_or ss n [])
  pub held : (n : ℕ) → n < length ss → AreSized f n (get_or ss n [])

reached : (f : ℕ → Layout) (ss : List (List TyTree)) → Describes f ss → (k n : ℕ) → n < k → n < length ss → struct_layout ss k n ≡ f n
unfolding struct_layout
reached f ss is zero n less within = absurd (omega arith)
reached f ss is (suc k) n less within =
    members_same (struct_layout ss k) f f n (λ m below. reached f ss is k m (omega arith) (omega arith)) (get_or ss n []) (is.held n within)
    ∙ sym (is.laid n within)

pub table_is : (f : ℕ → Layout) (ss : List (List TyTree)) → Describes f ss → Agree f (known_layouts ss) (length ss)
table_is f ss is n less = sym (reached f ss is (length ss) n less less)

agree_below : (f g : ℕ → Layout) (m n : ℕ) → m ≤ n → Agree f g n → Agree f g m
agree_below f g m n le same k less = same k (omega arith)

pub structs_sized : (f : ℕ → Layout) (ss : List (List TyTree)) → Describes f ss → StructsAreSized ss
structs_sized f ss is n less =
    all_sized_same f (known_layouts ss) n (agree_below f (known_layouts ss) n (length ss) (omega arith) (table_is f ss is)) (get_or ss n []) (is.held n less)

-- ---- one more struct

module _ (ls : List Layout) (l : Layout) where
  pub known_before : (n : ℕ) → n < length ls → known (ls ++ l ∷ []) n ≡ known ls n
  known_before n less = get_or_append_left ls (l ∷ []) (record { size = 0; align = 1 }) n less

  pub known_last : (n : ℕ) → length ls ≡ n → known (ls ++ l ∷ []) n ≡ l
  known_last n is = get_or_push ls l (record { size = 0; align = 1 }) n is

  pub aligned_more : ((n : ℕ) → 1 ≤ (known ls n).align) → 1 ≤ l.align → (n : ℕ) → 1 ≤ (known (ls ++ l ∷ []) n).align
  aligned_more all le n = elim (cases_order n (length ls)) [
    | inl same ↦ rw (known_last n (sym same)) le
    | inr (inl less) ↦ rw (known_before n less) (all n)
    | inr (inr more) ↦ rw (get_or_past (ls ++ l ∷ []) n (record { size = 0; align = 1 }) (simp length-append (omega arith))) (lit≤ tt)
  ]

  module _ (tss : List (List TyTree)) (ts : List TyTree) (same : length ls ≡ length tss) (is : Describes (known ls) tss) (layout : l ≡ members_layout (known ls) ts) (sized : AreSized (known ls) (length tss) ts) where
    agree_before : (n : ℕ) → n ≤ length tss → Agree (known ls) (known (ls ++ l ∷ [])) n
    agree_before n le m less = sym (known_before m (omega arith))

    last_is : (n : ℕ) → length tss ≤ n → n < length (tss ++ ts ∷ []) → length tss ≡ n
    last_is n after less =
        let more : length (tss ++ ts ∷ []) ≡ length tss + 1 = length-append tss (ts ∷ []) in
        omega arith

    laid_more : (n : ℕ) → n < length (tss ++ ts ∷ []) → known (ls ++ l ∷ []) n ≡ members_layout (known (ls ++ l ∷ [])) (get_or (tss ++ ts ∷ []) n [])
    laid_more n less = elim (cases_lt n (length tss)) [
      | inl before ↦
          known_before n (omega arith) ∙ is.laid n before
          ∙ members_same (known ls) (known (ls ++ l ∷ [])) (known ls) n (agree_before n (omega arith)) (get_or tss n []) (is.held n before)
          ∙ ap (members_layout (known (ls ++ l ∷ []))) (sym (get_or_append_left tss (ts ∷ []) [] n before))
      | inr after ↦
          known_last n (same ∙ last_is n after less) ∙ layout
          ∙ members_same (known ls) (known (ls ++ l ∷ [])) (known ls) (length tss) (agree_before (length tss) (omega arith)) ts sized
          ∙ ap (members_layout (known (ls ++ l ∷ []))) (sym (get_or_push tss ts [] n (last_is n after less)))
    ]

    held_more : (n : ℕ) → n < length (tss ++ ts ∷ []) → AreSized (known (ls ++ l ∷ [])) n (get_or (tss ++ ts ∷ []) n [])
    held_more n less = elim (cases_lt n (length tss)) [
      | inl before ↦ rw (get_or_append_left tss (ts ∷ []) [] n before) (all_sized_same (known ls) (known (ls ++ l ∷ [])) n (agree_before n (omega arith)) (get_or tss n []) (is.held n before))
      | inr after ↦
          rw (get_or_push tss ts [] n (last_is n after less))
          (subst (λ m. AreSized (known (ls ++ l ∷ [])) m ts) (last_is n after less) (all_sized_same (known ls) (known (ls ++ l ∷ [])) (length tss) (agree_before (length tss) (omega arith)) ts sized))
    ]

    pub describes_more : Describes (known (ls ++ l ∷ [])) (tss ++ ts ∷ [])
    describes_more = record { laid = laid_more; held = held_more }
