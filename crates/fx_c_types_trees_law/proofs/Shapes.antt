-- Equal types, and kinds of types.
use Rattle.std.proofs.Common.{◌≡◌, ℕ, ◌<◌, ◌≤◌, true, false, nat_eq, refl, sym, ap, ◌∙◌, arith, subst, inl, inr}
use Rattle.std.proofs.lemmas.Bool.{eqb-true, eq-eqb, ltb-true, lt-ltb, and_parts, and_from}
use Rattle.fx_c_ast.specs.declared.operator.IntType.{IntType}
use Rattle.fx_c_ast.specs.declared.operator.IntType.TheVariants.{Char, Uchar, Short, Ushort, Int, Uint, Long, Ulong}
use Rattle.fx_c_ast.specs.declared.operator.Binop.{Binop}
use Rattle.fx_c_ast.specs.declared.operator.Binop.TheVariants.{Add, Sub, Shl, Shr, Lt, Gt, Le, Ge, Eq, Ne, Land, Lor}
use Rattle.fx_c_ast.specs.CheckedTrees.{TyTree, VoidTy, IntTy, StructTy, PtrTy, ArrayTy, TExprTree}
use Rattle.fx_c_types_rules.specs.Types.{place, category, same_type, is_complete, pointee}
use Rattle.fx_c_types_rules.specs.Values.{type_of, is_scalar, agreement}
use Rattle.fx_c_types_model.specs.Tables.{IsNamed}
use Rattle.fx_c_types_model.specs.Nodes.{IsInteger, IsScalar, IsAnswer, IsAssigned, IsElementPointer, Casts, Converts, FitsBinary}

place_is : (i j : IntType) → nat_eq (place i) (place j) ≡ true → i ≡ j
place_is Char Char h = refl
place_is Uchar Uchar h = refl
place_is Short Short h = refl
place_is Ushort Ushort h = refl
place_is Int Int h = refl
place_is Uint Uint h = refl
place_is Long Long h = refl
place_is Ulong Ulong h = refl
place_is i j h = cc

pub same_is : (s t : TyTree) → same_type s t ≡ true → s ≡ t
same_is VoidTy VoidTy h = refl
same_is (IntTy i) (IntTy j) h = ap IntTy (place_is i j h)
same_is (StructTy m) (StructTy n) h = ap StructTy (eqb-true m n h)
same_is (PtrTy s) (PtrTy t) h = ap PtrTy (same_is s t h)
same_is (ArrayTy s m) (ArrayTy t n) h =
    let both = and_parts (same_type s t) (nat_eq m n) h in
    ap (λ x. ArrayTy x m) (same_is s t both.0) ∙ ap (λ x. ArrayTy t x) (eqb-true m n both.1)
same_is s t h = cc

pub same_self : (t : TyTree) → same_type t t ≡ true
same_self VoidTy = refl
same_self (IntTy i) = eq-eqb (place i) (place i) refl
same_self (StructTy n) = eq-eqb n n refl
same_self (PtrTy t) = same_self t
same_self (ArrayTy t n) = and_from (same_type t t) (nat_eq n n) (same_self t) (eq-eqb n n refl)

pub complete_more : (m n : ℕ) → m ≤ n → (t : TyTree) → is_complete m t ≡ true → is_complete n t ≡ true
complete_more m n le VoidTy h = h
complete_more m n le (IntTy i) h = refl
complete_more m n le (StructTy k) h = let less : k < m = ltb-true k m h in lt-ltb k n (omega arith)
complete_more m n le (PtrTy t) h = refl
complete_more m n le (ArrayTy t count) h = complete_more m n le t h

pub pointee_named : (n : ℕ) (t : TyTree) → IsNamed n t → IsNamed n (pointee t)
pointee_named n VoidTy h = h
pointee_named n (IntTy i) h = h
pointee_named n (StructTy k) h = h
pointee_named n (PtrTy t) h = h
pointee_named n (ArrayTy t count) h = h

-- ---- a scalar is no struct and no array

abbrev pub IsAggregate : TyTree → Type 0
IsAggregate (StructTy n) = Unit {0}
IsAggregate (ArrayTy t count) = Unit {0}
IsAggregate t = ⊥

pub scalar_not : (t : TyTree) → IsScalar t → IsAggregate t → ⊥
scalar_not (IntTy i) h k = k
scalar_not (PtrTy t) h k = k
scalar_not t h k = h

pub answer_not : (t : TyTree) → IsAnswer t → IsAggregate t → ⊥
answer_not (IntTy i) h k = k
answer_not (PtrTy t) h k = k
answer_not VoidTy h k = k
answer_not t h k = h

pub integer_scalar : (t : TyTree) → IsInteger t → IsScalar t
integer_scalar (IntTy i) h = tt
integer_scalar t h = absurd h

element_scalar : (n : ℕ) (t : TyTree) → IsElementPointer n t → IsScalar t
element_scalar n (PtrTy t) h = tt
element_scalar n t h = absurd h

pub binary_scalar : (n : ℕ) (op : Binop) (ty a b : TyTree) → FitsBinary n op ty a b → IsScalar ty
binary_scalar n Add ty a b h = elim h [
  | inl x ↦ integer_scalar ty x.0
  | inr (inl x) ↦ subst IsScalar x.1 (element_scalar n a x.0)
  | inr (inr x) ↦ subst IsScalar x.1 (element_scalar n b x.0)
]
binary_scalar n Sub ty a b h = elim h [
  | inl x ↦ integer_scalar ty x.0
  | inr (inl x) ↦ subst IsScalar x.1 (element_scalar n a x.0)
  | inr (inr x) ↦ subst IsScalar (sym x.2) tt
]
binary_scalar n Shl ty a b h = integer_scalar ty h.0
binary_scalar n Shr ty a b h = integer_scalar ty h.0
binary_scalar n Lt ty a b h = subst IsScalar (sym h.0) tt
binary_scalar n Gt ty a b h = subst IsScalar (sym h.0) tt
binary_scalar n Le ty a b h = subst IsScalar (sym h.0) tt
binary_scalar n Ge ty a b h = subst IsScalar (sym h.0) tt
binary_scalar n Eq ty a b h = subst IsScalar (sym h.0) tt
binary_scalar n Ne ty a b h = subst IsScalar (sym h.0) tt
binary_scalar n Land ty a b h = subst IsScalar (sym h.0) tt
binary_scalar n Lor ty a b h = subst IsScalar (sym h.0) tt
binary_scalar n op ty a b h = integer_scalar ty h.0

pub cast_scalar : (s t : TyTree) → Casts s t → IsScalar s
cast_scalar (IntTy i) t h = tt
cast_scalar (PtrTy s) t h = tt
cast_scalar s t h = absurd h

pub converts_scalar : (s t : TyTree) (e : TExprTree) → Converts s t e → IsScalar s
converts_scalar (IntTy i) t e h = tt
converts_scalar (PtrTy s) t e h = tt
converts_scalar s t e h = absurd h

-- ---- what agrees can be converted

pub agree_converts : (t u : TyTree) (e : TExprTree) → type_of e ≡ u → agreement (category t) (category u) t e ≡ true → same_type u t ≡ false → Converts t u e
agree_converts (IntTy i) (IntTy j) e is h other = tt
agree_converts (PtrTy s) (PtrTy t) e is h other = tt
agree_converts (PtrTy s) (IntTy i) e is h other = h
agree_converts (StructTy m) (StructTy n) e is h other =
    let same : StructTy m ≡ StructTy n = same_is (StructTy m) (type_of e) h ∙ is in
    let yes : same_type (StructTy n) (StructTy m) ≡ true = subst (λ x. same_type (StructTy n) x ≡ true) (sym same) (same_self (StructTy n)) in
    absurd (cc)
agree_converts t u e is h other = cc

pub agree_scalar : (t u : TyTree) (e : TExprTree) → agreement (category t) (category u) t e ≡ true → is_scalar (category u) ≡ true → IsScalar t
agree_scalar (IntTy i) u e h k = tt
agree_scalar (PtrTy s) u e h k = tt
agree_scalar (StructTy m) (StructTy n) e h k = cc
agree_scalar t u e h k = cc

pub agree_assigned : (t u : TyTree) (e : TExprTree) → agreement (category t) (category u) t e ≡ true → IsAssigned t
agree_assigned (IntTy i) u e h = tt
agree_assigned (PtrTy s) u e h = tt
agree_assigned (StructTy n) u e h = tt
agree_assigned t u e h = cc
