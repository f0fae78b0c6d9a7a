-- The judgements of types, and the tests that decide them.
use Rattle.std.proofs.Common.{◌≡◌, ℕ, zero, suc, ◌≤◌, ◌&&◌, Bool, true, false, nat_eq, List, Option, Some, None, refl, ap, ◌∙◌, arith, Ok}
use Rattle.std.specs.Prelude.{not, is_some}
use Rattle.std.proofs.lemmas.Bool.{eqb-true, eq-eqb, ltb-true, lt-ltb, leb-true, le-leb, and_parts, and_from}
use Rattle.fx_c_ast.specs.declared.operator.IntType.{IntType}
use Rattle.fx_c_ast.specs.declared.operator.IntType.TheVariants.{Char, Uchar, Short, Ushort, Int, Uint, Long, Ulong}
use Rattle.fx_c_ast.specs.ParsedTrees.{TypeTree, VoidType, IntegerType, StructType, PointerType, ArrayType}
use Rattle.fx_c_ast.specs.CheckedTrees.{TyTree, VoidTy, IntTy, StructTy, PtrTy, ArrayTy}
use Rattle.fx_c_types_heads.specs.Names.{found}
use Rattle.fx_c_types_rules.specs.Types.{place, category, same_type, is_complete}
use Rattle.fx_c_types_rules.specs.Values.{is_scalar}
use Rattle.fx_c_types_heads.specs.Written.{ty_of, number_or, is_named, has_elements, is_object}
use Rattle.fx_c_ast.specs.Layout.{type_layout}
use Rattle.fx_c_types_heads.specs.Sizes.{known, is_small}
use Rattle.fx_c_types_heads.specs.Heads.{HeadsTree, object_type}
use Rattle.fx_c_types_rules_law.proofs.Ends.{Ends, answered, demand_ends, demand_ok}
use Rattle.fx_c_types_rules_law.specs.Types.{IsObjectType, IsScalar, integer_scalar, pointer_scalar, IsComplete, integer_complete, struct_complete, pointer_complete, array_complete, HasElements, void_elements, integer_elements, struct_elements, pointer_elements, array_elements, Means, void_means, integer_means, struct_means, pointer_means, array_means}

place_is : (i j : IntType) → nat_eq (place i) (place j) ≡ true → i ≡ j
place_is Char Char h = refl
place_is Uchar Uchar h = refl
place_is Short Short h = refl
place_is Ushort Ushort h = refl
place_is Int Int h = refl
place_is Uint Uint h = refl
place_is Long Long h = refl
place_is Ulong Ulong h = refl
place_is i j h = cc

pub same_is : (s t : TyTree) → same_type s t ≡ true → s ≡ t
same_is VoidTy VoidTy h = refl
same_is (IntTy i) (IntTy j) h = ap IntTy (place_is i j h)
same_is (StructTy m) (StructTy n) h = ap StructTy (eqb-true m n h)
same_is (PtrTy s) (PtrTy t) h = ap PtrTy (same_is s t h)
same_is (ArrayTy s m) (ArrayTy t n) h =
    let both = and_parts (same_type s t) (nat_eq m n) h in
    ap (λ x. ArrayTy x m) (same_is s t both.0) ∙ ap (λ x. ArrayTy t x) (eqb-true m n both.1)
same_is s t h = cc

pub same_self : (t : TyTree) → same_type t t ≡ true
same_self VoidTy = refl
same_self (IntTy i) = eq-eqb (place i) (place i) refl
same_self (StructTy n) = eq-eqb n n refl
same_self (PtrTy t) = same_self t
same_self (ArrayTy t n) = and_from (same_type t t) (nat_eq n n) (same_self t) (eq-eqb n n refl)

pub scalar_is : (t : TyTree) → is_scalar (category t) ≡ true → IsScalar t
scalar_is (IntTy i) h = integer_scalar
scalar_is (PtrTy t) h = pointer_scalar
scalar_is t h = absurd cc

pub scalar_holds : {t : TyTree} → IsScalar t → is_scalar (category t) ≡ true
scalar_holds integer_scalar = refl
scalar_holds pointer_scalar = refl

pub complete_is : (n : ℕ) (t : TyTree) → is_complete n t ≡ true → IsComplete n t
complete_is n (IntTy i) h = integer_complete
complete_is n (StructTy k) h = struct_complete (ltb-true k n h)
complete_is n (PtrTy t) h = pointer_complete
complete_is n (ArrayTy t count) h = array_complete (complete_is n t h)
complete_is n VoidTy h = absurd cc

pub complete_holds : {n : ℕ} {t : TyTree} → IsComplete n t → is_complete n t ≡ true
complete_holds integer_complete = refl
complete_holds (struct_complete {declared} {n} less) = lt-ltb n declared less
complete_holds pointer_complete = refl
complete_holds (array_complete c) = complete_holds c

some_elements : (n : ℕ) → not (nat_eq n 0) ≡ true → 1 ≤ n
some_elements zero h = absurd cc
some_elements (suc n) h = omega arith

no_zero : (n : ℕ) → 1 ≤ n → (b : Bool) → nat_eq n 0 ≡ b → not b ≡ true
no_zero n h true is = let zero_is : n ≡ 0 = eqb-true n 0 is in absurd (omega arith)
no_zero n h false is = refl

pub elements_is : (t : TyTree) → has_elements t ≡ true → HasElements t
elements_is VoidTy h = void_elements
elements_is (IntTy i) h = integer_elements
elements_is (StructTy n) h = struct_elements
elements_is (PtrTy t) h = pointer_elements
elements_is (ArrayTy t count) h =
    let both = and_parts (has_elements t) (not (nat_eq count 0)) h in
    array_elements (elements_is t both.0) (some_elements count both.1)

pub elements_holds : {t : TyTree} → HasElements t → has_elements t ≡ true
elements_holds void_elements = refl
elements_holds integer_elements = refl
elements_holds struct_elements = refl
elements_holds pointer_elements = refl
elements_holds (array_elements {t} {count} h more) = and_from (has_elements t) (not (nat_eq count 0)) (elements_holds h) (no_zero count more (nat_eq count 0) refl)

named_struct : (tags : List (List ℕ × ℕ)) (tag : List ℕ) (r : Option ℕ) → found tag tags ≡ r → is_some r ≡ true → Means tags (StructType tag) (StructTy (number_or 4294967295 r))
named_struct tags tag None is h = absurd cc
named_struct tags tag (Some n) is h = struct_means is

pub means_is : (tags : List (List ℕ × ℕ)) (t : TypeTree) → is_named tags t ≡ true → Means tags t (ty_of tags t)
means_is tags VoidType h = void_means
means_is tags (IntegerType i) h = integer_means
means_is tags (StructType tag) h = named_struct tags tag (found tag tags) refl h
means_is tags (PointerType t) h = pointer_means (means_is tags t h)
means_is tags (ArrayType t count) h = array_means (means_is tags t h)

pub means_named : {tags : List (List ℕ × ℕ)} {t : TypeTree} {u : TyTree} → Means tags t u → is_named tags t ≡ true
means_named void_means = refl
means_named integer_means = refl
means_named (struct_means is) = ap is_some is
means_named (pointer_means m) = means_named m
means_named (array_means m) = means_named m

pub means_type : {tags : List (List ℕ × ℕ)} {t : TypeTree} {u : TyTree} → Means tags t u → ty_of tags t ≡ u
means_type void_means = refl
means_type integer_means = refl
means_type (struct_means is) = ap (λ r. StructTy (number_or 4294967295 r)) is
means_type (pointer_means m) = ap PtrTy (means_type m)
means_type (array_means {tags} {t} {u} {count} m) = ap (λ x. ArrayTy x count) (means_type m)

-- ---- types of objects

pub object_is : (h : HeadsTree) (declared : ℕ) (t : TypeTree) → Ends (IsObjectType h.tags h.layouts declared t) (object_type h declared t)
object_is h declared t =
    demand_ends _ _ _ (λ object. demand_ends _ _ _ (λ small.
    let both = and_parts (is_named h.tags t && is_complete declared (ty_of h.tags t)) (has_elements (ty_of h.tags t)) object in
    let more = and_parts (is_named h.tags t) (is_complete declared (ty_of h.tags t)) both.0 in
    answered (record {
      means = means_is h.tags t more.0;
      complete = complete_is declared (ty_of h.tags t) more.1;
      elements = elements_is (ty_of h.tags t) both.1;
      small = leb-true (type_layout (known h.layouts) (ty_of h.tags t)).size 67108864 small;
    })))

pub object_there : (tags : List (List ℕ × ℕ)) (declared : ℕ) (t : TypeTree) (ty : TyTree) → Means tags t ty → IsComplete declared ty → HasElements ty → is_object tags declared t ≡ true
object_there tags declared t ty means complete elements =
    ap (λ u. (is_named tags t && is_complete declared u) && has_elements u) (means_type means)
    ∙ and_from (is_named tags t && is_complete declared ty) (has_elements ty) (and_from (is_named tags t) (is_complete declared ty) (means_named means) (complete_holds complete)) (elements_holds elements)

pub object_holds : (h : HeadsTree) (declared : ℕ) (t : TypeTree) (ty : TyTree) → IsObjectType h.tags h.layouts declared t ty → object_type h declared t ≡ Ok ty
object_holds h declared t ty is =
    demand_ok _ _ _ _ (object_there h.tags declared t ty is.means is.complete is.elements)
    (demand_ok _ _ _ _ (ap (is_small h.layouts) (means_type is.means) ∙ le-leb (type_layout (known h.layouts) ty).size 67108864 is.small) (ap Ok (means_type is.means)))
