-- The judgements of values and conversions, and the definitions that decide them.
use Rattle.std.proofs.Common.{◌≡◌, ◌≢◌, ℕ, ◌||◌, Bool, true, false, nat_eq, refl, sym, ap, ◌∙◌, subst, Ok}
use Rattle.std.specs.Prelude.{not, if◌then◌else◌}
use Rattle.std.proofs.lemmas.Bool.{eqb-true, and_parts}
use Rattle.fx_c_ast.specs.declared.operator.IntType.{IntType}
use Rattle.fx_c_ast.specs.declared.operator.IntType.TheVariants.{Int}
use Rattle.fx_c_ast.specs.declared.operator.Unop.TheVariants.{Deref}
use Rattle.fx_c_ast.specs.CheckedTrees.{TyTree, VoidTy, IntTy, StructTy, PtrTy, ArrayTy, TExprTree, ENumber, ELiteral, EGlobal, ELocal, EUn, EConvert, EIndex, EMember, EArrow}
use Rattle.fx_c_types_rules.specs.Types.{category, same_type, is_void}
use Rattle.fx_c_types_rules.specs.declared.category.Category.TheVariants.{Structure, Pointer}
use Rattle.fx_c_types_rules.specs.Values.{type_of, is_zero, is_object, converted, decayed, value_of, integer_type, integer_of, tested, condition, pointers_agree, agreement, agrees, is_whole, assigned}
use Rattle.fx_c_types_rules.specs.Operators.{common_pointer}
use Rattle.fx_c_types_rules_law.specs.Types.{IsNoArray, void_itself, integer_itself, struct_itself, pointer_itself}
use Rattle.fx_c_types_rules_law.specs.Values.{IsLvalue, string_lvalue, global_lvalue, local_lvalue, target_lvalue, element_lvalue, member_lvalue, arrow_lvalue, HasValue, array_value, own_value, Converts, unconverted, converted_to, IsNull, zero_is_null, HaveCommonPointer, same_pointers, with_void, from_void, IsAssignable, assigns_integer, assigns_pointer, assigns_null, assigns_struct, IsAssigned, assigned_value, IsTested, tested_integer, tested_pointer}
use Rattle.fx_c_types_rules_law.proofs.Ends.{Ends, answered, refused, demand_ends}
use Rattle.fx_c_types_rules_law.proofs.TypeRules.{same_is, same_self}

pub lvalue_is : (e : TExprTree) → is_object e ≡ true → IsLvalue e
lvalue_is (ELiteral ty n) h = string_lvalue
lvalue_is (EGlobal ty n) h = global_lvalue
lvalue_is (ELocal ty n) h = local_lvalue
lvalue_is (EUn ty Deref e) h = target_lvalue
lvalue_is (EIndex ty a b) h = element_lvalue
lvalue_is (EMember ty e n) h = member_lvalue (lvalue_is e h)
lvalue_is (EArrow ty e n) h = arrow_lvalue
lvalue_is e h = absurd cc

pub lvalue_holds : {e : TExprTree} → IsLvalue e → is_object e ≡ true
lvalue_holds string_lvalue = refl
lvalue_holds global_lvalue = refl
lvalue_holds local_lvalue = refl
lvalue_holds target_lvalue = refl
lvalue_holds element_lvalue = refl
lvalue_holds (member_lvalue h) = lvalue_holds h
lvalue_holds arrow_lvalue = refl

value_at : (t : TyTree) (e : TExprTree) → type_of e ≡ t → HasValue e (decayed t e)
value_at VoidTy e h = own_value (subst IsNoArray (sym h) void_itself)
value_at (IntTy i) e h = own_value (subst IsNoArray (sym h) integer_itself)
value_at (StructTy n) e h = own_value (subst IsNoArray (sym h) struct_itself)
value_at (PtrTy t) e h = own_value (subst IsNoArray (sym h) pointer_itself)
value_at (ArrayTy t count) e h = array_value h

pub value_is : (e : TExprTree) → HasValue e (value_of e)
value_is e = value_at (type_of e) e refl

no_decay : {t : TyTree} (e : TExprTree) → IsNoArray t → decayed t e ≡ e
no_decay e void_itself = refl
no_decay e integer_itself = refl
no_decay e struct_itself = refl
no_decay e pointer_itself = refl

pub value_holds : {e v : TExprTree} → HasValue e v → value_of e ≡ v
value_holds (array_value {e} {t} {count} h) = ap (λ u. decayed u e) h
value_holds (own_value {e} h) = no_decay e h

converts_at : (t : TyTree) (e : TExprTree) (b : Bool) → same_type (type_of e) t ≡ b → Converts t e (if b then e else EConvert t e)
converts_at t e true h = unconverted (same_is (type_of e) t h)
converts_at t e false h = converted_to (λ same. let yes : same_type (type_of e) t ≡ true = subst (λ u. same_type (type_of e) u ≡ true) same (same_self (type_of e)) in absurd cc)

pub converts_is : (t : TyTree) (e : TExprTree) → Converts t e (converted t e)
converts_is t e = converts_at t e (same_type (type_of e) t) refl

not_same : (s t : TyTree) → s ≢ t → (b : Bool) → same_type s t ≡ b → b ≡ false
not_same s t other true h = absurd (other (same_is s t h))
not_same s t other false h = refl

pub converts_holds : {t : TyTree} {e v : TExprTree} → Converts t e v → converted t e ≡ v
converts_holds (unconverted {t} {e} h) = ap (λ b. if b then e else EConvert t e) (subst (λ u. same_type (type_of e) u ≡ true) h (same_self (type_of e)))
converts_holds (converted_to {t} {e} other) = ap (λ b. if b then e else EConvert t e) (not_same (type_of e) t other (same_type (type_of e) t) refl)

null_number : (ty : TyTree) (n : ℕ) → nat_eq n 0 ≡ true → IsNull (ENumber ty n)
null_number ty n h = subst (λ m. IsNull (ENumber ty m)) (sym (eqb-true n 0 h)) zero_is_null

pub null_is : (e : TExprTree) → is_zero e ≡ true → IsNull e
null_is (ENumber ty n) h = null_number ty n h
null_is e h = absurd cc

pub null_holds : {e : TExprTree} → IsNull e → is_zero e ≡ true
null_holds zero_is_null = refl

-- ---- pointers that agree

same_common : (s t : TyTree) → s ≡ t → HaveCommonPointer (PtrTy s) (PtrTy t) (PtrTy s)
same_common s t h = subst (λ u. HaveCommonPointer (PtrTy s) (PtrTy u) (PtrTy s)) h same_pointers

or_false : (a b : Bool) → b ≡ false → (a || b) ≡ true → a ≡ true
or_false true b h k = refl
or_false false b h k = cc

neither : (s t : TyTree) → ((same_type s t || false) || false) ≡ true → s ≡ t
neither s t h = same_is s t (or_false (same_type s t) false refl (or_false (same_type s t || false) false refl h))

pub common_is : (s t : TyTree) → pointers_agree (PtrTy s) (PtrTy t) ≡ true → HaveCommonPointer (PtrTy s) (PtrTy t) (common_pointer (PtrTy s) (PtrTy t))
common_is s VoidTy h = with_void
common_is VoidTy (IntTy i) h = from_void
common_is VoidTy (StructTy i) h = from_void
common_is VoidTy (PtrTy i) h = from_void
common_is VoidTy (ArrayTy i n) h = from_void
common_is s t h = same_common s t (neither s t h)

or_true : (a : Bool) → (a || true) ≡ true
or_true true = refl
or_true false = refl

same_or : (a b c : Bool) → a ≡ true → ((a || b) || c) ≡ true
same_or true b c h = refl
same_or false b c h = cc

second_or : (a b c : Bool) → b ≡ true → ((a || b) || c) ≡ true
second_or true b c h = refl
second_or false true c h = refl
second_or false false c h = cc

pub common_agrees : {s t u : TyTree} → HaveCommonPointer s t u → pointers_agree s t ≡ true
common_agrees (same_pointers {t}) = same_or (same_type t t) (is_void t) (is_void t) (same_self t)
common_agrees (with_void {t}) = or_true (same_type t VoidTy || is_void t)
common_agrees (from_void {t}) = second_or (same_type VoidTy t) true (is_void t) refl

void_same : (t : TyTree) (b : Bool) → is_void t ≡ b → (if b then PtrTy t else PtrTy VoidTy) ≡ PtrTy VoidTy
void_same VoidTy b h = elim b as (λ b. (if b then PtrTy VoidTy else PtrTy VoidTy) ≡ PtrTy VoidTy) [ true ↦ refl | false ↦ refl ]
void_same t true h = cc
void_same t false h = refl

either_same : (b : Bool) (t : TyTree) → (if b then t else t) ≡ t
either_same true t = refl
either_same false t = refl

pub common_holds : {s t u : TyTree} → HaveCommonPointer s t u → common_pointer s t ≡ u
common_holds (same_pointers {t}) = either_same (is_void t) (PtrTy t)
common_holds with_void = refl
common_holds (from_void {t}) = void_same t (is_void t) refl

-- ---- what is assigned

assignable_at : (t u : TyTree) (e : TExprTree) → type_of e ≡ u → agreement (category t) (category u) t e ≡ true → IsAssignable t e
assignable_at (IntTy i) (IntTy j) e is h = assigns_integer is
assignable_at (PtrTy t) (PtrTy u) e is h = assigns_pointer is (common_is t u (subst (λ x. pointers_agree (PtrTy t) x ≡ true) is h))
assignable_at (PtrTy t) (IntTy j) e is h = assigns_null is (null_is e h)
assignable_at (StructTy m) (StructTy n) e is h =
    subst (λ t. IsAssignable t e) (sym (same_is (StructTy m) (type_of e) h ∙ is)) (assigns_struct is)
assignable_at t u e is h = absurd cc

pub assignable_is : (t : TyTree) (e : TExprTree) → agrees t e ≡ true → IsAssignable t e
assignable_is t e h = assignable_at t (type_of e) e refl h

pub assignable_holds : {t : TyTree} {e : TExprTree} → IsAssignable t e → agrees t e ≡ true
assignable_holds (assigns_integer {i} {j} {e} is) = rw is refl
assignable_holds (assigns_pointer {t} {u} {v} {e} is c) = ap (λ x. agreement Pointer (category x) (PtrTy t) e) is ∙ ap (λ x. pointers_agree (PtrTy t) x) is ∙ common_agrees c
assignable_holds (assigns_null {t} {j} {e} is null) = rw is (null_holds null)
assignable_holds (assigns_struct {n} {e} is) = ap (λ x. agreement Structure (category x) (StructTy n) e) is ∙ ap (λ x. same_type (StructTy n) x) is ∙ same_self (StructTy n)

assignable_value : {t : TyTree} {e : TExprTree} → IsAssignable t e → not (is_void (type_of e)) ≡ true
assignable_value (assigns_integer is) = ap (λ u. not (is_void u)) is
assignable_value (assigns_pointer is c) = ap (λ u. not (is_void u)) is
assignable_value (assigns_null is null) = ap (λ u. not (is_void u)) is
assignable_value (assigns_struct is) = ap (λ u. not (is_void u)) is

whole_is : (t : TyTree) → is_whole (category t) ≡ true → IsNoArray t
whole_is VoidTy h = void_itself
whole_is (IntTy i) h = integer_itself
whole_is (StructTy n) h = struct_itself
whole_is (PtrTy t) h = pointer_itself
whole_is (ArrayTy t n) h = absurd cc

whole_holds : {t : TyTree} → IsNoArray t → is_whole (category t) ≡ true
whole_holds void_itself = refl
whole_holds integer_itself = refl
whole_holds struct_itself = refl
whole_holds pointer_itself = refl

pub assigned_is : (to e : TExprTree) → Ends (IsAssigned to e) (assigned to e)
assigned_is to e =
    demand_ends _ _ _ (λ value.
    demand_ends _ _ _ (λ object.
    let both = and_parts (is_object to) (is_whole (category (type_of to))) object in
    demand_ends _ _ _ (λ agree.
    answered (assigned_value (lvalue_is to both.0) (whole_is (type_of to) both.1) (assignable_is (type_of to) e agree) (converts_is (type_of to) e)))))

pub assigned_holds : {to e v : TExprTree} → IsAssigned to e v → assigned to e ≡ Ok v
assigned_holds (assigned_value {to} {e} {v} object whole agree c) =
    rw (assignable_value agree, lvalue_holds object, whole_holds whole, assignable_holds agree, converts_holds c) refl

-- ---- integers, and what is tested

integer_at : (t : TyTree) (e : TExprTree) → type_of e ≡ t → Ends (λ i. type_of e ≡ IntTy i) (integer_type (category t))
integer_at (IntTy i) e is = answered is
integer_at t e is = refused

pub integer_is : (e : TExprTree) → Ends (λ i. type_of e ≡ IntTy i) (integer_of e)
integer_is e = integer_at (type_of e) e refl

pub integer_holds : (e : TExprTree) (i : IntType) → type_of e ≡ IntTy i → integer_of e ≡ Ok i
integer_holds e i is = ap (λ t. integer_type (category t)) is

pointer_converted : (e : TExprTree) (t : TyTree) → type_of e ≡ PtrTy t → converted (IntTy Int) e ≡ EConvert (IntTy Int) e
pointer_converted e t is = rw is refl

tested_at : (t : TyTree) (e : TExprTree) → type_of e ≡ t → Ends (IsTested e) (tested (category t) e)
tested_at (IntTy i) e is = answered (tested_integer is)
tested_at (PtrTy t) e is = answered (subst (IsTested e) (sym (pointer_converted e t is)) (tested_pointer is))
tested_at t e is = refused

pub tested_is : (e : TExprTree) → Ends (IsTested e) (condition e)
tested_is e = tested_at (type_of e) e refl

pub tested_holds : {e v : TExprTree} → IsTested e v → condition e ≡ Ok v
tested_holds (tested_integer {e} {i} is) = rw is refl
tested_holds (tested_pointer {e} {t} is) = ap (λ x. tested (category x) e) is ∙ ap Ok (pointer_converted e t is)
