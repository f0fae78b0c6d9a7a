-- Nodes that the rules give are right where their operands are.
use Rattle.std.proofs.Common.{◌≡◌, ℕ, ◌≤◌, Bool, true, false, ◌&&◌, if◌then◌else◌, length, slice_get, Option, Some, None, Ok, refl, sym, ap, ◌∙◌, subst, inl, inr}
use Rattle.std.proofs.lemmas.Bool.{and_parts}
use Rattle.fx_c_ast.specs.declared.operator.IntType.{IntType}
use Rattle.fx_c_ast.specs.declared.operator.IntType.TheVariants.{Int, Long}
use Rattle.fx_c_ast.specs.declared.operator.Unop.{Unop}
use Rattle.fx_c_ast.specs.declared.operator.Unop.TheVariants.{Neg, Not, Lnot, Deref, Addr}
use Rattle.fx_c_ast.specs.declared.operator.Binop.{Binop}
use Rattle.fx_c_ast.specs.declared.operator.Binop.TheVariants.{Add, Sub, Mul, Div, Rem, Shl, Shr, Lt, Gt, Le, Ge, Eq, Ne, And, Xor, Or, Land, Lor}
use Rattle.fx_c_ast.specs.CheckedTrees.{TyTree, VoidTy, IntTy, StructTy, PtrTy, ArrayTy, TExprTree, ENumber, ELiteral, EGlobal, ELocal, EUn, EBin, ECast, EConvert, ESize, EIndex, EMember, EArrow, ECall, EGate, EGetc, EPutc, EDevLoad, EDevStore, ESpawn, ESwitch, EMe, TExprTrees}
use Rattle.fx_c_types_rules.specs.declared.fault.TypeKind.TheVariants.{NotInteger, NotPointer, NotLvalue, Mismatch}
use Rattle.fx_c_types_rules.specs.Checks.{Checked, ◌>>=◌, refuse, demand}
use Rattle.fx_c_types_rules.specs.Types.{promoted, common, category, pointee, same_type, is_void, is_complete}
use Rattle.fx_c_types_rules.specs.Values.{type_of, is_zero, is_object, converted, decayed, value_of, integer_type, integer_of, tested, condition, as_long, pointers_agree, agrees, is_whole, assigned}
use Rattle.fx_c_types_rules.specs.Operators.{signed, negated, pointed, unary, arithmetic, shifted, logical, sum_of, difference_of, numbers_compared, compared_as, common_pointer, compared_of, binary_values, binary, cast_of, cast, element_of, element}
use Rattle.fx_c_types_model.specs.Tables.{Tables}
use Rattle.fx_c_types_model.specs.Nodes.{IsInteger, IsPointer, IsScalar, IsAnswer, IsAssigned, IsElementPointer, FitsUnary, Casts, Converts, IsArithmetic, IsShift, IsComparison, IsLogical, FitsBinary, Calls, Enters}
use Rattle.fx_c_types_model.specs.Trees.{IsType, IsTyped}
use Rattle.fx_c_types_law.proofs.Ends.{Ends, bind_ends, demand_ends}
use Rattle.fx_c_types_trees_law.proofs.Shapes.{same_is, complete_more, pointee_named, IsAggregate, scalar_not, answer_not, integer_scalar, binary_scalar, cast_scalar, converts_scalar, agree_converts, agree_assigned}

pub named : (g : Tables) (e : TExprTree) → IsTyped g e → IsType g (type_of e)
named g (ENumber ty value) h = h.0
named g (ELiteral ty n) h = h.0
named g (EGlobal ty n) h = h.0
named g (ELocal ty n) h = h.0
named g (EUn ty op e) h = h.0
named g (EBin ty op a b) h = h.0
named g (ECast ty e) h = h.0
named g (EConvert ty e) h = h.0
named g (ESize ty of) h = h.0
named g (EIndex ty a b) h = h.0
named g (EMember ty e n) h = h.0
named g (EArrow ty e n) h = h.0
named g (ECall ty f all) h = h.0
named g (EGate ty f all) h = h.0
named g (EGetc ty) h = h.0
named g (EPutc ty e) h = h.0
named g (EDevLoad ty device register) h = h.0
named g (EDevStore ty device register e) h = h.0
named g (ESpawn ty f e) h = h.0
named g (ESwitch ty e) h = h.0
named g (EMe ty) h = h.0

-- ---- a struct or an array is an object

is_not : (t u : TyTree) → t ≡ u → IsAnswer u → IsAggregate t → ⊥
is_not t u same answer whole = answer_not u answer (subst IsAggregate same whole)

unary_whole : (g : Tables) (op : Unop) (ty : TyTree) (e : TExprTree) → FitsUnary (length g.structs) op ty e → IsAggregate ty → is_object (EUn ty op e) ≡ true
unary_whole g Neg ty e h whole = absurd (scalar_not ty (integer_scalar ty h.0) whole)
unary_whole g Not ty e h whole = absurd (scalar_not ty (integer_scalar ty h.0) whole)
unary_whole g Lnot ty e h whole = absurd (is_not ty (IntTy Int) h.0 tt whole)
unary_whole g Deref ty e h whole = refl
unary_whole g Addr ty e h whole = absurd (is_not ty (PtrTy (type_of e)) h.0 tt whole)

call_answer : (library : ℕ) (f : Option _) (ty : TyTree) (all : TExprTrees) → Calls library f ty all → IsAnswer ty
call_answer library None ty all h = absurd h
call_answer library (Some f) ty all h = h.1

gate_answer : (f : Option _) (ty : TyTree) (all : TExprTrees) → Enters f ty all → IsAnswer ty
gate_answer None ty all h = absurd h
gate_answer (Some f) ty all h = h.1

pub whole_is_object : (g : Tables) (e : TExprTree) → IsTyped g e → IsAggregate (type_of e) → is_object e ≡ true
whole_is_object g (ENumber ty value) h whole = absurd (scalar_not ty (integer_scalar ty h.1) whole)
whole_is_object g (ELiteral ty n) h whole = refl
whole_is_object g (EGlobal ty n) h whole = refl
whole_is_object g (ELocal ty n) h whole = refl
whole_is_object g (EUn ty op e) h whole = unary_whole g op ty e h.1 whole
whole_is_object g (EBin ty op a b) h whole = absurd (scalar_not ty (binary_scalar (length g.structs) op ty (type_of a) (type_of b) h.1) whole)
whole_is_object g (ECast ty e) h whole = absurd (scalar_not ty (cast_scalar ty (type_of e) h.1) whole)
whole_is_object g (EConvert ty e) h whole = absurd (scalar_not ty (converts_scalar ty (type_of e) e h.1) whole)
whole_is_object g (ESize ty of) h whole = absurd (is_not ty _ h.1 tt whole)
whole_is_object g (EIndex ty a b) h whole = refl
whole_is_object g (EMember ty e n) h whole = h.2
whole_is_object g (EArrow ty e n) h whole = refl
whole_is_object g (ECall ty f all) h whole = absurd (answer_not ty (call_answer g.library (slice_get g.functions f) ty all h.1) whole)
whole_is_object g (EGate ty f all) h whole = absurd (answer_not ty (gate_answer (slice_get g.functions f) ty all h.1) whole)
whole_is_object g (EGetc ty) h whole = absurd (is_not ty (IntTy Long) h.1 tt whole)
whole_is_object g (EPutc ty e) h whole = absurd (is_not ty VoidTy h.1 tt whole)
whole_is_object g (EDevLoad ty device register) h whole = absurd (is_not ty (IntTy Long) h.1 tt whole)
whole_is_object g (EDevStore ty device register e) h whole = absurd (is_not ty VoidTy h.1 tt whole)
whole_is_object g (ESpawn ty f e) h whole = absurd (is_not ty (IntTy Long) h.1 tt whole)
whole_is_object g (ESwitch ty e) h whole = absurd (is_not ty VoidTy h.1 tt whole)
whole_is_object g (EMe ty) h whole = absurd (is_not ty (IntTy Long) h.1 tt whole)

-- ---- values and conversions

pub type_converted : (t : TyTree) (e : TExprTree) → type_of (converted t e) ≡ t
type_converted t e = pick (same_type (type_of e) t) refl
  where
    pick : (b : Bool) → same_type (type_of e) t ≡ b → type_of (if b then e else EConvert t e) ≡ t
    pick true same = same_is (type_of e) t same
    pick false same = refl

pub converted_typed : (g : Tables) (t : TyTree) (e : TExprTree) → IsType g t → (same_type (type_of e) t ≡ false → Converts t (type_of e) e) → IsTyped g e → IsTyped g (converted t e)
converted_typed g t e is conversion h = pick (same_type (type_of e) t) refl
  where
    pick : (b : Bool) → same_type (type_of e) t ≡ b → IsTyped g (if b then e else EConvert t e)
    pick true same = h
    pick false same = (is, conversion same, h)

decayed_typed : (g : Tables) (t : TyTree) (e : TExprTree) → type_of e ≡ t → IsTyped g e → IsTyped g (decayed t e)
decayed_typed g VoidTy e is h = h
decayed_typed g (IntTy i) e is h = h
decayed_typed g (StructTy n) e is h = h
decayed_typed g (PtrTy t) e is h = h
decayed_typed g (ArrayTy t count) e is h =
    let object : is_object e ≡ true = whole_is_object g e h (subst IsAggregate (sym is) tt) in
    (subst (λ x. IsType g x) is (named g e h), subst (λ x. Converts (PtrTy t) x e) (sym is) (refl, object), h)

pub value_typed : (g : Tables) (e : TExprTree) → IsTyped g e → IsTyped g (value_of e)
value_typed g e h = decayed_typed g (type_of e) e refl h

integer_is : (t : TyTree) → Ends (λ i. t ≡ IntTy i) (integer_type (category t))
integer_is VoidTy = tt
integer_is (IntTy i) = refl
integer_is (StructTy n) = tt
integer_is (PtrTy t) = tt
integer_is (ArrayTy t count) = tt

to_integer : (g : Tables) (i j : IntType) (e : TExprTree) → type_of e ≡ IntTy j → IsTyped g e → IsTyped g (converted (IntTy i) e)
to_integer g i j e is h = converted_typed g (IntTy i) e tt (λ other. subst (λ t. Converts (IntTy i) t e) (sym is) tt) h

-- a condition is an integer
abbrev pub IsTested : Tables → TExprTree → Type 0
IsTested g e = IsInteger (type_of e) × IsTyped g e

tested_typed : (g : Tables) (t : TyTree) (e : TExprTree) → type_of e ≡ t → IsTyped g e → Ends (IsTested g) (tested (category t) e)
tested_typed g VoidTy e is h = tt
tested_typed g (IntTy i) e is h = (subst IsInteger (sym is) tt, h)
tested_typed g (StructTy n) e is h = tt
tested_typed g (PtrTy t) e is h = (
  subst IsInteger (sym (type_converted (IntTy Int) e)) tt,
  converted_typed g (IntTy Int) e tt (λ other. subst (λ t. Converts (IntTy Int) t e) (sym is) refl) h,
)
tested_typed g (ArrayTy t count) e is h = tt

pub condition_typed : (g : Tables) (e : TExprTree) → IsTyped g e → Ends (IsTested g) (condition e)
condition_typed g e h = tested_typed g (type_of e) e refl h

abbrev pub IsLong : Tables → TExprTree → Type 0
IsLong g e = (type_of e ≡ IntTy Long) × IsTyped g e

pub long_typed : (g : Tables) (e : TExprTree) → IsTyped g e → Ends (IsLong g) (as_long e)
long_typed g e h =
    bind_ends (λ i. type_of e ≡ IntTy i) (IsLong g) (integer_of e) (λ i. Ok (converted (IntTy Long) e)) (integer_is (type_of e)) (λ i is.
    (type_converted (IntTy Long) e, to_integer g Long i e is h))

-- a value that agrees with a type
pub agreed : (g : Tables) (t : TyTree) (e : TExprTree) → IsType g t → agrees t e ≡ true → IsTyped g e → IsTyped g (converted t e)
agreed g t e is h has = converted_typed g t e is (λ other. agree_converts t (type_of e) e refl h other) has

-- a value that is assigned to an object
abbrev pub IsValueFor : Tables → TExprTree → TExprTree → Type 0
IsValueFor g to e = IsAssigned (type_of to) × (is_object to ≡ true) × (type_of e ≡ type_of to) × IsTyped g e

pub assigned_typed : (g : Tables) (to e : TExprTree) → IsType g (type_of to) → IsTyped g e → Ends (IsValueFor g to) (assigned to e)
assigned_typed g to e is h =
    let last : Checked TExprTree = Ok (converted (type_of to) e) in
    let fits : Checked TExprTree = demand (agrees (type_of to) e) Mismatch last in
    demand_ends (IsValueFor g to) _ NotInteger (demand (is_object to && is_whole (category (type_of to))) NotLvalue fits) (λ some.
    demand_ends (IsValueFor g to) (is_object to && is_whole (category (type_of to))) NotLvalue fits (λ object.
    demand_ends (IsValueFor g to) (agrees (type_of to) e) Mismatch last (λ agree. (
      agree_assigned (type_of to) (type_of e) e agree,
      (and_parts (is_object to) (is_whole (category (type_of to))) object).0,
      type_converted (type_of to) e,
      agreed g (type_of to) e is agree h,
    ))))

-- ---- operators

module _ (g : Tables) (declared : ℕ) (within : declared ≤ length g.structs) where
  signed_typed : (op : Unop) → ((ty : TyTree) (e : TExprTree) → IsInteger ty → type_of e ≡ ty → FitsUnary (length g.structs) op ty e) → (e : TExprTree) → IsTyped g e → Ends (IsTyped g) (signed op e)
  signed_typed op fits e h =
      bind_ends (λ i. type_of e ≡ IntTy i) (IsTyped g) (integer_of e) (λ i. Ok (EUn (IntTy (promoted i)) op (converted (IntTy (promoted i)) e))) (integer_is (type_of e)) (λ i is.
      (tt, fits (IntTy (promoted i)) (converted (IntTy (promoted i)) e) tt (type_converted (IntTy (promoted i)) e), to_integer g (promoted i) i e is h))

  negated_typed : (e : TExprTree) → IsTyped g e → Ends (IsTyped g) (negated e)
  negated_typed e h = bind_ends (IsTested g) (IsTyped g) (condition e) (λ e. Ok (EUn (IntTy Int) Lnot e)) (condition_typed g e h) (λ c is. (tt, (refl, is.0), is.1))

  points : (t u : TyTree) → t ≡ PtrTy u → t ≡ PtrTy (pointee t)
  points t u is = is ∙ ap (λ x. PtrTy (pointee x)) (sym is)

  pointed_typed : (t : TyTree) (e : TExprTree) → type_of e ≡ t → IsTyped g e → Ends (IsTyped g) (pointed declared (category t) e)
  pointed_typed VoidTy e is h = tt
  pointed_typed (IntTy i) e is h = tt
  pointed_typed (StructTy k) e is h = tt
  pointed_typed (PtrTy t) e is h =
      demand_ends (IsTyped g) (is_complete declared (pointee (type_of e))) NotPointer (Ok (EUn (pointee (type_of e)) Deref e)) (λ complete. (
        pointee_named (length g.structs) (type_of e) (named g e h),
        (points (type_of e) t is, complete_more declared (length g.structs) within (pointee (type_of e)) complete),
        h,
      ))
  pointed_typed (ArrayTy t count) e is h = tt

  pub unary_typed : (op : Unop) (e : TExprTree) → IsTyped g e → Ends (IsTyped g) (unary declared op e)
  unary_typed Neg e h = signed_typed Neg (λ ty e is same. (is, same)) (value_of e) (value_typed g e h)
  unary_typed Not e h = signed_typed Not (λ ty e is same. (is, same)) (value_of e) (value_typed g e h)
  unary_typed Lnot e h = negated_typed (value_of e) (value_typed g e h)
  unary_typed Deref e h = pointed_typed (type_of (value_of e)) (value_of e) refl (value_typed g e h)
  unary_typed Addr e h = demand_ends (IsTyped g) (is_object e) NotLvalue (Ok (EUn (PtrTy (type_of e)) Addr e)) (λ object. (named g e h, (refl, object), h))

  -- ---- two operands

  arithmetic_typed : (op : Binop) → ((ty a b : TyTree) → IsArithmetic ty a b → FitsBinary (length g.structs) op ty a b) → (a b : TExprTree) → IsTyped g a → IsTyped g b → Ends (IsTyped g) (arithmetic op a b)
  arithmetic_typed op fits a b h k =
      bind_ends (λ i. type_of a ≡ IntTy i) (IsTyped g) (integer_of a) (λ i. integer_of b >>= (λ j. Ok (EBin (IntTy (common i j)) op (converted (IntTy (common i j)) a) (converted (IntTy (common i j)) b)))) (integer_is (type_of a)) (λ i is.
      bind_ends (λ j. type_of b ≡ IntTy j) (IsTyped g) (integer_of b) (λ j. Ok (EBin (IntTy (common i j)) op (converted (IntTy (common i j)) a) (converted (IntTy (common i j)) b))) (integer_is (type_of b)) (λ j js.
      let t : TyTree = IntTy (common i j) in
      (tt, fits t (type_of (converted t a)) (type_of (converted t b)) (tt, type_converted t a, type_converted t b), to_integer g (common i j) i a is h, to_integer g (common i j) j b js k)))

  shifted_typed : (op : Binop) → ((ty a b : TyTree) → IsShift ty a b → FitsBinary (length g.structs) op ty a b) → (a b : TExprTree) → IsTyped g a → IsTyped g b → Ends (IsTyped g) (shifted op a b)
  shifted_typed op fits a b h k =
      bind_ends (λ i. type_of a ≡ IntTy i) (IsTyped g) (integer_of a) (λ i. integer_of b >>= (λ j. Ok (EBin (IntTy (promoted i)) op (converted (IntTy (promoted i)) a) (converted (IntTy (promoted j)) b)))) (integer_is (type_of a)) (λ i is.
      bind_ends (λ j. type_of b ≡ IntTy j) (IsTyped g) (integer_of b) (λ j. Ok (EBin (IntTy (promoted i)) op (converted (IntTy (promoted i)) a) (converted (IntTy (promoted j)) b))) (integer_is (type_of b)) (λ j js.
      let t : TyTree = IntTy (promoted i) in
      let u : TyTree = IntTy (promoted j) in
      (tt, fits t (type_of (converted t a)) (type_of (converted u b)) (tt, type_converted t a, subst IsInteger (sym (type_converted u b)) tt), to_integer g (promoted i) i a is h, to_integer g (promoted j) j b js k)))

  logical_typed : (op : Binop) → ((ty a b : TyTree) → IsLogical ty a b → FitsBinary (length g.structs) op ty a b) → (a b : TExprTree) → IsTyped g a → IsTyped g b → Ends (IsTyped g) (logical op a b)
  logical_typed op fits a b h k =
      bind_ends (IsTested g) (IsTyped g) (condition a) (λ a. condition b >>= (λ b. Ok (EBin (IntTy Int) op a b))) (condition_typed g a h) (λ c is.
      bind_ends (IsTested g) (IsTyped g) (condition b) (λ b. Ok (EBin (IntTy Int) op c b)) (condition_typed g b k) (λ d js.
      (tt, fits (IntTy Int) (type_of c) (type_of d) (refl, is.0, js.0), is.1, js.1)))

  elements : (t u : TyTree) → t ≡ PtrTy u → is_complete declared (pointee t) ≡ true → IsElementPointer (length g.structs) t
  elements t u is complete =
      let here : is_complete declared u ≡ true = subst (λ x. is_complete declared (pointee x) ≡ true) is complete in
      subst (IsElementPointer (length g.structs)) (sym is) (complete_more declared (length g.structs) within u here)

  sum_typed : (s t : TyTree) (a b : TExprTree) → type_of a ≡ s → type_of b ≡ t → IsTyped g a → IsTyped g b → Ends (IsTyped g) (sum_of declared (category s) (category t) a b)
  sum_typed (PtrTy u) (IntTy j) a b is js h k =
      demand_ends (IsTyped g) (is_complete declared (pointee (type_of a))) NotPointer (Ok (EBin (type_of a) Add a b)) (λ complete.
      (named g a h, inr (inl (elements (type_of a) u is complete, refl, subst IsInteger (sym js) tt)), h, k))
  sum_typed (IntTy i) (PtrTy u) a b is js h k =
      demand_ends (IsTyped g) (is_complete declared (pointee (type_of b))) NotPointer (Ok (EBin (type_of b) Add a b)) (λ complete.
      (named g b k, inr (inr (elements (type_of b) u js complete, refl, subst IsInteger (sym is) tt)), h, k))
  sum_typed s t a b is js h k = arithmetic_typed Add (λ ty a b x. inl x) a b h k

  difference_typed : (s t : TyTree) (a b : TExprTree) → type_of a ≡ s → type_of b ≡ t → IsTyped g a → IsTyped g b → Ends (IsTyped g) (difference_of declared (category s) (category t) a b)
  difference_typed (PtrTy u) (IntTy j) a b is js h k =
      demand_ends (IsTyped g) (is_complete declared (pointee (type_of a))) NotPointer (Ok (EBin (type_of a) Sub a b)) (λ complete.
      (named g a h, inr (inl (elements (type_of a) u is complete, refl, subst IsInteger (sym js) tt)), h, k))
  difference_typed (PtrTy u) (PtrTy v) a b is js h k =
      let last : Checked TExprTree = Ok (EBin (IntTy Long) Sub a b) in
      demand_ends (IsTyped g) (is_complete declared (pointee (type_of a)) && is_complete declared (pointee (type_of b))) NotPointer (demand (same_type (type_of a) (type_of b)) Mismatch last) (λ complete.
      demand_ends (IsTyped g) (same_type (type_of a) (type_of b)) Mismatch last (λ same.
      (tt, inr (inr (elements (type_of a) u is (and_parts (is_complete declared (pointee (type_of a))) (is_complete declared (pointee (type_of b))) complete).0, same_is (type_of a) (type_of b) same, refl)), h, k)))
  difference_typed s t a b is js h k = arithmetic_typed Sub (λ ty a b x. inl x) a b h k

  numbers_typed : (op : Binop) → ((ty a b : TyTree) → IsComparison ty a b → FitsBinary (length g.structs) op ty a b) → (a b : TExprTree) → IsTyped g a → IsTyped g b → Ends (IsTyped g) (numbers_compared op a b)
  numbers_typed op fits a b h k =
      bind_ends (λ i. type_of a ≡ IntTy i) (IsTyped g) (integer_of a) (λ i. integer_of b >>= (λ j. Ok (EBin (IntTy Int) op (converted (IntTy (common i j)) a) (converted (IntTy (common i j)) b)))) (integer_is (type_of a)) (λ i is.
      bind_ends (λ j. type_of b ≡ IntTy j) (IsTyped g) (integer_of b) (λ j. Ok (EBin (IntTy Int) op (converted (IntTy (common i j)) a) (converted (IntTy (common i j)) b))) (integer_is (type_of b)) (λ j js.
      let t : TyTree = IntTy (common i j) in
      let same : type_of (converted t a) ≡ type_of (converted t b) = type_converted t a ∙ sym (type_converted t b) in
      (tt, fits (IntTy Int) (type_of (converted t a)) (type_of (converted t b)) (refl, same, subst IsScalar (sym (type_converted t a)) tt), to_integer g (common i j) i a is h, to_integer g (common i j) j b js k)))

  -- two values as one pointer type
  pointers_typed : (op : Binop) → ((ty a b : TyTree) → IsComparison ty a b → FitsBinary (length g.structs) op ty a b) → (u : TyTree) (a b : TExprTree) → IsPointer u → IsTyped g (converted u a) → IsTyped g (converted u b) → IsTyped g (compared_as op u a b)
  pointers_typed op fits u a b pointer h k =
      let same : type_of (converted u a) ≡ type_of (converted u b) = type_converted u a ∙ sym (type_converted u b) in
      (tt, fits (IntTy Int) (type_of (converted u a)) (type_of (converted u b)) (refl, same, subst IsScalar (sym (type_converted u a)) (pointer_scalar u pointer)), h, k)
    where
      pointer_scalar : (t : TyTree) → IsPointer t → IsScalar t
      pointer_scalar (PtrTy t) h = tt
      pointer_scalar t h = absurd h

  pointer_from : (u v : TyTree) (e : TExprTree) → IsPointer u → type_of e ≡ PtrTy v → Converts u (type_of e) e
  pointer_from (PtrTy w) v e pointer is = subst (λ t. Converts (PtrTy w) t e) (sym is) tt
  pointer_from u v e pointer is = absurd pointer

  zero_from : (u : TyTree) (i : IntType) (e : TExprTree) → IsPointer u → type_of e ≡ IntTy i → is_zero e ≡ true → Converts u (type_of e) e
  zero_from (PtrTy w) i e pointer is none = subst (λ t. Converts (PtrTy w) t e) (sym is) none
  zero_from u i e pointer is none = absurd pointer

  compared_typed : (op : Binop) → ((ty a b : TyTree) → IsComparison ty a b → FitsBinary (length g.structs) op ty a b) → (s t : TyTree) (a b : TExprTree) → type_of a ≡ s → type_of b ≡ t → IsTyped g a → IsTyped g b → Ends (IsTyped g) (compared_of op (category s) (category t) a b)
  compared_typed op fits (PtrTy u) (PtrTy v) a b is js h k =
      let w : TyTree = common_pointer (type_of a) (type_of b) in
      let is_a : IsPointer (type_of a) = subst IsPointer (sym is) tt in
      let is_b : IsPointer (type_of b) = subst IsPointer (sym js) tt in
      let which : IsPointer w × IsType g w = elim (is_void (pointee (type_of b))) as (λ c. IsPointer (if c then type_of b else type_of a) × IsType g (if c then type_of b else type_of a)) [ true ↦ (is_b, named g b k) | false ↦ (is_a, named g a h) ] in
      demand_ends (IsTyped g) (pointers_agree (type_of a) (type_of b)) Mismatch (Ok (compared_as op w a b)) (λ agree.
      pointers_typed op fits w a b which.0
      (converted_typed g w a which.1 (λ other. pointer_from w u a which.0 is) h)
      (converted_typed g w b which.1 (λ other. pointer_from w v b which.0 js) k))
  compared_typed op fits (PtrTy u) (IntTy j) a b is js h k =
      let pointer : IsPointer (type_of a) = subst IsPointer (sym is) tt in
      demand_ends (IsTyped g) (is_zero b) Mismatch (Ok (compared_as op (type_of a) a b)) (λ none.
      pointers_typed op fits (type_of a) a b pointer
      (converted_typed g (type_of a) a (named g a h) (λ other. pointer_from (type_of a) u a pointer is) h)
      (converted_typed g (type_of a) b (named g a h) (λ other. zero_from (type_of a) j b pointer js none) k))
  compared_typed op fits (IntTy i) (PtrTy v) a b is js h k =
      let pointer : IsPointer (type_of b) = subst IsPointer (sym js) tt in
      demand_ends (IsTyped g) (is_zero a) Mismatch (Ok (compared_as op (type_of b) a b)) (λ none.
      pointers_typed op fits (type_of b) a b pointer
      (converted_typed g (type_of b) a (named g b k) (λ other. zero_from (type_of b) i a pointer is none) h)
      (converted_typed g (type_of b) b (named g b k) (λ other. pointer_from (type_of b) v b pointer js) k))
  compared_typed op fits s t a b is js h k = numbers_typed op fits a b h k

  values_typed : (op : Binop) (a b : TExprTree) → IsTyped g a → IsTyped g b → Ends (IsTyped g) (binary_values declared op a b)
  values_typed Add a b h k = sum_typed (type_of a) (type_of b) a b refl refl h k
  values_typed Sub a b h k = difference_typed (type_of a) (type_of b) a b refl refl h k
  values_typed Mul a b h k = arithmetic_typed Mul (λ ty a b x. x) a b h k
  values_typed Div a b h k = arithmetic_typed Div (λ ty a b x. x) a b h k
  values_typed Rem a b h k = arithmetic_typed Rem (λ ty a b x. x) a b h k
  values_typed Shl a b h k = shifted_typed Shl (λ ty a b x. x) a b h k
  values_typed Shr a b h k = shifted_typed Shr (λ ty a b x. x) a b h k
  values_typed Lt a b h k = compared_typed Lt (λ ty a b x. x) (type_of a) (type_of b) a b refl refl h k
  values_typed Gt a b h k = compared_typed Gt (λ ty a b x. x) (type_of a) (type_of b) a b refl refl h k
  values_typed Le a b h k = compared_typed Le (λ ty a b x. x) (type_of a) (type_of b) a b refl refl h k
  values_typed Ge a b h k = compared_typed Ge (λ ty a b x. x) (type_of a) (type_of b) a b refl refl h k
  values_typed Eq a b h k = compared_typed Eq (λ ty a b x. x) (type_of a) (type_of b) a b refl refl h k
  values_typed Ne a b h k = compared_typed Ne (λ ty a b x. x) (type_of a) (type_of b) a b refl refl h k
  values_typed And a b h k = arithmetic_typed And (λ ty a b x. x) a b h k
  values_typed Xor a b h k = arithmetic_typed Xor (λ ty a b x. x) a b h k
  values_typed Or a b h k = arithmetic_typed Or (λ ty a b x. x) a b h k
  values_typed Land a b h k = logical_typed Land (λ ty a b x. x) a b h k
  values_typed Lor a b h k = logical_typed Lor (λ ty a b x. x) a b h k

  pub binary_typed : (op : Binop) (a b : TExprTree) → IsTyped g a → IsTyped g b → Ends (IsTyped g) (binary declared op a b)
  binary_typed op a b h k = values_typed op (value_of a) (value_of b) (value_typed g a h) (value_typed g b k)

  -- ---- casts and elements

  cast_from : (t u : TyTree) (e : TExprTree) → type_of e ≡ u → IsType g t → IsTyped g e → Ends (IsTyped g) (cast_of (category t) (category u) t e)
  cast_from (IntTy i) (IntTy j) e is type h = (type, subst (Casts (IntTy i)) (sym is) tt, h)
  cast_from (PtrTy s) (PtrTy t) e is type h = (type, subst (Casts (PtrTy s)) (sym is) tt, h)
  cast_from t u e is type h = tt

  pub cast_typed : (t : TyTree) (e : TExprTree) → IsType g t → IsTyped g e → Ends (IsTyped g) (cast t e)
  cast_typed t e type h = cast_from t (type_of e) e refl type h

  element_from : (t : TyTree) (a b : TExprTree) → type_of a ≡ t → IsTyped g a → IsTyped g b → Ends (IsTyped g) (element_of declared (category t) a b)
  element_from VoidTy a b is h k = tt
  element_from (IntTy i) a b is h k = bind_ends (λ j. type_of b ≡ IntTy j) (IsTyped g) (integer_of b) (λ j. refuse NotPointer) (integer_is (type_of b)) (λ j js. tt)
  element_from (StructTy m) a b is h k = tt
  element_from (PtrTy t) a b is h k =
      bind_ends (λ j. type_of b ≡ IntTy j) (IsTyped g) (integer_of b) (λ j. demand (is_complete declared (pointee (type_of a))) NotPointer (Ok (EIndex (pointee (type_of a)) a b))) (integer_is (type_of b)) (λ j js.
      demand_ends (IsTyped g) (is_complete declared (pointee (type_of a))) NotPointer (Ok (EIndex (pointee (type_of a)) a b)) (λ complete. (
        pointee_named (length g.structs) (type_of a) (named g a h),
        points (type_of a) t is,
        complete_more declared (length g.structs) within (pointee (type_of a)) complete,
        subst IsInteger (sym js) tt,
        h,
        k,
      )))
  element_from (ArrayTy t count) a b is h k = tt

  pub element_typed : (a b : TExprTree) → IsTyped g a → IsTyped g b → Ends (IsTyped g) (element declared a b)
  element_typed a b h k = element_from (type_of a) a b refl h k
