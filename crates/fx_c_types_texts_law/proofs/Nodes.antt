-- Nodes that the rules give are good where their operands are: by any property of types that the rules keep.
use Rattle.std.proofs.Common.{◌≡◌, ℕ, zero, suc, ◌+◌, ◌<◌, Bool, true, false, ◌&&◌, nat_eq, nat_lt, if◌then◌else◌, List, [], ◌∷◌, slice_get, Option, Some, None, Result, Ok, Err, refl}
use Rattle.std.specs.Prelude.{bytes_eq}
use Rattle.std.proofs.lemmas.Bool.{and_parts}
use Rattle.fx_c_ast.specs.declared.operator.IntType.{IntType}
use Rattle.fx_c_ast.specs.declared.operator.IntType.TheVariants.{Char, Int, Long}
use Rattle.fx_c_ast.specs.declared.operator.Unop.{Unop}
use Rattle.fx_c_ast.specs.declared.operator.Unop.TheVariants.{Neg, Not, Lnot, Deref, Addr}
use Rattle.fx_c_ast.specs.declared.operator.Binop.{Binop}
use Rattle.fx_c_ast.specs.declared.operator.Binop.TheVariants.{Add, Sub, Mul, Div, Rem, Shl, Shr, Lt, Gt, Le, Ge, Eq, Ne, And, Xor, Or, Land, Lor}
use Rattle.fx_c_ast.specs.CheckedTrees.{TyTree, VoidTy, IntTy, StructTy, PtrTy, ArrayTy, TExprTree, ENumber, ELiteral, EGlobal, ELocal, EUn, EBin, ECast, EConvert, ESize, EIndex, EMember, EArrow, ECall, EGate, EGetc, EPutc, EDevLoad, EDevStore, ESpawn, ESwitch, EMe, TExprTrees, NoTExprs, MoreTExprs}
use Rattle.fx_c_types_rules.specs.declared.category.Category.{Category}
use Rattle.fx_c_types_rules.specs.declared.category.Category.TheVariants.{Nothing, Integer, Structure, Pointer, Array}
use Rattle.fx_c_types_rules.specs.declared.category.ArrowTarget.{ArrowTarget}
use Rattle.fx_c_types_rules.specs.declared.category.ArrowTarget.TheVariants as target
use Rattle.fx_c_types_rules.specs.declared.fault.TypeKind.TheVariants.{NotInteger, NotPointer, NotLvalue, Mismatch, Arguments, CrossCall, NotEntry}
use Rattle.fx_c_types_rules.specs.Checks.{Checked, ◌>>=◌, refuse, demand}
use Rattle.fx_c_types_rules.specs.Types.{promoted, common, category, pointee, same_type, is_void, is_complete}
use Rattle.fx_c_types_rules.specs.Values.{type_of, is_zero, is_object, converted, decayed, value_of, integer_of, is_scalar, tested, condition, as_long, pointers_agree, agrees, is_whole, assigned}
use Rattle.fx_c_types_rules.specs.Operators.{signed, negated, pointed, address, unary, arithmetic, shifted, logical, sum_of, distance, difference_of, numbers_compared, compared_as, common_pointer, compared_of, compared, binary_values, binary, cast_of, cast, element_of, element}
use Rattle.fx_c_types_rules.specs.Structs as plain
use Rattle.fx_c_types_rules.specs.Structs.{member_at, members_of, struct_members, member_node, member_in, member, arrow_node, arrow_target, arrow_to, arrow}
use Rattle.fx_c_types_rules.specs.Locals.{LocalTree}
use Rattle.fx_c_types_rules.specs.Calls.{are_scalars, are_passed, passed, arguments, joined, putc, device_store, switch}
use Rattle.fx_c_types_heads.specs.Heads.{HeadsTree, GlobalHead, FunctionHead}
use Rattle.fx_c_types_bodies.specs.Bodies.{BodyTree, type_or_void, global_or_void, global_node, variable_node, variable, local_named, function_named, CalleeTree, numbered, head_numbered, callee, call, gate, is_long, are_one_long, first_value, spawn}
use Rattle.fx_c_types_law.proofs.Ends.{Ends, bind_ends, demand_ends}
use Rattle.fx_c_types_model.specs.Each.{Each, EachOfAll}
use Rattle.fx_c_types_model.specs.Fits.{IsDeviceRegister, DeviceFits, Behind, Elements}

-- a node whose type is T, which counts elements of types that are E alone, and whose device is there
abbrev pub Good : (TyTree → Type 0) → (TyTree → Type 0) → TExprTree → Type 0
Good T E e = T (type_of e) × Elements E e × DeviceFits e

-- what the rules make of types that are T is T
pub record AreClosed (T : TyTree → Type 0) : Type 0 where
  pub number : (i : IntType) → T (IntTy i)
  pub nothing : T VoidTy
  pub address : (t : TyTree) → T t → T (PtrTy t)
  pub behind : (t : TyTree) → T (PtrTy t) → T t
  pub item : (t : TyTree) (count : ℕ) → T (ArrayTy t count) → T t
  pub text : (n : ℕ) → n < 67108864 → T (ArrayTy (IntTy Char) (n + 1))

-- ---- tables whose types are T

abbrev pub AllLocals : (TyTree → Type 0) → List LocalTree → Type 0
AllLocals T [] = Unit {0}
AllLocals T (l ∷ ls) = T l.ty × AllLocals T ls

abbrev pub AllGlobals : (TyTree → Type 0) → List GlobalHead → Type 0
AllGlobals T [] = Unit {0}
AllGlobals T (g ∷ gs) = T g.ty × AllGlobals T gs

abbrev pub AllMembers : (TyTree → Type 0) → List plain.MemberTree → Type 0
AllMembers T [] = Unit {0}
AllMembers T (m ∷ ms) = T m.ty × AllMembers T ms

abbrev pub AllStructs : (TyTree → Type 0) → List plain.StructTree → Type 0
AllStructs T [] = Unit {0}
AllStructs T (s ∷ ss) = AllMembers T s.members × AllStructs T ss

abbrev pub AllFunctions : (TyTree → Type 0) → List FunctionHead → Type 0
AllFunctions T [] = Unit {0}
AllFunctions T (f ∷ fs) = (T f.answer × AllLocals T f.params) × AllFunctions T fs

-- ---- any answer

pub any : {A F : Type 0} (r : Result A F) → Ends (λ (x : A). Unit {0}) r
any (Ok x) = tt
any (Err e) = tt

-- ---- the node itself

pub at_root : (P : TExprTree → Type 0) (e : TExprTree) → Each P e → P e
at_root P (ENumber ty value) h = h
at_root P (ELiteral ty n) h = h
at_root P (EGlobal ty n) h = h
at_root P (ELocal ty n) h = h
at_root P (EUn ty op e) h = h.0
at_root P (EBin ty op a b) h = h.0
at_root P (ECast ty e) h = h.0
at_root P (EConvert ty e) h = h.0
at_root P (ESize ty of) h = h
at_root P (EIndex ty a b) h = h.0
at_root P (EMember ty e n) h = h.0
at_root P (EArrow ty e n) h = h.0
at_root P (ECall ty f all) h = h.0
at_root P (EGate ty f all) h = h.0
at_root P (EGetc ty) h = h
at_root P (EPutc ty e) h = h.0
at_root P (EDevLoad ty device register) h = h
at_root P (EDevStore ty device register e) h = h.0
at_root P (ESpawn ty f e) h = h.0
at_root P (ESwitch ty e) h = h.0
at_root P (EMe ty) h = h

-- ---- no pointer

flat : (E : TyTree → Type 0) (t : TyTree) (i : IntType) → same_type t (IntTy i) ≡ true → Behind E t
flat E VoidTy i h = tt
flat E (IntTy j) i h = tt
flat E (StructTy n) i h = tt
flat E (PtrTy t) i h = absurd cc
flat E (ArrayTy t count) i h = tt

integer_flat : (E : TyTree → Type 0) (t : TyTree) (j : IntType) → category t ≡ Integer j → Behind E t
integer_flat E VoidTy j h = tt
integer_flat E (IntTy i) j h = tt
integer_flat E (StructTy n) j h = tt
integer_flat E (PtrTy t) j h = absurd cc
integer_flat E (ArrayTy t count) j h = tt

converted_flat : (E : TyTree → Type 0) (i : IntType) (e : TExprTree) → Behind E (type_of (converted (IntTy i) e))
converted_flat E i e = pick (same_type (type_of e) (IntTy i)) refl
  where
    pick : (b : Bool) → same_type (type_of e) (IntTy i) ≡ b → Behind E (type_of (if b then e else EConvert (IntTy i) e))
    pick true same = flat E (type_of e) i same
    pick false same = tt

elements : (E : TyTree → Type 0) (op : Binop) (ty : TyTree) (a b : TExprTree) → Behind E (type_of a) → Behind E (type_of b) → Elements E (EBin ty op a b)
elements E Add ty a b h k = (h, k)
elements E Sub ty a b h k = h
elements E op ty a b h k = tt

module _ (T E : TyTree → Type 0) (closed : AreClosed T) where
  abbrev G : TExprTree → Type 0
  G e = Each (Good T E) e

  pub type_good : (e : TExprTree) → Each (Good T E) e → T (type_of e)
  type_good e h = (at_root (Good T E) e h).0

  pub pointee_good : (t : TyTree) → T t → T (pointee t)
  pointee_good VoidTy h = h
  pointee_good (IntTy i) h = h
  pointee_good (StructTy n) h = h
  pointee_good (PtrTy t) h = closed.behind t h
  pointee_good (ArrayTy t count) h = h

  -- ---- values and conversions

  pub converted_good : (t : TyTree) (e : TExprTree) → T t → Each (Good T E) e → Each (Good T E) (converted t e)
  converted_good t e is h = pick (same_type (type_of e) t)
    where
      pick : (b : Bool) → Each (Good T E) (if b then e else EConvert t e)
      pick true = h
      pick false = ((is, tt, tt), h)

  decayed_good : (t : TyTree) (e : TExprTree) → T t → Each (Good T E) e → Each (Good T E) (decayed t e)
  decayed_good VoidTy e is h = h
  decayed_good (IntTy i) e is h = h
  decayed_good (StructTy n) e is h = h
  decayed_good (PtrTy t) e is h = h
  decayed_good (ArrayTy t count) e is h = ((closed.address t (closed.item t count is), tt, tt), h)

  pub value_good : (e : TExprTree) → Each (Good T E) e → Each (Good T E) (value_of e)
  value_good e h = decayed_good (type_of e) e (type_good e h) h

  tested_good : (c : Category) (e : TExprTree) → Each (Good T E) e → Ends (Each (Good T E)) (tested c e)
  tested_good Nothing e h = tt
  tested_good (Integer i) e h = h
  tested_good Structure e h = tt
  tested_good Pointer e h = converted_good (IntTy Int) e (closed.number Int) h
  tested_good Array e h = tt

  pub condition_good : (e : TExprTree) → Each (Good T E) e → Ends (Each (Good T E)) (condition e)
  condition_good e h = tested_good (category (type_of e)) e h

  pub long_good : (e : TExprTree) → Each (Good T E) e → Ends (Each (Good T E)) (as_long e)
  long_good e h = bind_ends (λ (i : IntType). Unit {0}) G (integer_of e) (λ i. Ok (converted (IntTy Long) e)) (any (integer_of e)) (λ i _. converted_good (IntTy Long) e (closed.number Long) h)

  pub assigned_good : (to e : TExprTree) → T (type_of to) → Each (Good T E) e → Ends (Each (Good T E)) (assigned to e)
  assigned_good to e is h =
      let last : Checked TExprTree = Ok (converted (type_of to) e) in
      demand_ends G _ NotInteger (demand (is_object to && is_whole (category (type_of to))) NotLvalue (demand (agrees (type_of to) e) Mismatch last)) (λ _.
      demand_ends G (is_object to && is_whole (category (type_of to))) NotLvalue (demand (agrees (type_of to) e) Mismatch last) (λ _.
      demand_ends G (agrees (type_of to) e) Mismatch last (λ _. converted_good (type_of to) e is h)))

  -- ---- one operand

  signed_good : (op : Unop) (e : TExprTree) → Each (Good T E) e → Ends (Each (Good T E)) (signed op e)
  signed_good op e h =
      bind_ends (λ (i : IntType). Unit {0}) G (integer_of e) (λ i. Ok (EUn (IntTy (promoted i)) op (converted (IntTy (promoted i)) e))) (any (integer_of e)) (λ i _.
      ((closed.number (promoted i), tt, tt), converted_good (IntTy (promoted i)) e (closed.number (promoted i)) h))

  negated_good : (e : TExprTree) → Each (Good T E) e → Ends (Each (Good T E)) (negated e)
  negated_good e h = bind_ends G G (condition e) (λ e. Ok (EUn (IntTy Int) Lnot e)) (condition_good e h) (λ x k. ((closed.number Int, tt, tt), k))

  pointed_good : (declared : ℕ) (c : Category) (e : TExprTree) → Each (Good T E) e → Ends (Each (Good T E)) (pointed declared c e)
  pointed_good declared Nothing e h = tt
  pointed_good declared (Integer i) e h = tt
  pointed_good declared Structure e h = tt
  pointed_good declared Pointer e h =
      demand_ends G (is_complete declared (pointee (type_of e))) NotPointer (Ok (EUn (pointee (type_of e)) Deref e)) (λ _. ((pointee_good (type_of e) (type_good e h), tt, tt), h))
  pointed_good declared Array e h = tt

  address_good : (e : TExprTree) → Each (Good T E) e → Ends (Each (Good T E)) (address e)
  address_good e h = demand_ends G (is_object e) NotLvalue (Ok (EUn (PtrTy (type_of e)) Addr e)) (λ _. ((closed.address (type_of e) (type_good e h), tt, tt), h))

  pub unary_good : (declared : ℕ) (op : Unop) (e : TExprTree) → Each (Good T E) e → Ends (Each (Good T E)) (unary declared op e)
  unary_good declared Neg e h = signed_good Neg (value_of e) (value_good e h)
  unary_good declared Not e h = signed_good Not (value_of e) (value_good e h)
  unary_good declared Lnot e h = negated_good (value_of e) (value_good e h)
  unary_good declared Deref e h = pointed_good declared (category (type_of (value_of e))) (value_of e) (value_good e h)
  unary_good declared Addr e h = address_good e h

  -- ---- two operands

  arithmetic_good : (op : Binop) (a b : TExprTree) → Each (Good T E) a → Each (Good T E) b → Ends (Each (Good T E)) (arithmetic op a b)
  arithmetic_good op a b h k =
      let build : IntType → IntType → TExprTree = λ i j. EBin (IntTy (common i j)) op (converted (IntTy (common i j)) a) (converted (IntTy (common i j)) b) in
      bind_ends (λ (i : IntType). Unit {0}) G (integer_of a) (λ i. integer_of b >>= (λ j. Ok (build i j))) (any (integer_of a)) (λ i _.
      bind_ends (λ (j : IntType). Unit {0}) G (integer_of b) (λ j. Ok (build i j)) (any (integer_of b)) (λ j _.
      let c : IntType = common i j in (
        (closed.number c, elements E op (IntTy c) (converted (IntTy c) a) (converted (IntTy c) b) (converted_flat E c a) (converted_flat E c b), tt),
        converted_good (IntTy c) a (closed.number c) h,
        converted_good (IntTy c) b (closed.number c) k,
      )))

  shifted_good : (op : Binop) (a b : TExprTree) → ((ty : TyTree) (x y : TExprTree) → Elements E (EBin ty op x y)) → Each (Good T E) a → Each (Good T E) b → Ends (Each (Good T E)) (shifted op a b)
  shifted_good op a b plain h k =
      let build : IntType → IntType → TExprTree = λ i j. EBin (IntTy (promoted i)) op (converted (IntTy (promoted i)) a) (converted (IntTy (promoted j)) b) in
      bind_ends (λ (i : IntType). Unit {0}) G (integer_of a) (λ i. integer_of b >>= (λ j. Ok (build i j))) (any (integer_of a)) (λ i _.
      bind_ends (λ (j : IntType). Unit {0}) G (integer_of b) (λ j. Ok (build i j)) (any (integer_of b)) (λ j _. (
        (closed.number (promoted i), plain (IntTy (promoted i)) (converted (IntTy (promoted i)) a) (converted (IntTy (promoted j)) b), tt),
        converted_good (IntTy (promoted i)) a (closed.number (promoted i)) h,
        converted_good (IntTy (promoted j)) b (closed.number (promoted j)) k,
      )))

  logical_good : (op : Binop) (a b : TExprTree) → ((ty : TyTree) (x y : TExprTree) → Elements E (EBin ty op x y)) → Each (Good T E) a → Each (Good T E) b → Ends (Each (Good T E)) (logical op a b)
  logical_good op a b plain h k =
      bind_ends G G (condition a) (λ a. condition b >>= (λ b. Ok (EBin (IntTy Int) op a b))) (condition_good a h) (λ x p.
      bind_ends G G (condition b) (λ b. Ok (EBin (IntTy Int) op x b)) (condition_good b k) (λ y q. ((closed.number Int, plain (IntTy Int) x y, tt), p, q)))

  numbers_good : (op : Binop) (a b : TExprTree) → ((ty : TyTree) (x y : TExprTree) → Elements E (EBin ty op x y)) → Each (Good T E) a → Each (Good T E) b → Ends (Each (Good T E)) (numbers_compared op a b)
  numbers_good op a b plain h k =
      let build : IntType → IntType → TExprTree = λ i j. EBin (IntTy Int) op (converted (IntTy (common i j)) a) (converted (IntTy (common i j)) b) in
      bind_ends (λ (i : IntType). Unit {0}) G (integer_of a) (λ i. integer_of b >>= (λ j. Ok (build i j))) (any (integer_of a)) (λ i _.
      bind_ends (λ (j : IntType). Unit {0}) G (integer_of b) (λ j. Ok (build i j)) (any (integer_of b)) (λ j _.
      let c : IntType = common i j in (
        (closed.number Int, plain (IntTy Int) (converted (IntTy c) a) (converted (IntTy c) b), tt),
        converted_good (IntTy c) a (closed.number c) h,
        converted_good (IntTy c) b (closed.number c) k,
      )))

  compared_as_good : (op : Binop) (t : TyTree) (a b : TExprTree) → ((ty : TyTree) (x y : TExprTree) → Elements E (EBin ty op x y)) → T t → Each (Good T E) a → Each (Good T E) b → Each (Good T E) (compared_as op t a b)
  compared_as_good op t a b plain is h k = ((closed.number Int, plain (IntTy Int) (converted t a) (converted t b), tt), converted_good t a is h, converted_good t b is k)

  common_good : (s t : TyTree) → T s → T t → T (common_pointer s t)
  common_good s t h k = pick (is_void (pointee t))
    where
      pick : (b : Bool) → T (if b then t else s)
      pick true = k
      pick false = h

  compared_of_good : (op : Binop) (c d : Category) (a b : TExprTree) → ((ty : TyTree) (x y : TExprTree) → Elements E (EBin ty op x y)) → Each (Good T E) a → Each (Good T E) b → Ends (Each (Good T E)) (compared_of op c d a b)
  compared_of_good op Pointer Pointer a b plain h k =
      demand_ends G (pointers_agree (type_of a) (type_of b)) Mismatch (Ok (compared_as op (common_pointer (type_of a) (type_of b)) a b)) (λ _.
      compared_as_good op (common_pointer (type_of a) (type_of b)) a b plain (common_good (type_of a) (type_of b) (type_good a h) (type_good b k)) h k)
  compared_of_good op Pointer (Integer j) a b plain h k = demand_ends G (is_zero b) Mismatch (Ok (compared_as op (type_of a) a b)) (λ _. compared_as_good op (type_of a) a b plain (type_good a h) h k)
  compared_of_good op (Integer i) Pointer a b plain h k = demand_ends G (is_zero a) Mismatch (Ok (compared_as op (type_of b) a b)) (λ _. compared_as_good op (type_of b) a b plain (type_good b k) h k)
  compared_of_good op c d a b plain h k = numbers_good op a b plain h k

  compared_good : (op : Binop) (a b : TExprTree) → ((ty : TyTree) (x y : TExprTree) → Elements E (EBin ty op x y)) → Each (Good T E) a → Each (Good T E) b → Ends (Each (Good T E)) (compared op a b)
  compared_good op a b plain h k = compared_of_good op (category (type_of a)) (category (type_of b)) a b plain h k

  -- ---- elements, where so many structs are complete

  module _ (declared : ℕ) (has_size : (t : TyTree) → T t → is_complete declared t ≡ true → E t) where
    behind_good : (t : TyTree) → T t → is_complete declared (pointee t) ≡ true → Behind E t
    behind_good VoidTy is whole = tt
    behind_good (IntTy i) is whole = tt
    behind_good (StructTy n) is whole = tt
    behind_good (PtrTy t) is whole = has_size t (closed.behind t is) whole
    behind_good (ArrayTy t count) is whole = tt

    sum_good : (c d : Category) (a b : TExprTree) → category (type_of a) ≡ c → category (type_of b) ≡ d → Each (Good T E) a → Each (Good T E) b → Ends (Each (Good T E)) (sum_of declared c d a b)
    sum_good Pointer (Integer j) a b p q h k =
        demand_ends G (is_complete declared (pointee (type_of a))) NotPointer (Ok (EBin (type_of a) Add a b)) (λ whole.
        ((type_good a h, (behind_good (type_of a) (type_good a h) whole, integer_flat E (type_of b) j q), tt), h, k))
    sum_good (Integer i) Pointer a b p q h k =
        demand_ends G (is_complete declared (pointee (type_of b))) NotPointer (Ok (EBin (type_of b) Add a b)) (λ whole.
        ((type_good b k, (integer_flat E (type_of a) i p, behind_good (type_of b) (type_good b k) whole), tt), h, k))
    sum_good c d a b p q h k = arithmetic_good Add a b h k

    distance_good : (a b : TExprTree) → Each (Good T E) a → Each (Good T E) b → Ends (Each (Good T E)) (distance declared a b)
    distance_good a b h k =
        let whole_a : Bool = is_complete declared (pointee (type_of a)) in
        let whole_b : Bool = is_complete declared (pointee (type_of b)) in
        let last : Checked TExprTree = Ok (EBin (IntTy Long) Sub a b) in
        demand_ends G (whole_a && whole_b) NotPointer (demand (same_type (type_of a) (type_of b)) Mismatch last) (λ whole.
        demand_ends G (same_type (type_of a) (type_of b)) Mismatch last (λ _.
        ((closed.number Long, behind_good (type_of a) (type_good a h) (and_parts whole_a whole_b whole).0, tt), h, k)))

    difference_good : (c d : Category) (a b : TExprTree) → Each (Good T E) a → Each (Good T E) b → Ends (Each (Good T E)) (difference_of declared c d a b)
    difference_good Pointer (Integer j) a b h k =
        demand_ends G (is_complete declared (pointee (type_of a))) NotPointer (Ok (EBin (type_of a) Sub a b)) (λ whole.
        ((type_good a h, behind_good (type_of a) (type_good a h) whole, tt), h, k))
    difference_good Pointer Pointer a b h k = distance_good a b h k
    difference_good c d a b h k = arithmetic_good Sub a b h k

    values_good : (op : Binop) (a b : TExprTree) → Each (Good T E) a → Each (Good T E) b → Ends (Each (Good T E)) (binary_values declared op a b)
    values_good Add a b h k = sum_good (category (type_of a)) (category (type_of b)) a b refl refl h k
    values_good Sub a b h k = difference_good (category (type_of a)) (category (type_of b)) a b h k
    values_good Mul a b h k = arithmetic_good Mul a b h k
    values_good Div a b h k = arithmetic_good Div a b h k
    values_good Rem a b h k = arithmetic_good Rem a b h k
    values_good Shl a b h k = shifted_good Shl a b (λ ty x y. tt) h k
    values_good Shr a b h k = shifted_good Shr a b (λ ty x y. tt) h k
    values_good Lt a b h k = compared_good Lt a b (λ ty x y. tt) h k
    values_good Gt a b h k = compared_good Gt a b (λ ty x y. tt) h k
    values_good Le a b h k = compared_good Le a b (λ ty x y. tt) h k
    values_good Ge a b h k = compared_good Ge a b (λ ty x y. tt) h k
    values_good Eq a b h k = compared_good Eq a b (λ ty x y. tt) h k
    values_good Ne a b h k = compared_good Ne a b (λ ty x y. tt) h k
    values_good And a b h k = arithmetic_good And a b h k
    values_good Xor a b h k = arithmetic_good Xor a b h k
    values_good Or a b h k = arithmetic_good Or a b h k
    values_good Land a b h k = logical_good Land a b (λ ty x y. tt) h k
    values_good Lor a b h k = logical_good Lor a b (λ ty x y. tt) h k

    pub binary_good : (op : Binop) (a b : TExprTree) → Each (Good T E) a → Each (Good T E) b → Ends (Each (Good T E)) (binary declared op a b)
    binary_good op a b h k = values_good op (value_of a) (value_of b) (value_good a h) (value_good b k)

    element_of_good : (c : Category) (a b : TExprTree) → Each (Good T E) a → Each (Good T E) b → Ends (Each (Good T E)) (element_of declared c a b)
    element_of_good Nothing a b h k = tt
    element_of_good (Integer i) a b h k = bind_ends (λ (j : IntType). Unit {0}) G (integer_of b) (λ j. refuse NotPointer) (any (integer_of b)) (λ j _. tt)
    element_of_good Structure a b h k = tt
    element_of_good Pointer a b h k =
        let made : TExprTree = EIndex (pointee (type_of a)) a b in
        let is : T (pointee (type_of a)) = pointee_good (type_of a) (type_good a h) in
        bind_ends (λ (j : IntType). Unit {0}) G (integer_of b) (λ j. demand (is_complete declared (pointee (type_of a))) NotPointer (Ok made)) (any (integer_of b)) (λ j _.
        demand_ends G (is_complete declared (pointee (type_of a))) NotPointer (Ok made) (λ whole. ((is, has_size (pointee (type_of a)) is whole, tt), h, k)))
    element_of_good Array a b h k = tt

    pub element_good : (a b : TExprTree) → Each (Good T E) a → Each (Good T E) b → Ends (Each (Good T E)) (element declared a b)
    element_good a b h k = element_of_good (category (type_of a)) a b h k

  -- ---- casts

  cast_of_good : (c d : Category) (t : TyTree) (e : TExprTree) → T t → Each (Good T E) e → Ends (Each (Good T E)) (cast_of c d t e)
  cast_of_good (Integer i) (Integer j) t e is h = ((is, tt, tt), h)
  cast_of_good Pointer Pointer t e is h = ((is, tt, tt), h)
  cast_of_good (Integer i) Pointer t e is h = tt
  cast_of_good Pointer (Integer j) t e is h = tt
  cast_of_good c d t e is h = tt

  pub cast_good : (t : TyTree) (e : TExprTree) → T t → Each (Good T E) e → Ends (Each (Good T E)) (cast t e)
  cast_good t e is h = cast_of_good (category t) (category (type_of e)) t e is h

  -- ---- members

  abbrev FitsMember : Option (ℕ × TyTree) → Type 0
  FitsMember None = Unit {0}
  FitsMember (Some m) = T m.1

  at_good : (place : ℕ) (name : List ℕ) (ms : List plain.MemberTree) → AllMembers T ms → FitsMember (member_at place name ms)
  at_good place name [] all = tt
  at_good place name (m ∷ ms) all = pick (bytes_eq m.name name) (at_good (place + 1) name ms all.1)
    where
      pick : (b : Bool) → FitsMember (member_at (place + 1) name ms) → FitsMember (if b then Some (place, m.ty) else member_at (place + 1) name ms)
      pick true more = all.0
      pick false more = more

  members_good : (ss : List plain.StructTree) (n : ℕ) → AllStructs T ss → AllMembers T (members_of (slice_get ss n))
  members_good [] n all = tt
  members_good (s ∷ ss) zero all = all.0
  members_good (s ∷ ss) (suc n) all = members_good ss n all.1

  struct_good : (ss : List plain.StructTree) (declared n : ℕ) → AllStructs T ss → AllMembers T (struct_members ss declared n)
  struct_good ss declared n all = pick (nat_lt n declared)
    where
      pick : (b : Bool) → AllMembers T (if b then members_of (slice_get ss n) else [])
      pick true = members_good ss n all
      pick false = tt

  member_node_good : (e : TExprTree) (m : Option (ℕ × TyTree)) → FitsMember m → Each (Good T E) e → Ends (Each (Good T E)) (member_node e m)
  member_node_good e None is h = tt
  member_node_good e (Some m) is h = ((is, tt, tt), h)

  arrow_node_good : (e : TExprTree) (m : Option (ℕ × TyTree)) → FitsMember m → Each (Good T E) e → Ends (Each (Good T E)) (arrow_node e m)
  arrow_node_good e None is h = tt
  arrow_node_good e (Some m) is h = ((is, tt, tt), h)

  member_in_good : (ss : List plain.StructTree) (declared : ℕ) (name : List ℕ) (e : TExprTree) (t : TyTree) → AllStructs T ss → Each (Good T E) e → Ends (Each (Good T E)) (member_in ss declared name e t)
  member_in_good ss declared name e VoidTy all h = tt
  member_in_good ss declared name e (IntTy i) all h = tt
  member_in_good ss declared name e (StructTy n) all h = member_node_good e (member_at 0 name (struct_members ss declared n)) (at_good 0 name (struct_members ss declared n) (struct_good ss declared n all)) h
  member_in_good ss declared name e (PtrTy t) all h = tt
  member_in_good ss declared name e (ArrayTy t count) all h = tt

  pub member_good : (ss : List plain.StructTree) (declared : ℕ) (name : List ℕ) (e : TExprTree) → AllStructs T ss → Each (Good T E) e → Ends (Each (Good T E)) (member ss declared name e)
  member_good ss declared name e all h = member_in_good ss declared name e (type_of e) all h

  arrow_to_good : (ss : List plain.StructTree) (declared : ℕ) (name : List ℕ) (e : TExprTree) (to : ArrowTarget) → AllStructs T ss → Each (Good T E) e → Ends (Each (Good T E)) (arrow_to ss declared name e to)
  arrow_to_good ss declared name e (target.Structure n) all h =
      demand_ends G (nat_lt n declared) NotPointer (arrow_node e (member_at 0 name (struct_members ss declared n))) (λ _.
      arrow_node_good e (member_at 0 name (struct_members ss declared n)) (at_good 0 name (struct_members ss declared n) (struct_good ss declared n all)) h)
  arrow_to_good ss declared name e (target.Refused kind) all h = tt

  pub arrow_good : (ss : List plain.StructTree) (declared : ℕ) (name : List ℕ) (e : TExprTree) → AllStructs T ss → Each (Good T E) e → Ends (Each (Good T E)) (arrow ss declared name e)
  arrow_good ss declared name e all h = arrow_to_good ss declared name e (arrow_target (type_of e)) all h

  -- ---- names

  local_type_good : (ls : List LocalTree) (n : ℕ) → AllLocals T ls → T (type_or_void (slice_get ls n))
  local_type_good [] n all = closed.nothing
  local_type_good (l ∷ ls) zero all = all.0
  local_type_good (l ∷ ls) (suc n) all = local_type_good ls n all.1

  global_type_good : (gs : List GlobalHead) (n : ℕ) → AllGlobals T gs → T (global_or_void (slice_get gs n))
  global_type_good [] n all = closed.nothing
  global_type_good (g ∷ gs) zero all = all.0
  global_type_good (g ∷ gs) (suc n) all = global_type_good gs n all.1

  global_good : (h : HeadsTree) (n : Option ℕ) → AllGlobals T h.globals → Ends (Each (Good T E)) (global_node h n)
  global_good h None all = tt
  global_good h (Some n) all = (global_type_good h.globals n all, tt, tt)

  variable_node_good : (h : HeadsTree) (b : BodyTree) (name : List ℕ) (n : Option ℕ) → AllGlobals T h.globals → AllLocals T b.locals → Ends (Each (Good T E)) (variable_node h b name n)
  variable_node_good h b name (Some n) globals locals = (local_type_good b.locals n locals, tt, tt)
  variable_node_good h b name None globals locals = global_good h _ globals

  pub variable_good : (h : HeadsTree) (b : BodyTree) (name : List ℕ) → AllGlobals T h.globals → AllLocals T b.locals → Ends (Each (Good T E)) (variable h b name)
  variable_good h b name globals locals = variable_node_good h b name (local_named b name) globals locals

  -- ---- calls

  pub joined_good : (before : TExprTrees) (e : TExprTree) → EachOfAll (Good T E) before → Each (Good T E) e → EachOfAll (Good T E) (joined before (MoreTExprs e NoTExprs))
  joined_good NoTExprs e all h = (h, tt)
  joined_good (MoreTExprs x rest) e all h = (all.0, joined_good rest e all.1 h)

  passed_good : (ps : List LocalTree) (es : TExprTrees) → AllLocals T ps → EachOfAll (Good T E) es → EachOfAll (Good T E) (passed ps es)
  passed_good [] es are all = tt
  passed_good (p ∷ ps) NoTExprs are all = tt
  passed_good (p ∷ ps) (MoreTExprs e rest) are all = (converted_good p.ty e are.0 all.0, passed_good ps rest are.1 all.1)

  arguments_good : (ps : List LocalTree) (es : TExprTrees) → AllLocals T ps → EachOfAll (Good T E) es → Ends (EachOfAll (Good T E)) (arguments ps es)
  arguments_good ps es are all =
      let Q : TExprTrees → Type 0 = EachOfAll (Good T E) in
      demand_ends Q (are_scalars es) NotInteger (demand (are_passed ps es) Arguments (Ok (passed ps es))) (λ _.
      demand_ends Q (are_passed ps es) Arguments (Ok (passed ps es)) (λ _. passed_good ps es are all))

  abbrev FitsCallee : Option CalleeTree → Type 0
  FitsCallee None = Unit {0}
  FitsCallee (Some f) = T f.head.answer × AllLocals T f.head.params

  numbered_good : (fs : List FunctionHead) (n k : ℕ) → AllFunctions T fs → FitsCallee (numbered k (slice_get fs n))
  numbered_good [] n k all = tt
  numbered_good (f ∷ fs) zero k all = all.0
  numbered_good (f ∷ fs) (suc n) k all = numbered_good fs n k all.1

  head_good : (h : HeadsTree) (n : Option ℕ) → AllFunctions T h.functions → FitsCallee (head_numbered h n)
  head_good h None all = tt
  head_good h (Some n) all = numbered_good h.functions n n all

  call_of : (library : ℕ) (f : Option CalleeTree) (es : TExprTrees) → FitsCallee f → EachOfAll (Good T E) es → Ends (Each (Good T E)) (call library f es)
  call_of library None es is all = tt
  call_of library (Some f) es is all =
      bind_ends (EachOfAll (Good T E)) G (arguments f.head.params es) (λ es. demand (nat_eq f.head.library library) CrossCall (Ok (ECall f.head.answer f.number es))) (arguments_good f.head.params es is.1 all) (λ xs are.
      demand_ends G (nat_eq f.head.library library) CrossCall (Ok (ECall f.head.answer f.number xs)) (λ _. ((is.0, tt, tt), are)))

  gate_of : (f : Option CalleeTree) (es : TExprTrees) → FitsCallee f → EachOfAll (Good T E) es → Ends (Each (Good T E)) (gate f es)
  gate_of None es is all = tt
  gate_of (Some f) es is all =
      bind_ends (EachOfAll (Good T E)) G (arguments f.head.params es) (λ es. demand f.head.entry NotEntry (Ok (EGate f.head.answer f.number es))) (arguments_good f.head.params es is.1 all) (λ xs are.
      demand_ends G f.head.entry NotEntry (Ok (EGate f.head.answer f.number xs)) (λ _. ((is.0, tt, tt), are)))

  first_good : (f : FunctionHead) (e : TExprTree) → Each (Good T E) e → Ends (Each (Good T E)) (first_value f e)
  first_good f e h =
      let last : Checked TExprTree = Ok (converted (IntTy Long) e) in
      demand_ends G (is_scalar (category (type_of e))) NotInteger (demand (is_long f.answer && are_one_long f.params) Arguments (demand (agrees (IntTy Long) e) Arguments last)) (λ _.
      demand_ends G (is_long f.answer && are_one_long f.params) Arguments (demand (agrees (IntTy Long) e) Arguments last) (λ _.
      demand_ends G (agrees (IntTy Long) e) Arguments last (λ _. converted_good (IntTy Long) e (closed.number Long) h)))

  spawn_of : (library : ℕ) (f : Option CalleeTree) (e : TExprTree) → Each (Good T E) e → Ends (Each (Good T E)) (spawn library f e)
  spawn_of library None e h = tt
  spawn_of library (Some f) e h =
      bind_ends G G (first_value f.head e) (λ e. demand (nat_eq f.head.library library) CrossCall (Ok (ESpawn (IntTy Long) f.number e))) (first_good f.head e h) (λ x k.
      demand_ends G (nat_eq f.head.library library) CrossCall (Ok (ESpawn (IntTy Long) f.number x)) (λ _. ((closed.number Long, tt, tt), k)))

  pub call_good : (h : HeadsTree) (b : BodyTree) (library : ℕ) (name : List ℕ) (es : TExprTrees) → AllFunctions T h.functions → EachOfAll (Good T E) es → Ends (Each (Good T E)) (call library (callee h b name) es)
  call_good h b library name es functions all = call_of library (callee h b name) es (head_good h (function_named h b name) functions) all

  pub gate_good : (h : HeadsTree) (b : BodyTree) (name : List ℕ) (es : TExprTrees) → AllFunctions T h.functions → EachOfAll (Good T E) es → Ends (Each (Good T E)) (gate (callee h b name) es)
  gate_good h b name es functions all = gate_of (callee h b name) es (head_good h (function_named h b name) functions) all

  pub spawn_good : (h : HeadsTree) (b : BodyTree) (library : ℕ) (name : List ℕ) (e : TExprTree) → Each (Good T E) e → Ends (Each (Good T E)) (spawn library (callee h b name) e)
  spawn_good h b library name e k = spawn_of library (callee h b name) e k

  pub putc_good : (e : TExprTree) → Each (Good T E) e → Ends (Each (Good T E)) (putc e)
  putc_good e h = bind_ends G G (as_long (value_of e)) (λ e. Ok (EPutc VoidTy e)) (long_good (value_of e) (value_good e h)) (λ x k. ((closed.nothing, tt, tt), k))

  pub store_good : (device register : ℕ) (e : TExprTree) → IsDeviceRegister device register → Each (Good T E) e → Ends (Each (Good T E)) (device_store device register e)
  store_good device register e there h = bind_ends G G (as_long (value_of e)) (λ e. Ok (EDevStore VoidTy device register e)) (long_good (value_of e) (value_good e h)) (λ x k. ((closed.nothing, tt, there), k))

  pub switch_good : (e : TExprTree) → Each (Good T E) e → Ends (Each (Good T E)) (switch e)
  switch_good e h = bind_ends G G (as_long (value_of e)) (λ e. Ok (ESwitch VoidTy e)) (long_good (value_of e) (value_good e h)) (λ x k. ((closed.nothing, tt, tt), k))
