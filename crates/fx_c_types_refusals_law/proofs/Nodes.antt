-- A node of a body is refused for the first rule that it breaks.
use Rattle.std.proofs.Common.{◌≡◌, ℕ, Bool, true, false, ◌&&◌, ◌||◌, not, nat_eq, nat_lt, is_some, if◌then◌else◌, List, Option, Some, None, Ok, refl, subst}
use Rattle.fx_c_ast.specs.declared.operator.IntType.{IntType}
use Rattle.fx_c_ast.specs.declared.operator.IntType.TheVariants.{Int, Long, Ulong}
use Rattle.fx_c_ast.specs.declared.operator.Unop.{Unop}
use Rattle.fx_c_ast.specs.declared.operator.Unop.TheVariants.{Neg, Not, Lnot, Deref, Addr}
use Rattle.fx_c_ast.specs.declared.operator.Binop.{Binop}
use Rattle.fx_c_ast.specs.declared.operator.Binop.TheVariants.{Add, Sub, Mul, Div, Rem, Shl, Shr, Lt, Gt, Le, Ge, Eq, Ne, And, Xor, Or, Land, Lor}
use Rattle.fx_c_ast.specs.ParsedTrees.{TypeTree}
use Rattle.fx_c_ast.specs.CheckedTrees.{TyTree, VoidTy, IntTy, StructTy, PtrTy, ArrayTy, TExprTree, ELocal, EUn, EBin, EIndex, ESize, ECall, EGate, EPutc, EDevStore, ESpawn, ESwitch, TExprTrees, TStmtTree, SLocal}
use Rattle.fx_c_types_rules.specs.declared.fault.TypeKind.{TypeKind}
use Rattle.fx_c_types_rules.specs.declared.fault.TypeKind.TheVariants.{Twice, UnknownType, TooLarge, UnknownName, NotInteger, NotPointer, NotLvalue, Mismatch, Arguments, ReturnType, CrossCall, NotEntry}
use Rattle.fx_c_types_rules.specs.Checks.{Checked, ◌>>=◌, refuse, demand}
use Rattle.fx_c_types_rules.specs.Types.{promoted, common, category, pointee, same_type, is_void, is_complete}
use Rattle.fx_c_types_rules.specs.Values.{type_of, value_of, is_zero, is_object, is_whole, pointers_agree, agrees, converted, integer_type, tested, as_long, assigned}
use Rattle.fx_c_types_rules.specs.Operators.{signed, pointed, unary, arithmetic, shifted, logical, moved, sum_of, distance, difference_of, numbers_compared, common_pointer, compared_as, compared_of, binary_values, cast_of, cast, element_of}
use Rattle.fx_c_types_rules.specs.Structs.{StructTree, member_at, struct_members, member_node, member_in, arrow_node, arrow_target, arrow_to}
use Rattle.fx_c_types_rules.specs.Calls.{are_scalars, are_passed, passed}
use Rattle.fx_c_types_heads.specs.Names.{found}
use Rattle.fx_c_types_heads.specs.Written.{ty_of, is_named}
use Rattle.fx_c_types_heads.specs.Written as written
use Rattle.fx_c_types_heads.specs.Sizes.{is_small}
use Rattle.fx_c_types_heads.specs.Heads.{HeadsTree}
use Rattle.fx_c_types_bodies.specs.Bodies.{ScopeTree, BodyTree, global_node, variable_node, local_named, cast_node, size_of_type, CalleeTree, callee, call, gate, is_long, are_one_long, spawn, innermost, with_name, place_16, assigned_start, declared_local, returned}
use Rattle.fx_c_types_refusals_law.specs.Kinds.{kinds, first_broken, IsRefusedFor}
use Rattle.fx_c_types_refusals_law.specs.Nodes.{Variable, Unary, Binary, Cast, Size, Index, Member, Arrow, Call, Gate, Putc, DevStore, Spawn, Switch, Assigned, Tested, Returned, is_integer, is_pointer, is_whole_pointer, has_scalar, breaks_unary, breaks_sum, breaks_difference, may_compare, breaks_values, breaks_cast, breaks_object, breaks_index, breaks_member, breaks_arrow, breaks_call, breaks_gate, breaks_spawn, breaks_assigned, breaks_start, breaks_local}
use Rattle.fx_c_types_refusals_law.specs.NodeLaws.{ExpressionsAreTried, NodesAreRefused, LocalsAreRefused}
use Rattle.fx_c_types_refusals_law.proofs.Demands.{demanded, forbidden, demanded_before, demanded_or, demanded_and, demanded_two, demanded_twice, mapped}

-- ---- numbers and scalars

number_first : {A : Type 0} (t : TyTree) (f : IntType → Checked A) (k : Option TypeKind) → ((i : IntType) → IsRefusedFor (f i) k) → IsRefusedFor (integer_type (category t) >>= f) (if not (is_integer t) then Some NotInteger else k)
number_first VoidTy f k h = refl
number_first (IntTy i) f k h = h i
number_first (StructTy n) f k h = refl
number_first (PtrTy t) f k h = refl
number_first (ArrayTy t count) f k h = refl

two_numbers : {A : Type 0} (s t : TyTree) (f : IntType → IntType → Checked A) (k : Option TypeKind) → ((i j : IntType) → IsRefusedFor (f i j) k) → IsRefusedFor (integer_type (category s) >>= (λ i. integer_type (category t) >>= f i)) (if not (is_integer s && is_integer t) then Some NotInteger else k)
two_numbers VoidTy t f k h = refl
two_numbers (IntTy i) t f k h = number_first t (f i) k (h i)
two_numbers (StructTy n) t f k h = refl
two_numbers (PtrTy s) t f k h = refl
two_numbers (ArrayTy s count) t f k h = refl

scalar_first : {A : Type 0} (t : TyTree) (e : TExprTree) (f : TExprTree → Checked A) (k : Option TypeKind) → ((x : TExprTree) → IsRefusedFor (f x) k) → IsRefusedFor (tested (category t) e >>= f) (if not (has_scalar t) then Some NotInteger else k)
scalar_first VoidTy e f k h = refl
scalar_first (IntTy i) e f k h = h e
scalar_first (StructTy n) e f k h = refl
scalar_first (PtrTy t) e f k h = h (converted (IntTy Int) e)
scalar_first (ArrayTy t count) e f k h = refl

two_scalars : {A : Type 0} (s t : TyTree) (a b : TExprTree) (f : TExprTree → TExprTree → Checked A) (k : Option TypeKind) → ((x y : TExprTree) → IsRefusedFor (f x y) k) → IsRefusedFor (tested (category s) a >>= (λ x. tested (category t) b >>= f x)) (if not (has_scalar s && has_scalar t) then Some NotInteger else k)
two_scalars VoidTy t a b f k h = refl
two_scalars (IntTy i) t a b f k h = scalar_first t b (f a) k (h a)
two_scalars (StructTy n) t a b f k h = refl
two_scalars (PtrTy s) t a b f k h = scalar_first t b (f (converted (IntTy Int) a)) k (h (converted (IntTy Int) a))
two_scalars (ArrayTy s count) t a b f k h = refl

test_refused : (t : TyTree) (e : TExprTree) → IsRefusedFor (tested (category t) e) (if not (has_scalar t) then Some NotInteger else None)
test_refused VoidTy e = refl
test_refused (IntTy i) e = refl
test_refused (StructTy n) e = refl
test_refused (PtrTy t) e = refl
test_refused (ArrayTy t count) e = refl

long_refused : (e : TExprTree) → IsRefusedFor (as_long e) (if not (is_integer (type_of e)) then Some NotInteger else None)
long_refused e = number_first (type_of e) (λ i. Ok (converted (IntTy Long) e)) None (λ i. refl)

-- ---- one operand

signed_refused : (op : Unop) (e : TExprTree) → IsRefusedFor (signed op e) (if not (is_integer (type_of e)) then Some NotInteger else None)
signed_refused op e = number_first (type_of e) (λ i. Ok (EUn (IntTy (promoted i)) op (converted (IntTy (promoted i)) e))) None (λ i. refl)

pointed_refused : (declared : ℕ) (t : TyTree) (e : TExprTree) → type_of e ≡ t → IsRefusedFor (pointed declared (category t) e) (if not (has_scalar t) then Some NotInteger else (if not (is_whole_pointer declared t) then Some NotPointer else None))
pointed_refused declared VoidTy e is = refl
pointed_refused declared (IntTy i) e is = refl
pointed_refused declared (StructTy n) e is = refl
pointed_refused declared (PtrTy t) e is =
    subst (λ u. IsRefusedFor (pointed declared (category (PtrTy t)) e) (if not (is_complete declared (pointee u)) then Some NotPointer else None)) is
    (demanded (is_complete declared (pointee (type_of e))) NotPointer (Ok (EUn (pointee (type_of e)) Deref e)) None refl)
pointed_refused declared (ArrayTy t count) e is = refl

unary_refused : (declared : ℕ) (op : Unop) (e : TExprTree) → IsRefusedFor (unary declared op e) (first_broken (breaks_unary declared op e) kinds)
unary_refused declared Neg e = signed_refused Neg (value_of e)
unary_refused declared Not e = signed_refused Not (value_of e)
unary_refused declared Lnot e = scalar_first (type_of (value_of e)) (value_of e) (λ x. Ok (EUn (IntTy Int) Lnot x)) None (λ x. refl)
unary_refused declared Deref e = pointed_refused declared (type_of (value_of e)) (value_of e) refl
unary_refused declared Addr e = demanded (is_object e) NotLvalue (Ok (EUn (PtrTy (type_of e)) Addr e)) None refl

-- ---- two operands

abbrev IfNumbers : TyTree → TyTree → Option TypeKind
IfNumbers s t = if not (is_integer s && is_integer t) then Some NotInteger else None

-- by the types that the operands have
by_types : {A : Type 0} (r : Checked A) (a b : TExprTree) (k : TyTree → TyTree → Option TypeKind) (s t : TyTree) → type_of a ≡ s → type_of b ≡ t → IsRefusedFor r (k (type_of a) (type_of b)) → IsRefusedFor r (k s t)
by_types r a b k s t p q h = subst (λ v. IsRefusedFor r (k s v)) q (subst (λ u. IsRefusedFor r (k u (type_of b))) p h)

arithmetic_refused : (op : Binop) (a b : TExprTree) → IsRefusedFor (arithmetic op a b) (IfNumbers (type_of a) (type_of b))
arithmetic_refused op a b =
    two_numbers (type_of a) (type_of b) (λ i j. Ok (EBin (IntTy (common i j)) op (converted (IntTy (common i j)) a) (converted (IntTy (common i j)) b))) None (λ i j. refl)

shifted_refused : (op : Binop) (a b : TExprTree) → IsRefusedFor (shifted op a b) (IfNumbers (type_of a) (type_of b))
shifted_refused op a b =
    two_numbers (type_of a) (type_of b) (λ i j. Ok (EBin (IntTy (promoted i)) op (converted (IntTy (promoted i)) a) (converted (IntTy (promoted j)) b))) None (λ i j. refl)

numbers_refused : (op : Binop) (a b : TExprTree) → IsRefusedFor (numbers_compared op a b) (IfNumbers (type_of a) (type_of b))
numbers_refused op a b =
    two_numbers (type_of a) (type_of b) (λ i j. Ok (EBin (IntTy Int) op (converted (IntTy (common i j)) a) (converted (IntTy (common i j)) b))) None (λ i j. refl)

logical_refused : (op : Binop) (a b : TExprTree) → IsRefusedFor (logical op a b) (if not (has_scalar (type_of a) && has_scalar (type_of b)) then Some NotInteger else None)
logical_refused op a b = two_scalars (type_of a) (type_of b) a b (λ x y. Ok (EBin (IntTy Int) op x y)) None (λ x y. refl)

abbrev IfWhole : ℕ → TyTree → Option TypeKind
IfWhole declared t = if not (is_complete declared (pointee t)) then Some NotPointer else None

abbrev IfWholeOr : ℕ → TyTree → Option TypeKind
IfWholeOr declared t = if not (is_complete declared (pointee t)) || false then Some NotPointer else None

sum_refused : (declared : ℕ) (s t : TyTree) (a b : TExprTree) → type_of a ≡ s → type_of b ≡ t → IsRefusedFor (sum_of declared (category s) (category t) a b) (first_broken (breaks_sum declared s t) kinds)
sum_refused declared (PtrTy s) (IntTy j) a b p q =
    subst (λ u. IsRefusedFor (moved declared Add (type_of a) a b) (IfWholeOr declared u)) p (demanded_or (is_complete declared (pointee (type_of a))) NotPointer (Ok (EBin (type_of a) Add a b)) None refl)
sum_refused declared (IntTy i) (PtrTy t) a b p q =
    subst (λ u. IsRefusedFor (moved declared Add (type_of b) a b) (IfWhole declared u)) q (demanded (is_complete declared (pointee (type_of b))) NotPointer (Ok (EBin (type_of b) Add a b)) None refl)
sum_refused declared s t a b p q = by_types (arithmetic Add a b) a b IfNumbers s t p q (arithmetic_refused Add a b)

abbrev IfDistance : ℕ → TyTree → TyTree → Option TypeKind
IfDistance declared s t = if not (is_complete declared (pointee s)) || not (is_complete declared (pointee t)) then Some NotPointer else (if not (same_type s t) then Some Mismatch else None)

difference_refused : (declared : ℕ) (s t : TyTree) (a b : TExprTree) → type_of a ≡ s → type_of b ≡ t → IsRefusedFor (difference_of declared (category s) (category t) a b) (first_broken (breaks_difference declared s t) kinds)
difference_refused declared (PtrTy s) (IntTy j) a b p q =
    subst (λ u. IsRefusedFor (moved declared Sub (type_of a) a b) (IfWholeOr declared u)) p (demanded_or (is_complete declared (pointee (type_of a))) NotPointer (Ok (EBin (type_of a) Sub a b)) None refl)
difference_refused declared (PtrTy s) (PtrTy t) a b p q =
    let last : Checked TExprTree = Ok (EBin (IntTy Long) Sub a b) in
    by_types (distance declared a b) a b (IfDistance declared) (PtrTy s) (PtrTy t) p q
    (demanded_and (is_complete declared (pointee (type_of a))) (is_complete declared (pointee (type_of b))) NotPointer (demand (same_type (type_of a) (type_of b)) Mismatch last) (if not (same_type (type_of a) (type_of b)) then Some Mismatch else None)
    (demanded (same_type (type_of a) (type_of b)) Mismatch last None refl))
difference_refused declared (IntTy i) (IntTy j) a b p q = by_types (arithmetic Sub a b) a b IfNumbers (IntTy i) (IntTy j) p q (arithmetic_refused Sub a b)
difference_refused declared s t a b p q = by_types (arithmetic Sub a b) a b IfNumbers s t p q (arithmetic_refused Sub a b)

abbrev IfAgree : TyTree → TyTree → Option TypeKind
IfAgree s t = if not (pointers_agree s t) then Some Mismatch else None

compared_refused : (op : Binop) (s t : TyTree) (a b : TExprTree) → type_of a ≡ s → type_of b ≡ t → IsRefusedFor (compared_of op (category s) (category t) a b) (if not (has_scalar s && has_scalar t) then Some NotInteger else (if not (may_compare s t a b) then Some Mismatch else None))
compared_refused op (PtrTy s) (PtrTy t) a b p q =
    by_types (compared_of op (category (PtrTy s)) (category (PtrTy t)) a b) a b IfAgree (PtrTy s) (PtrTy t) p q
    (demanded (pointers_agree (type_of a) (type_of b)) Mismatch (Ok (compared_as op (common_pointer (type_of a) (type_of b)) a b)) None refl)
compared_refused op (PtrTy s) (IntTy j) a b p q = demanded (is_zero b) Mismatch (Ok (compared_as op (type_of a) a b)) None refl
compared_refused op (IntTy i) (PtrTy t) a b p q = demanded (is_zero a) Mismatch (Ok (compared_as op (type_of b) a b)) None refl
compared_refused op s t a b p q = by_types (numbers_compared op a b) a b IfNumbers s t p q (numbers_refused op a b)

values_refused : (declared : ℕ) (op : Binop) (a b : TExprTree) → IsRefusedFor (binary_values declared op a b) (first_broken (breaks_values declared op a b) kinds)
values_refused declared Add a b = sum_refused declared (type_of a) (type_of b) a b refl refl
values_refused declared Sub a b = difference_refused declared (type_of a) (type_of b) a b refl refl
values_refused declared Mul a b = arithmetic_refused Mul a b
values_refused declared Div a b = arithmetic_refused Div a b
values_refused declared Rem a b = arithmetic_refused Rem a b
values_refused declared Shl a b = shifted_refused Shl a b
values_refused declared Shr a b = shifted_refused Shr a b
values_refused declared Lt a b = compared_refused Lt (type_of a) (type_of b) a b refl refl
values_refused declared Gt a b = compared_refused Gt (type_of a) (type_of b) a b refl refl
values_refused declared Le a b = compared_refused Le (type_of a) (type_of b) a b refl refl
values_refused declared Ge a b = compared_refused Ge (type_of a) (type_of b) a b refl refl
values_refused declared Eq a b = compared_refused Eq (type_of a) (type_of b) a b refl refl
values_refused declared Ne a b = compared_refused Ne (type_of a) (type_of b) a b refl refl
values_refused declared And a b = arithmetic_refused And a b
values_refused declared Xor a b = arithmetic_refused Xor a b
values_refused declared Or a b = arithmetic_refused Or a b
values_refused declared Land a b = logical_refused Land a b
values_refused declared Lor a b = logical_refused Lor a b

-- ---- casts, sizes and elements

cast_refused : (t s ty : TyTree) (e : TExprTree) → IsRefusedFor (cast_of (category t) (category s) ty e) (if not (has_scalar t && has_scalar s) then Some NotInteger else (if not ((is_integer t && is_integer s) || (is_pointer t && is_pointer s)) then Some NotPointer else None))
cast_refused (IntTy i) (IntTy j) ty e = refl
cast_refused (IntTy i) (PtrTy s) ty e = refl
cast_refused (PtrTy t) (IntTy j) ty e = refl
cast_refused (PtrTy t) (PtrTy s) ty e = refl
cast_refused t s ty e = refl

cast_node_refused : (s : ScopeTree) (t : TypeTree) (e : TExprTree) → IsRefusedFor (cast_node s t e) (first_broken (breaks_cast s t (type_of (value_of e))) kinds)
cast_node_refused s t e =
    let ty : TyTree = ty_of s.heads.tags t in
    demanded_two (is_named s.heads.tags t) (is_void ty || is_complete s.declared ty) UnknownType (Ok ty) (λ ty. cast ty (value_of e)) _ (cast_refused ty (type_of (value_of e)) ty (value_of e))

size_refused : (s : ScopeTree) (t : TypeTree) → IsRefusedFor (size_of_type s t) (first_broken (breaks_object s t) kinds)
size_refused s t =
    let ty : TyTree = ty_of s.heads.tags t in
    let small : Bool = is_small s.heads.layouts ty in
    let make : TyTree → Checked TExprTree = λ ty. Ok (ESize (IntTy Ulong) ty) in
    demanded_before (written.is_object s.heads.tags s.declared t) UnknownType (demand small TooLarge (Ok ty)) make (if not small then Some TooLarge else None)
    (demanded_before small TooLarge (Ok ty) make None refl)

index_refused : (declared : ℕ) (s t : TyTree) (a b : TExprTree) → type_of a ≡ s → type_of b ≡ t → IsRefusedFor (element_of declared (category s) a b) (first_broken (breaks_index declared s t) kinds)
index_refused declared VoidTy t a b p q = refl
index_refused declared (IntTy i) t a b p q =
    subst (λ v. IsRefusedFor (element_of declared (category (IntTy i)) a b) (if not (is_integer v) then Some NotInteger else Some NotPointer)) q
    (number_first (type_of b) (λ j. refuse NotPointer) (Some NotPointer) (λ j. refl))
index_refused declared (StructTy n) t a b p q = refl
index_refused declared (PtrTy s) t a b p q =
    let made : Checked TExprTree = Ok (EIndex (pointee (type_of a)) a b) in
    by_types (element_of declared (category (PtrTy s)) a b) a b (λ u v. if not (is_integer v) then Some NotInteger else IfWhole declared u) (PtrTy s) t p q
    (number_first (type_of b) (λ j. demand (is_complete declared (pointee (type_of a))) NotPointer made) (IfWhole declared (type_of a)) (λ j. demanded (is_complete declared (pointee (type_of a))) NotPointer made None refl))
index_refused declared (ArrayTy s count) t a b p q = refl

-- ---- members

member_node_refused : (e : TExprTree) (m : Option (ℕ × TyTree)) → IsRefusedFor (member_node e m) (if not (is_some m) then Some UnknownName else None)
member_node_refused e None = refl
member_node_refused e (Some m) = refl

member_refused : (structs : List StructTree) (declared : ℕ) (name : List ℕ) (e : TExprTree) (t : TyTree) → IsRefusedFor (member_in structs declared name e t) (first_broken (breaks_member structs declared name t) kinds)
member_refused structs declared name e VoidTy = refl
member_refused structs declared name e (IntTy i) = refl
member_refused structs declared name e (StructTy n) = member_node_refused e (member_at 0 name (struct_members structs declared n))
member_refused structs declared name e (PtrTy t) = refl
member_refused structs declared name e (ArrayTy t count) = refl

arrow_node_refused : (there : Bool) (e : TExprTree) (m : Option (ℕ × TyTree)) → IsRefusedFor (demand there NotPointer (arrow_node e m)) (if there && not (is_some m) then Some UnknownName else (if not there then Some NotPointer else None))
arrow_node_refused true e None = refl
arrow_node_refused true e (Some m) = refl
arrow_node_refused false e m = refl

arrow_refused : (structs : List StructTree) (declared : ℕ) (name : List ℕ) (e : TExprTree) (t : TyTree) → IsRefusedFor (arrow_to structs declared name e (arrow_target t)) (first_broken (breaks_arrow structs declared name t) kinds)
arrow_refused structs declared name e VoidTy = refl
arrow_refused structs declared name e (IntTy i) = refl
arrow_refused structs declared name e (StructTy n) = refl
arrow_refused structs declared name e (PtrTy VoidTy) = refl
arrow_refused structs declared name e (PtrTy (IntTy i)) = refl
arrow_refused structs declared name e (PtrTy (StructTy n)) = arrow_node_refused (nat_lt n declared) e (member_at 0 name (struct_members structs declared n))
arrow_refused structs declared name e (PtrTy (PtrTy t)) = refl
arrow_refused structs declared name e (PtrTy (ArrayTy t count)) = refl
arrow_refused structs declared name e (ArrayTy t count) = refl

-- ---- calls

call_refused : (library : ℕ) (f : Option CalleeTree) (all : TExprTrees) → IsRefusedFor (call library f all) (first_broken (breaks_call library f all) kinds)
call_refused library None all = refl
call_refused library (Some f) all =
    let same : Bool = nat_eq f.head.library library in
    let agree : Bool = are_passed f.head.params all in
    let end : TExprTrees → Checked TExprTree = λ es. demand same CrossCall (Ok (ECall f.head.answer f.number es)) in
    let values : TExprTrees = passed f.head.params all in
    let last : Option TypeKind = if not same then Some CrossCall else None in
    demanded_before (are_scalars all) NotInteger (demand agree Arguments (Ok values)) end (if not agree then Some Arguments else last)
    (demanded_before agree Arguments (Ok values) end last (demanded same CrossCall (Ok (ECall f.head.answer f.number values)) None refl))

gate_refused : (f : Option CalleeTree) (all : TExprTrees) → IsRefusedFor (gate f all) (first_broken (breaks_gate f all) kinds)
gate_refused None all = refl
gate_refused (Some f) all =
    let agree : Bool = are_passed f.head.params all in
    let end : TExprTrees → Checked TExprTree = λ es. demand f.head.entry NotEntry (Ok (EGate f.head.answer f.number es)) in
    let values : TExprTrees = passed f.head.params all in
    let last : Option TypeKind = if not f.head.entry then Some NotEntry else None in
    demanded_before (are_scalars all) NotInteger (demand agree Arguments (Ok values)) end (if not agree then Some Arguments else last)
    (demanded_before agree Arguments (Ok values) end last (demanded f.head.entry NotEntry (Ok (EGate f.head.answer f.number values)) None refl))

spawn_refused : (library : ℕ) (f : Option CalleeTree) (e : TExprTree) → IsRefusedFor (spawn library f e) (first_broken (breaks_spawn library f e) kinds)
spawn_refused library None e = refl
spawn_refused library (Some f) e =
    let same : Bool = nat_eq f.head.library library in
    let long : Bool = is_long f.head.answer && are_one_long f.head.params in
    let agree : Bool = agrees (IntTy Long) e in
    let end : TExprTree → Checked TExprTree = λ x. demand same CrossCall (Ok (ESpawn (IntTy Long) f.number x)) in
    let value : TExprTree = converted (IntTy Long) e in
    let last : Option TypeKind = if not same then Some CrossCall else None in
    demanded_before (has_scalar (type_of e)) NotInteger (demand long Arguments (demand agree Arguments (Ok value))) end (if not (long && agree) then Some Arguments else last)
    (demanded_twice long agree Arguments (Ok value) end last (demanded same CrossCall (Ok (ESpawn (IntTy Long) f.number value)) None refl))

-- ---- values that are used

assigned_refused : (to e : TExprTree) → IsRefusedFor (assigned to e) (first_broken (breaks_assigned to e) kinds)
assigned_refused to e =
    let whole : Bool = is_object to && is_whole (category (type_of to)) in
    let agree : Bool = agrees (type_of to) e in
    let value : Checked TExprTree = Ok (converted (type_of to) e) in
    let last : Option TypeKind = if not agree then Some Mismatch else None in
    forbidden (is_void (type_of e)) NotInteger (demand whole NotLvalue (demand agree Mismatch value)) (if not whole then Some NotLvalue else last)
    (demanded whole NotLvalue (demand agree Mismatch value) last (demanded agree Mismatch value None refl))

return_refused : (answer : TyTree) (e : TExprTree) → IsRefusedFor (returned answer e) (if not (has_scalar (type_of e)) then Some NotInteger else (if not (agrees answer e) then Some ReturnType else None))
return_refused answer e =
    let value : Checked TExprTree = Ok (converted answer e) in
    demanded (has_scalar (type_of e)) NotInteger (demand (agrees answer e) ReturnType value) (if not (agrees answer e) then Some ReturnType else None)
    (demanded (agrees answer e) ReturnType value None refl)

variable_refused : (h : HeadsTree) (b : BodyTree) (name : List ℕ) (n : Option ℕ) → IsRefusedFor (variable_node h b name n) (if not (is_some n || is_some (found name h.global_names)) then Some UnknownName else None)
variable_refused h b name (Some n) = refl
variable_refused h b name None = global (found name h.global_names)
  where
    global : (m : Option ℕ) → IsRefusedFor (global_node h m) (if not (is_some m) then Some UnknownName else None)
    global None = refl
    global (Some m) = refl

-- ---- all nodes

pub nodes_refused : NodesAreRefused
nodes_refused s b (Variable name) = variable_refused s.heads b name (local_named b name)
nodes_refused s b (Unary op e) = unary_refused s.declared op e
nodes_refused s b (Binary op a c) = values_refused s.declared op (value_of a) (value_of c)
nodes_refused s b (Cast t e) = cast_node_refused s t e
nodes_refused s b (Size t) = size_refused s t
nodes_refused s b (Index a c) = index_refused s.declared (type_of (value_of a)) (type_of (value_of c)) (value_of a) (value_of c) refl refl
nodes_refused s b (Member e name) = member_refused s.heads.structs s.declared name e (type_of e)
nodes_refused s b (Arrow e name) = arrow_refused s.heads.structs s.declared name (value_of e) (type_of (value_of e))
nodes_refused s b (Call name all) = call_refused s.library (callee s.heads b name) all
nodes_refused s b (Gate name all) = gate_refused (callee s.heads b name) all
nodes_refused s b (Putc e) = mapped (as_long (value_of e)) (λ x. EPutc VoidTy x) _ (long_refused (value_of e))
nodes_refused s b (DevStore device register e) = mapped (as_long (value_of e)) (λ x. EDevStore VoidTy device register x) _ (long_refused (value_of e))
nodes_refused s b (Spawn name e) = spawn_refused s.library (callee s.heads b name) (value_of e)
nodes_refused s b (Switch e) = mapped (as_long (value_of e)) (λ x. ESwitch VoidTy x) _ (long_refused (value_of e))
nodes_refused s b (Assigned to e) = assigned_refused to (value_of e)
nodes_refused s b (Tested e) = test_refused (type_of (value_of e)) (value_of e)
nodes_refused s b (Returned e) = return_refused s.answer (value_of e)

-- ---- a declaration of a local

start_refused : (ty : TyTree) (n : ℕ) (init : Option TExprTree) → IsRefusedFor (assigned_start (ELocal ty n) init) (first_broken (breaks_start ty init) kinds)
start_refused ty n None = refl
start_refused ty n (Some e) = mapped (assigned (ELocal ty n) e) (λ e. Some e) _ (assigned_refused (ELocal ty n) e)

local_refused : (s : ScopeTree) (shared : Bool) (t : TypeTree) (name : List ℕ) (n : ℕ) (b : BodyTree) (init : Option TExprTree) (last : Option TypeKind) → IsRefusedFor (assigned_start (ELocal (ty_of s.heads.tags t) (place_16 n)) init) last
    → IsRefusedFor (declared_local s shared t name n (init, b)) (if is_some (found name (innermost b)) then Some Twice else (if not (written.is_object s.heads.tags s.declared t) then Some UnknownType else (if not (is_small s.heads.layouts (ty_of s.heads.tags t)) then Some TooLarge else last)))
local_refused s shared t name n b init last h =
    let ty : TyTree = ty_of s.heads.tags t in
    let small : Bool = is_small s.heads.layouts ty in
    let object : Bool = written.is_object s.heads.tags s.declared t in
    let end : Option TExprTree → TStmtTree × BodyTree = λ init. (SLocal (place_16 n) init, with_name b name n) in
    let build : TyTree → Checked (TStmtTree × BodyTree) = λ ty. assigned_start (ELocal ty (place_16 n)) init >>= (λ init. Ok (end init)) in
    let type : Checked TyTree = demand small TooLarge (Ok ty) in
    let sized : Option TypeKind = if not small then Some TooLarge else last in
    let named : Option TypeKind = if not object then Some UnknownType else sized in
    forbidden (is_some (found name (innermost b))) Twice (demand object UnknownType type >>= build) named
    (demanded_before object UnknownType type build sized
    (demanded_before small TooLarge (Ok ty) build last
    (mapped (assigned_start (ELocal ty (place_16 n)) init) end last h)))

local_by : (s : ScopeTree) (shared : Bool) (t : TypeTree) (name : List ℕ) (n : ℕ) (b : BodyTree) (init : Option TExprTree) → IsRefusedFor (declared_local s shared t name n (init, b)) (first_broken (breaks_local s b t name init) kinds)
local_by s shared t name n b None = local_refused s shared t name n b None None refl
local_by s shared t name n b (Some e) = local_refused s shared t name n b (Some e) (first_broken (breaks_start (ty_of s.heads.tags t) (Some e)) kinds) (start_refused (ty_of s.heads.tags t) (place_16 n) (Some e))

pub locals_refused : LocalsAreRefused
locals_refused s shared t name n x = local_by s shared t name n x.1 x.0

pub expressions_tried : ExpressionsAreTried
expressions_tried = record {
  variable = λ s b name. refl;
  unary = λ s b op e. refl;
  binary = λ s b op e f. refl;
  cast = λ s b t e. refl;
  size = λ s b t. refl;
  index = λ s b e f. refl;
  member = λ s b e name. refl;
  arrow = λ s b e name. refl;
  call = λ s b name all. refl;
  gate = λ s b name all. refl;
  putc = λ s b e. refl;
  store = λ s b device register e. refl;
  spawn = λ s b name e. refl;
  switch = λ s b e. refl;
}
