-- A check passes or names a rule: nothing but want of memory is left to refuse for.
use Rattle.std.proofs.Common.{ℕ, Bool, true, false, not, ◌&&◌, List, length, slice_get, is_some, Option, Some, None, Ok, Err}
use Rattle.fx_c_ast.specs.declared.operator.IntType.TheVariants.{Long}
use Rattle.fx_c_ast.specs.declared.operator.Unop.{Unop}
use Rattle.fx_c_ast.specs.declared.operator.Unop.TheVariants.{Neg, Not, Lnot, Deref, Addr}
use Rattle.fx_c_ast.specs.declared.operator.Binop.{Binop}
use Rattle.fx_c_ast.specs.declared.operator.Binop.TheVariants.{Add, Sub, Mul, Div, Rem, Shl, Shr, Lt, Gt, Le, Ge, Eq, Ne, And, Xor, Or, Land, Lor}
use Rattle.fx_c_ast.specs.ParsedTrees.{TypeTree, ParamTree, ExprTree, NumberTree, TextTree, VarTree, UnTree, BinTree, CastTree, SizeTree, IndexTree, MemberTree, ArrowTree, CallTree, GateTree, GetcTree, PutcTree, DevLoadTree, DevStoreTree, SpawnTree, SwitchTree, MeTree, ExprTrees, NoExprs, MoreExprs, StmtTree, EmptyTree, BlockTree, LocalTree, EvalTree, AssignTree, IfTree, WhileTree, ForTree, BreakTree, ContinueTree, ReturnTree, StmtTrees, NoStmts, MoreStmts, MaybeStmt, Absent, Present, DeclTree, StructTree, GlobalTree, FunctionTree}
use Rattle.fx_c_ast.specs.CheckedTrees.{TyTree, VoidTy, IntTy, StructTy, PtrTy, ArrayTy, TExprTree, ELocal, TExprTrees, NoTExprs, TStmtTree, SLocal, TStmtTrees, NoTStmts}
use Rattle.fx_c_types_rules.specs.declared.category.Category.{Category}
use Rattle.fx_c_types_rules.specs.declared.category.Category.TheVariants.{Nothing, Integer, Structure, Pointer, Array}
use Rattle.fx_c_types_rules.specs.declared.category.ArrowTarget.{ArrowTarget}
use Rattle.fx_c_types_rules.specs.declared.category.ArrowTarget.TheVariants as target
use Rattle.fx_c_types_rules.specs.declared.fault.TypeKind.{TypeKind}
use Rattle.fx_c_types_rules.specs.declared.fault.TypeKind.TheVariants.{Twice, NotInteger, NotLvalue, Mismatch, Arguments}
use Rattle.fx_c_types_rules.specs.declared.fault.Fault.TheVariants.{Rule}
use Rattle.fx_c_types_rules.specs.Checks.{Checked, ◌>>=◌, demand}
use Rattle.fx_c_types_rules.specs.Types.{category, is_void}
use Rattle.fx_c_types_rules.specs.Values.{type_of, value_of, is_object, is_whole, is_scalar, agrees, converted, integer_type, integer_of, tested, condition, as_long, assigned}
use Rattle.fx_c_types_rules.specs.Operators.{signed, pointed, unary, arithmetic, shifted, logical, sum_of, difference_of, numbers_compared, compared_of, binary_values, cast_of, element_of}
use Rattle.fx_c_types_rules.specs.Structs as plain
use Rattle.fx_c_types_rules.specs.Structs.{member_node, member_in, member, arrow_node, arrow_target, arrow_to, arrow}
use Rattle.fx_c_types_rules.specs.Locals as locals
use Rattle.fx_c_types_rules.specs.Calls.{arguments}
use Rattle.fx_c_types_heads.specs.Heads.{HeadsTree, FunctionHead, object_type}
use Rattle.fx_c_types_heads.specs.Names.{found}
use Rattle.fx_c_types_bodies.specs.Bodies.{ScopeTree, BodyTree, then_in, global_node, variable_node, local_named, cast_node, CalleeTree, callee, call, gate, is_long, are_one_long, first_value, spawn, typed, typed_all, innermost, with_name, place_16, started, assigned_start, declared_local, local, returned, maybe_typed, maybe_condition, return_node, checked, checked_maybe, checked_all}
use Rattle.fx_c_types.specs.Programs.{BodiesTree, scope_of, body_from, function_body, body_of}

pub data Rules {A : Type 0} : Checked A → Type 0 where
  passes : {x : A} → Rules (Ok x)
  refuses : {kind : TypeKind} → Rules (Err (Rule kind))

bind : {A B : Type 0} (r : Checked A) (f : A → Checked B) → Rules r → ((x : A) → Rules (f x)) → Rules (r >>= f)
bind (Ok x) f h k = k x
bind (Err e) f refuses k = refuses

ask : {A : Type 0} (test : Bool) (kind : TypeKind) (r : Checked A) → Rules r → Rules (demand test kind r)
ask true kind r h = h
ask false kind r h = refuses

in_body : {A : Type 0} (b : BodyTree) (r : Checked A) → Rules r → Rules (then_in b r)
in_body b r h = bind _ _ h (λ x. passes)

-- ---- values

integer_rules : (e : TExprTree) → Rules (integer_of e)
integer_rules e = by (category (type_of e))
  where
    by : (c : Category) → Rules (integer_type c)
    by Nothing = refuses
    by (Integer i) = passes
    by Structure = refuses
    by Pointer = refuses
    by Array = refuses

condition_rules : (e : TExprTree) → Rules (condition e)
condition_rules e = by (category (type_of e))
  where
    by : (c : Category) → Rules (tested c e)
    by Nothing = refuses
    by (Integer i) = passes
    by Structure = refuses
    by Pointer = passes
    by Array = refuses

long_rules : (e : TExprTree) → Rules (as_long e)
long_rules e = bind _ _ (integer_rules e) (λ i. passes)

assigned_rules : (to e : TExprTree) → Rules (assigned to e)
assigned_rules to e =
    let last : Checked TExprTree = Ok (converted (type_of to) e) in
    let whole : Bool = is_object to && is_whole (category (type_of to)) in
    ask (not (is_void (type_of e))) NotInteger (demand whole NotLvalue (demand (agrees (type_of to) e) Mismatch last)) (ask whole NotLvalue (demand (agrees (type_of to) e) Mismatch last) (ask (agrees (type_of to) e) Mismatch last passes))

-- ---- operators

pointed_rules : (declared : ℕ) (c : Category) (e : TExprTree) → Rules (pointed declared c e)
pointed_rules declared Nothing e = refuses
pointed_rules declared (Integer i) e = refuses
pointed_rules declared Structure e = refuses
pointed_rules declared Pointer e = ask _ _ _ passes
pointed_rules declared Array e = refuses

signed_rules : (op : Unop) (e : TExprTree) → Rules (signed op e)
signed_rules op e = bind _ _ (integer_rules e) (λ i. passes)

unary_rules : (declared : ℕ) (op : Unop) (e : TExprTree) → Rules (unary declared op e)
unary_rules declared Neg e = signed_rules Neg (value_of e)
unary_rules declared Not e = signed_rules Not (value_of e)
unary_rules declared Lnot e = bind _ _ (condition_rules (value_of e)) (λ x. passes)
unary_rules declared Deref e = pointed_rules declared (category (type_of (value_of e))) (value_of e)
unary_rules declared Addr e = ask _ _ _ passes

arithmetic_rules : (op : Binop) (a b : TExprTree) → Rules (arithmetic op a b)
arithmetic_rules op a b = bind _ _ (integer_rules a) (λ i. bind _ _ (integer_rules b) (λ j. passes))

shifted_rules : (op : Binop) (a b : TExprTree) → Rules (shifted op a b)
shifted_rules op a b = bind _ _ (integer_rules a) (λ i. bind _ _ (integer_rules b) (λ j. passes))

logical_rules : (op : Binop) (a b : TExprTree) → Rules (logical op a b)
logical_rules op a b = bind _ _ (condition_rules a) (λ x. bind _ _ (condition_rules b) (λ y. passes))

numbers_rules : (op : Binop) (a b : TExprTree) → Rules (numbers_compared op a b)
numbers_rules op a b = bind _ _ (integer_rules a) (λ i. bind _ _ (integer_rules b) (λ j. passes))

sum_rules : (declared : ℕ) (c d : Category) (a b : TExprTree) → Rules (sum_of declared c d a b)
sum_rules declared Pointer (Integer j) a b = ask _ _ _ passes
sum_rules declared (Integer i) Pointer a b = ask _ _ _ passes
sum_rules declared c d a b = arithmetic_rules Add a b

difference_rules : (declared : ℕ) (c d : Category) (a b : TExprTree) → Rules (difference_of declared c d a b)
difference_rules declared Pointer (Integer j) a b = ask _ _ _ passes
difference_rules declared Pointer Pointer a b = ask _ _ _ (ask _ _ _ passes)
difference_rules declared c d a b = arithmetic_rules Sub a b

compared_rules : (op : Binop) (c d : Category) (a b : TExprTree) → Rules (compared_of op c d a b)
compared_rules op Pointer Pointer a b = ask _ _ _ passes
compared_rules op Pointer (Integer j) a b = ask _ _ _ passes
compared_rules op (Integer i) Pointer a b = ask _ _ _ passes
compared_rules op c d a b = numbers_rules op a b

values_rules : (declared : ℕ) (op : Binop) (a b : TExprTree) → Rules (binary_values declared op a b)
values_rules declared Add a b = sum_rules declared (category (type_of a)) (category (type_of b)) a b
values_rules declared Sub a b = difference_rules declared (category (type_of a)) (category (type_of b)) a b
values_rules declared Mul a b = arithmetic_rules Mul a b
values_rules declared Div a b = arithmetic_rules Div a b
values_rules declared Rem a b = arithmetic_rules Rem a b
values_rules declared Shl a b = shifted_rules Shl a b
values_rules declared Shr a b = shifted_rules Shr a b
values_rules declared Lt a b = compared_rules Lt (category (type_of a)) (category (type_of b)) a b
values_rules declared Gt a b = compared_rules Gt (category (type_of a)) (category (type_of b)) a b
values_rules declared Le a b = compared_rules Le (category (type_of a)) (category (type_of b)) a b
values_rules declared Ge a b = compared_rules Ge (category (type_of a)) (category (type_of b)) a b
values_rules declared Eq a b = compared_rules Eq (category (type_of a)) (category (type_of b)) a b
values_rules declared Ne a b = compared_rules Ne (category (type_of a)) (category (type_of b)) a b
values_rules declared And a b = arithmetic_rules And a b
values_rules declared Xor a b = arithmetic_rules Xor a b
values_rules declared Or a b = arithmetic_rules Or a b
values_rules declared Land a b = logical_rules Land a b
values_rules declared Lor a b = logical_rules Lor a b

cast_rules : (c d : Category) (t : TyTree) (e : TExprTree) → Rules (cast_of c d t e)
cast_rules (Integer i) (Integer j) t e = passes
cast_rules Pointer Pointer t e = passes
cast_rules (Integer i) Pointer t e = refuses
cast_rules Pointer (Integer j) t e = refuses
cast_rules c d t e = refuses

element_rules : (declared : ℕ) (c : Category) (a b : TExprTree) → Rules (element_of declared c a b)
element_rules declared Nothing a b = refuses
element_rules declared (Integer i) a b = bind _ _ (integer_rules b) (λ j. refuses)
element_rules declared Structure a b = refuses
element_rules declared Pointer a b = bind _ _ (integer_rules b) (λ j. ask _ _ _ passes)
element_rules declared Array a b = refuses

-- ---- members

member_node_rules : (e : TExprTree) (m : Option (ℕ × TyTree)) → Rules (member_node e m)
member_node_rules e None = refuses
member_node_rules e (Some m) = passes

arrow_node_rules : (e : TExprTree) (m : Option (ℕ × TyTree)) → Rules (arrow_node e m)
arrow_node_rules e None = refuses
arrow_node_rules e (Some m) = passes

member_rules : (ss : List plain.StructTree) (declared : ℕ) (name : List ℕ) (e : TExprTree) (t : TyTree) → Rules (member_in ss declared name e t)
member_rules ss declared name e VoidTy = refuses
member_rules ss declared name e (IntTy i) = refuses
member_rules ss declared name e (StructTy n) = member_node_rules e _
member_rules ss declared name e (PtrTy t) = refuses
member_rules ss declared name e (ArrayTy t count) = refuses

arrow_rules : (ss : List plain.StructTree) (declared : ℕ) (name : List ℕ) (e : TExprTree) (to : ArrowTarget) → Rules (arrow_to ss declared name e to)
arrow_rules ss declared name e (target.Structure n) = ask _ _ _ (arrow_node_rules e _)
arrow_rules ss declared name e (target.Refused kind) = refuses

-- ---- names, types and calls

global_rules : (h : HeadsTree) (n : Option ℕ) → Rules (global_node h n)
global_rules h None = refuses
global_rules h (Some n) = passes

variable_node_rules : (h : HeadsTree) (b : BodyTree) (name : List ℕ) (n : Option ℕ) → Rules (variable_node h b name n)
variable_node_rules h b name (Some n) = passes
variable_node_rules h b name None = global_rules h (found name h.global_names)

object_rules : (h : HeadsTree) (declared : ℕ) (t : TypeTree) → Rules (object_type h declared t)
object_rules h declared t = ask _ _ _ (ask _ _ _ passes)

cast_node_rules : (s : ScopeTree) (t : TypeTree) (e : TExprTree) → Rules (cast_node s t e)
cast_node_rules s t e = bind _ _ (ask _ _ _ (ask _ _ _ passes)) (λ ty. cast_rules (category ty) (category (type_of (value_of e))) ty (value_of e))

arguments_rules : (ps : List locals.LocalTree) (es : TExprTrees) → Rules (arguments ps es)
arguments_rules ps es = ask _ _ _ (ask _ _ _ passes)

call_rules : (library : ℕ) (f : Option CalleeTree) (es : TExprTrees) → Rules (call library f es)
call_rules library None es = refuses
call_rules library (Some f) es = bind _ _ (arguments_rules f.head.params es) (λ xs. ask _ _ _ passes)

gate_rules : (f : Option CalleeTree) (es : TExprTrees) → Rules (gate f es)
gate_rules None es = refuses
gate_rules (Some f) es = bind _ _ (arguments_rules f.head.params es) (λ xs. ask _ _ _ passes)

first_rules : (f : FunctionHead) (e : TExprTree) → Rules (first_value f e)
first_rules f e =
    let last : Checked TExprTree = Ok (converted (IntTy Long) e) in
    let long : Bool = is_long f.answer && are_one_long f.params in
    ask (is_scalar (category (type_of e))) NotInteger (demand long Arguments (demand (agrees (IntTy Long) e) Arguments last)) (ask long Arguments (demand (agrees (IntTy Long) e) Arguments last) (ask (agrees (IntTy Long) e) Arguments last passes))

spawn_rules : (library : ℕ) (f : Option CalleeTree) (e : TExprTree) → Rules (spawn library f e)
spawn_rules library None e = refuses
spawn_rules library (Some f) e = bind _ _ (first_rules f.head e) (λ x. ask _ _ _ passes)

-- ---- expressions

mutual
  typed_rules : (s : ScopeTree) (b : BodyTree) (e : ExprTree) → Rules (typed s b e)
  typed_rules s b (NumberTree value ty) = passes
  typed_rules s b (TextTree bytes) = ask _ _ _ passes
  typed_rules s b (VarTree name) = in_body b _ (variable_node_rules s.heads b name (local_named b name))
  typed_rules s b (UnTree op e) = bind _ _ (typed_rules s b e) (λ x. in_body x.1 _ (unary_rules s.declared op x.0))
  typed_rules s b (BinTree op e f) = bind _ _ (typed_rules s b e) (λ x. bind _ _ (typed_rules s x.1 f) (λ y. in_body y.1 _ (values_rules s.declared op (value_of x.0) (value_of y.0))))
  typed_rules s b (CastTree t e) = bind _ _ (typed_rules s b e) (λ x. in_body x.1 _ (cast_node_rules s t x.0))
  typed_rules s b (SizeTree t) = in_body b _ (bind _ _ (object_rules s.heads s.declared t) (λ ty. passes))
  typed_rules s b (IndexTree e f) = bind _ _ (typed_rules s b e) (λ x. bind _ _ (typed_rules s x.1 f) (λ y. in_body y.1 _ (element_rules s.declared (category (type_of (value_of x.0))) (value_of x.0) (value_of y.0))))
  typed_rules s b (MemberTree e name) = bind _ _ (typed_rules s b e) (λ x. in_body x.1 _ (member_rules s.heads.structs s.declared name x.0 (type_of x.0)))
  typed_rules s b (ArrowTree e name) = bind _ _ (typed_rules s b e) (λ x. in_body x.1 _ (arrow_rules s.heads.structs s.declared name (value_of x.0) (arrow_target (type_of (value_of x.0)))))
  typed_rules s b (CallTree name all) = bind _ _ (all_rules s b NoTExprs all) (λ x. in_body x.1 _ (call_rules s.library (callee s.heads x.1 name) x.0))
  typed_rules s b (GateTree name all) = bind _ _ (all_rules s b NoTExprs all) (λ x. in_body x.1 _ (gate_rules (callee s.heads x.1 name) x.0))
  typed_rules s b GetcTree = passes
  typed_rules s b (PutcTree e) = bind _ _ (typed_rules s b e) (λ x. in_body x.1 _ (bind _ _ (long_rules (value_of x.0)) (λ y. passes)))
  typed_rules s b (DevLoadTree device register) = passes
  typed_rules s b (DevStoreTree device register e) = bind _ _ (typed_rules s b e) (λ x. in_body x.1 _ (bind _ _ (long_rules (value_of x.0)) (λ y. passes)))
  typed_rules s b (SpawnTree name e) = bind _ _ (typed_rules s b e) (λ x. in_body x.1 _ (spawn_rules s.library (callee s.heads x.1 name) (value_of x.0)))
  typed_rules s b (SwitchTree e) = bind _ _ (typed_rules s b e) (λ x. in_body x.1 _ (bind _ _ (long_rules (value_of x.0)) (λ y. passes)))
  typed_rules s b MeTree = passes

  all_rules : (s : ScopeTree) (b : BodyTree) (before : TExprTrees) (es : ExprTrees) → Rules (typed_all s b before es)
  all_rules s b before NoExprs = passes
  all_rules s b before (MoreExprs e rest) = bind _ _ (typed_rules s b e) (λ x. all_rules s x.1 _ rest)

-- ---- statements

started_rules : (s : ScopeTree) (b : BodyTree) (name : List ℕ) (n : ℕ) (e : Option ExprTree) → Rules (started s b name n e)
started_rules s b name n None = passes
started_rules s b name n (Some e) = bind _ _ (typed_rules s _ e) (λ x. passes)

start_rules : (to : TExprTree) (e : Option TExprTree) → Rules (assigned_start to e)
start_rules to None = passes
start_rules to (Some e) = bind _ _ (assigned_rules to e) (λ x. passes)

declared_rules : (s : ScopeTree) (shared : Bool) (t : TypeTree) (name : List ℕ) (n : ℕ) (x : Option TExprTree × BodyTree) → Rules (declared_local s shared t name n x)
declared_rules s shared t name n x =
    let end : Option TExprTree → Checked (TStmtTree × BodyTree) = λ init. Ok (SLocal (place_16 n) init, with_name x.1 name n) in
    let build : TyTree → Checked (TStmtTree × BodyTree) = λ ty. assigned_start (ELocal ty (place_16 n)) x.0 >>= end in
    ask (not (is_some (found name (innermost x.1)))) Twice (object_type s.heads s.declared t >>= build)
    (bind (object_type s.heads s.declared t) build (object_rules s.heads s.declared t) (λ ty.
    bind (assigned_start (ELocal ty (place_16 n)) x.0) end (start_rules (ELocal ty (place_16 n)) x.0) (λ init. passes)))

local_rules : (s : ScopeTree) (b : BodyTree) (shared : Bool) (t : TypeTree) (name : List ℕ) (init : Option ExprTree) → Rules (local s b shared t name init)
local_rules s b shared t name init = bind _ _ (started_rules s _ name _ init) (λ x. declared_rules s shared t name _ x)

returned_rules : (t : TyTree) (e : TExprTree) → Rules (returned t e)
returned_rules t e = ask _ _ _ (ask _ _ _ passes)

maybe_typed_rules : (s : ScopeTree) (b : BodyTree) (e : Option ExprTree) → Rules (maybe_typed s b e)
maybe_typed_rules s b None = passes
maybe_typed_rules s b (Some e) = bind _ _ (typed_rules s b e) (λ x. passes)

maybe_condition_rules : (e : Option TExprTree) → Rules (maybe_condition e)
maybe_condition_rules None = passes
maybe_condition_rules (Some e) = bind _ _ (condition_rules (value_of e)) (λ x. passes)

return_rules : (s : ScopeTree) (b : BodyTree) (e : Option ExprTree) → Rules (return_node s b e)
return_rules s b None = ask _ _ _ passes
return_rules s b (Some e) = bind _ _ (typed_rules s b e) (λ x. bind _ _ (returned_rules s.answer (value_of x.0)) (λ y. passes))

mutual
  checked_rules : (s : ScopeTree) (loop : Bool) (b : BodyTree) (t : StmtTree) → Rules (checked s loop b t)
  checked_rules s loop b EmptyTree = passes
  checked_rules s loop b (BlockTree all) = bind _ _ (all_checked_rules s loop _ NoTStmts all) (λ x. passes)
  checked_rules s loop b (LocalTree shared t name init) = local_rules s b shared t name init
  checked_rules s loop b (EvalTree e) = bind _ _ (typed_rules s b e) (λ x. passes)
  checked_rules s loop b (AssignTree to e) = bind _ _ (typed_rules s b to) (λ x. bind _ _ (typed_rules s x.1 e) (λ y. bind _ _ (assigned_rules x.0 (value_of y.0)) (λ v. passes)))
  checked_rules s loop b (IfTree test one other) =
      bind _ _ (typed_rules s b test) (λ t. bind _ _ (checked_rules s loop t.1 one) (λ x. bind _ _ (maybe_checked_rules s loop x.1 other) (λ y. bind _ _ (condition_rules (value_of t.0)) (λ c. passes))))
  checked_rules s loop b (WhileTree test body) = bind _ _ (typed_rules s b test) (λ t. bind _ _ (checked_rules s true t.1 body) (λ x. bind _ _ (condition_rules (value_of t.0)) (λ c. passes)))
  checked_rules s loop b (ForTree first test next body) =
      bind _ _ (maybe_checked_rules s loop b first) (λ f. bind _ _ (maybe_typed_rules s f.1 test) (λ t. bind _ _ (maybe_checked_rules s loop t.1 next) (λ n. bind _ _ (checked_rules s true n.1 body) (λ x. bind _ _ (maybe_condition_rules t.0) (λ c. passes)))))
  checked_rules s loop b BreakTree = ask _ _ _ passes
  checked_rules s loop b ContinueTree = ask _ _ _ passes
  checked_rules s loop b (ReturnTree e) = return_rules s b e

  maybe_checked_rules : (s : ScopeTree) (loop : Bool) (b : BodyTree) (t : MaybeStmt) → Rules (checked_maybe s loop b t)
  maybe_checked_rules s loop b Absent = passes
  maybe_checked_rules s loop b (Present t) = bind _ _ (checked_rules s loop b t) (λ x. passes)

  all_checked_rules : (s : ScopeTree) (loop : Bool) (b : BodyTree) (before : TStmtTrees) (all : StmtTrees) → Rules (checked_all s loop b before all)
  all_checked_rules s loop b before NoStmts = passes
  all_checked_rules s loop b before (MoreStmts t rest) = bind _ _ (checked_rules s loop b t) (λ x. all_checked_rules s loop x.1 _ rest)

-- ---- functions

function_rules : (h : HeadsTree) (b : BodiesTree) (f : Option FunctionHead) (params : List ParamTree) (body : StmtTrees) → Rules (function_body h b f params body)
function_rules h b None params body = passes
function_rules h b (Some f) params body = bind _ _ (all_checked_rules (scope_of h b f) false (body_from b.literals f params) NoTStmts body) (λ x. ask _ _ _ passes)

pub body_rules : (h : HeadsTree) (b : BodiesTree) (d : DeclTree) → Rules (body_of h b d)
body_rules h b (StructTree name members) = passes
body_rules h b (GlobalTree grant readers ty name init) = passes
body_rules h b (FunctionTree entry answer name params body) = function_rules h b (slice_get h.functions (length b.functions)) params body
