-- A body, and so a program, gains exactly the strings that stand in its tree.
use Rattle.std.proofs.Common.{◌≡◌, ℕ, zero, suc, ◌+◌, ◌<◌, ◌≤◌, ◌&&◌, Bool, true, false, not, nat_lt, nat_le, is_some, List, [], ◌∷◌, ◌++◌, length, Option, Some, None, Result, Ok, Err, refl, subst, arith}
use Rattle.std.specs.Prelude.{slice_get}
use Rattle.std.proofs.lemmas.List.{length_push}
use Rattle.fx_c_ast.specs.declared.operator.IntType.TheVariants.{Char}
use Rattle.fx_c_ast.specs.declared.checked.TProgram.{TProgram}
use Rattle.fx_c_ast.specs.declared.layout.Layout.{Layout}
use Rattle.fx_c_ast.specs.declared.parsed.Grant.{Grant}
use Rattle.fx_c_ast.specs.declared.parsed.Init.{Init}
use Rattle.fx_c_ast.specs.ParsedTrees.{TypeTree, ExprTree, NumberTree, TextTree, VarTree, UnTree, BinTree, CastTree, SizeTree, IndexTree, MemberTree, ArrowTree, CallTree, GateTree, GetcTree, PutcTree, DevLoadTree, DevStoreTree, SpawnTree, SwitchTree, MeTree, ExprTrees, NoExprs, MoreExprs, StmtTree, EmptyTree, BlockTree, LocalTree, EvalTree, AssignTree, IfTree, WhileTree, ForTree, BreakTree, ContinueTree, ReturnTree, StmtTrees, NoStmts, MoreStmts, MaybeStmt, Absent, Present, ParamTree, DeclTree, StructTree, GlobalTree}
use Rattle.fx_c_ast.specs.ParsedTrees as parsed
use Rattle.fx_c_ast.specs.CheckedTrees.{TyTree, IntTy, ArrayTy, TExprTree, ELiteral, ELocal, TExprTrees, MoreTExprs, NoTExprs, TStmtTree, SBlock, SLocal, SEval, SAssign, SIf, SWhile, SFor, SBreak, SContinue, SReturn, TStmtTrees, NoTStmts, MaybeTStmt, OneTStmt}
use Rattle.fx_c_types_heads.specs.Names.{found}
use Rattle.fx_c_types_rules.specs.declared.fault.TypeKind.{TypeKind}
use Rattle.fx_c_types_rules.specs.declared.fault.TypeKind.TheVariants.{Twice, UnknownType, TooLarge, TooManyParameters, Initialiser, ReturnType, BreakOutside, FrameTooLong}
use Rattle.fx_c_types_rules.specs.declared.fault.Fault.TheVariants as fault
use Rattle.fx_c_types_rules.specs.Checks.{Checked, ◌>>=◌, demand}
use Rattle.fx_c_types_rules.specs.Types.{is_void}
use Rattle.fx_c_types_rules.specs.Values.{value_of, condition, assigned}
use Rattle.fx_c_types_rules.specs.Operators.{unary, binary, element}
use Rattle.fx_c_types_rules.specs.Structs.{place_32, member, arrow}
use Rattle.fx_c_types_rules.specs.Structs as plain
use Rattle.fx_c_types_rules.specs.Calls.{joined, putc, device_store, switch}
use Rattle.fx_c_types_heads.specs.Written.{ty_of}
use Rattle.fx_c_types_heads.specs.Heads.{HeadsTree, FunctionHead, object_type, no_heads, is_next, repeats, names_of, members_behind, struct_layout, with_struct, struct_head, is_declared, is_initial, with_global, global_head, is_answer, are_params, param_names, params_of, function_head, head}
use Rattle.fx_c_types_heads.specs.Heads as heads
use Rattle.fx_c_types_rules.specs.Locals.{types_of_locals}
use Rattle.fx_c_types_heads.specs.Sizes.{known}
use Rattle.fx_c_ast.specs.StackUse.{frame_size}
use Rattle.fx_c_types_bodies.specs.Bodies.{ScopeTree, BodyTree, then_in, variable, text_node, cast_node, size_of_type, callee, call, gate, spawn, typed, typed_all, innermost, entered, left, with_local, with_name, started, assigned_start, declared_local, local, place_16, returned, maybe_typed, maybe_condition, return_node, followed, checked, checked_maybe, checked_all}
use Rattle.fx_c_types.specs.declared.fault.TypeError.{TypeError}
use Rattle.fx_c_types.specs.declared.program.SourceFile.{SourceFile}
use Rattle.fx_c_types.specs.Programs.{PlacedDecl, ProgramTree, FunctionTree, BodiesTree, at_declaration, ◌>>>◌, tags_of, heads_of, body_from, no_bodies, function_of, with_function, finished, scope_of, function_body, body_of, bodies_of, main_number, program_of, well_typed}
use Rattle.fx_c_types.specs.ProgramView.{declarations, program_tree}
use Rattle.fx_c_types_texts_law.specs.Strings.{strings, strings_of_all, strings_of_value, strings_in, strings_in_maybe, strings_in_all, declared_strings, program_strings}

-- what holds of a check's answer wherever it has one
abbrev Ends : {A E : Type 0} → (A → Type 0) → Result A E → Type 0
Ends P (Ok x) = P x
Ends P (Err e) = Unit {0}

checks : {A B : Type 0} (P : B → Type 0) (m : Checked A) (f : A → Checked B) → ((x : A) → Ends P (f x)) → Ends P (m >>= f)
checks P (Ok x) f k = k x
checks P (Err e) f k = tt

demands : {A : Type 0} (P : A → Type 0) (test : Bool) (kind : TypeKind) (r : Checked A) → Ends P r → Ends P (demand test kind r)
demands P true kind r h = h
demands P false kind r h = tt

-- a body with so many strings more
abbrev More : {A : Type 0} → BodyTree → ℕ → A × BodyTree → Type 0
More b n x = length x.1.literals ≡ length b.literals + n

-- a part of a body that leaves so many strings more than there were
abbrev Adds : {A : Type 0} → BodyTree → ℕ → Checked (A × BodyTree) → Type 0
Adds {A} b n r = Ends (More {A = A} b n) r

step : {A B : Type 0} (b : BodyTree) (n m : ℕ) (r : Checked (A × BodyTree)) (f : A × BodyTree → Checked (B × BodyTree)) → Adds b n r → ((x : A × BodyTree) → Adds x.1 m (f x)) → Adds b (n + m) (r >>= f)
step {A} {B} b n m (Ok x) f h k = more (f x) (k x)
  where
    more : (r : Checked (B × BodyTree)) → Adds x.1 m r → Adds b (n + m) r
    more (Ok y) g = omega (arith, g, h)
    more (Err e) g = tt
step b n m (Err e) f h k = tt

-- what follows adds nothing
last : {A B : Type 0} (b : BodyTree) (n : ℕ) (r : Checked (A × BodyTree)) (f : A × BodyTree → Checked (B × BodyTree)) → Adds b n r → ((x : A × BodyTree) → Adds x.1 0 (f x)) → Adds b n (r >>= f)
last {A} {B} b n (Ok x) f h k = same (f x) (k x)
  where
    same : (r : Checked (B × BodyTree)) → Adds x.1 0 r → Adds b n r
    same (Ok y) g = omega (arith, g, h)
    same (Err e) g = tt
last b n (Err e) f h k = tt

-- a check that has nothing to do with the strings
stays : {A : Type 0} (b : BodyTree) (m : Checked A) → Adds b 0 (then_in b m)
stays b (Ok x) = omega arith
stays b (Err e) = tt

text_adds : (b : BodyTree) (bytes : List ℕ) → Adds b 1 (text_node b bytes)
text_adds b bytes =
    demands (More b 1) (nat_lt (length bytes) 67108864) TooLarge
    (Ok (ELiteral (ArrayTy (IntTy Char) (length bytes + 1)) (place_32 (length b.literals)), record b { literals = b.literals ++ (bytes ++ 0 ∷ []) ∷ [] }))
    (omega (arith, length_push b.literals (bytes ++ 0 ∷ [])))

-- ---- expressions

mutual
  typed_adds : (s : ScopeTree) (b : BodyTree) (e : ExprTree) → Adds b (strings e) (typed s b e)
  typed_adds s b (NumberTree value ty) = omega arith
  typed_adds s b (TextTree bytes) = text_adds b bytes
  typed_adds s b (VarTree name) = stays b (variable s.heads b name)
  typed_adds s b (UnTree op e) = last b (strings e) (typed s b e) (λ x. then_in x.1 (unary s.declared op x.0)) (typed_adds s b e) (λ x. stays x.1 (unary s.declared op x.0))
  typed_adds s b (BinTree op e f) =
      step b (strings e) (strings f) (typed s b e) (λ x. typed s x.1 f >>= (λ y. then_in y.1 (binary s.declared op x.0 y.0))) (typed_adds s b e) (λ x.
      last x.1 (strings f) (typed s x.1 f) (λ y. then_in y.1 (binary s.declared op x.0 y.0)) (typed_adds s x.1 f) (λ y. stays y.1 (binary s.declared op x.0 y.0)))
  typed_adds s b (CastTree t e) = last b (strings e) (typed s b e) (λ x. then_in x.1 (cast_node s t x.0)) (typed_adds s b e) (λ x. stays x.1 (cast_node s t x.0))
  typed_adds s b (SizeTree t) = stays b (size_of_type s t)
  typed_adds s b (IndexTree e f) =
      step b (strings e) (strings f) (typed s b e) (λ x. typed s x.1 f >>= (λ y. then_in y.1 (element s.declared (value_of x.0) (value_of y.0)))) (typed_adds s b e) (λ x.
      last x.1 (strings f) (typed s x.1 f) (λ y. then_in y.1 (element s.declared (value_of x.0) (value_of y.0))) (typed_adds s x.1 f) (λ y. stays y.1 (element s.declared (value_of x.0) (value_of y.0))))
  typed_adds s b (MemberTree e name) = last b (strings e) (typed s b e) (λ x. then_in x.1 (member s.heads.structs s.declared name x.0)) (typed_adds s b e) (λ x. stays x.1 (member s.heads.structs s.declared name x.0))
  typed_adds s b (ArrowTree e name) = last b (strings e) (typed s b e) (λ x. then_in x.1 (arrow s.heads.structs s.declared name (value_of x.0))) (typed_adds s b e) (λ x. stays x.1 (arrow s.heads.structs s.declared name (value_of x.0)))
  typed_adds s b (CallTree name all) = last b (strings_of_all all) (typed_all s b NoTExprs all) (λ x. then_in x.1 (call s.library (callee s.heads x.1 name) x.0)) (all_add s b NoTExprs all) (λ x. stays x.1 (call s.library (callee s.heads x.1 name) x.0))
  typed_adds s b (GateTree name all) = last b (strings_of_all all) (typed_all s b NoTExprs all) (λ x. then_in x.1 (gate (callee s.heads x.1 name) x.0)) (all_add s b NoTExprs all) (λ x. stays x.1 (gate (callee s.heads x.1 name) x.0))
  typed_adds s b GetcTree = omega arith
  typed_adds s b (PutcTree e) = last b (strings e) (typed s b e) (λ x. then_in x.1 (putc x.0)) (typed_adds s b e) (λ x. stays x.1 (putc x.0))
  typed_adds s b (DevLoadTree device register) = omega arith
  typed_adds s b (DevStoreTree device register e) = last b (strings e) (typed s b e) (λ x. then_in x.1 (device_store device register x.0)) (typed_adds s b e) (λ x. stays x.1 (device_store device register x.0))
  typed_adds s b (SpawnTree name e) = last b (strings e) (typed s b e) (λ x. then_in x.1 (spawn s.library (callee s.heads x.1 name) (value_of x.0))) (typed_adds s b e) (λ x. stays x.1 (spawn s.library (callee s.heads x.1 name) (value_of x.0)))
  typed_adds s b (SwitchTree e) = last b (strings e) (typed s b e) (λ x. then_in x.1 (switch x.0)) (typed_adds s b e) (λ x. stays x.1 (switch x.0))
  typed_adds s b MeTree = omega arith

  all_add : (s : ScopeTree) (b : BodyTree) (before : TExprTrees) (es : ExprTrees) → Adds b (strings_of_all es) (typed_all s b before es)
  all_add s b before NoExprs = omega arith
  all_add s b before (MoreExprs e rest) =
      step b (strings e) (strings_of_all rest) (typed s b e) (λ x. typed_all s x.1 (joined before (MoreTExprs (value_of x.0) NoTExprs)) rest) (typed_adds s b e) (λ x.
      all_add s x.1 (joined before (MoreTExprs (value_of x.0) NoTExprs)) rest)

-- ---- statements

started_adds : (s : ScopeTree) (b : BodyTree) (name : List ℕ) (n : ℕ) (e : Option ExprTree) → Adds b (strings_of_value e) (started s b name n e)
started_adds s b name n None = omega arith
started_adds s b name n (Some e) =
    last b (strings e) (typed s (entered b ((name, n) ∷ [])) e) (λ x. Ok (Some (value_of x.0), left x.1)) (typed_adds s (entered b ((name, n) ∷ [])) e) (λ x. omega arith)

declared_adds : (s : ScopeTree) (shared : Bool) (t : TypeTree) (name : List ℕ) (n : ℕ) (x : Option TExprTree × BodyTree) → Adds x.1 0 (declared_local s shared t name n x)
declared_adds s shared t name n x =
    let end : Option TExprTree → Checked (TStmtTree × BodyTree) = λ init. Ok (SLocal (place_16 n) init, with_name x.1 name n) in
    let build : TyTree → Checked (TStmtTree × BodyTree) = λ ty. assigned_start (ELocal ty (place_16 n)) x.0 >>= end in
    demands (More x.1 0) (not (is_some (found name (innermost x.1)))) Twice (object_type s.heads s.declared t >>= build)
    (checks (More x.1 0) (object_type s.heads s.declared t) build (λ ty.
    checks (More x.1 0) (assigned_start (ELocal ty (place_16 n)) x.0) end (λ init. omega arith)))

local_adds : (s : ScopeTree) (b : BodyTree) (shared : Bool) (t : TypeTree) (name : List ℕ) (init : Option ExprTree) → Adds b (strings_of_value init) (local s b shared t name init)
local_adds s b shared t name init =
    let n : ℕ = place_32 (length b.locals) in
    let c : BodyTree = with_local b shared (ty_of s.heads.tags t) in
    last c (strings_of_value init) (started s c name n init) (λ x. declared_local s shared t name n x) (started_adds s c name n init) (λ x. declared_adds s shared t name n x)

maybe_typed_adds : (s : ScopeTree) (b : BodyTree) (e : Option ExprTree) → Adds b (strings_of_value e) (maybe_typed s b e)
maybe_typed_adds s b None = omega arith
maybe_typed_adds s b (Some e) = last b (strings e) (typed s b e) (λ x. Ok (Some x.0, x.1)) (typed_adds s b e) (λ x. omega arith)

return_adds : (s : ScopeTree) (b : BodyTree) (e : Option ExprTree) → Adds b (strings_of_value e) (return_node s b e)
return_adds s b None = demands (More b 0) (is_void s.answer) ReturnType (Ok (SReturn None, b)) (omega arith)
return_adds s b (Some e) =
    last b (strings e) (typed s b e) (λ x. returned s.answer (value_of x.0) >>= (λ e. Ok (SReturn (Some e), x.1))) (typed_adds s b e) (λ x.
    checks (More x.1 0) (returned s.answer (value_of x.0)) (λ e. Ok (SReturn (Some e), x.1)) (λ e. omega arith))

mutual
  checked_adds : (s : ScopeTree) (loop : Bool) (b : BodyTree) (t : StmtTree) → Adds b (strings_in t) (checked s loop b t)
  checked_adds s loop b EmptyTree = omega arith
  checked_adds s loop b (BlockTree all) =
      last b (strings_in_all all) (checked_all s loop (entered b []) NoTStmts all) (λ x. Ok (SBlock x.0, left x.1)) (checked_all_add s loop (entered b []) NoTStmts all) (λ x. omega arith)
  checked_adds s loop b (LocalTree shared t name init) = local_adds s b shared t name init
  checked_adds s loop b (EvalTree e) = last b (strings e) (typed s b e) (λ x. Ok (SEval (value_of x.0), x.1)) (typed_adds s b e) (λ x. omega arith)
  checked_adds s loop b (AssignTree to e) =
      step b (strings to) (strings e) (typed s b to) (λ x. typed s x.1 e >>= (λ y. assigned x.0 (value_of y.0) >>= (λ e. Ok (SAssign x.0 e, y.1)))) (typed_adds s b to) (λ x.
      last x.1 (strings e) (typed s x.1 e) (λ y. assigned x.0 (value_of y.0) >>= (λ e. Ok (SAssign x.0 e, y.1))) (typed_adds s x.1 e) (λ y.
      checks (More y.1 0) (assigned x.0 (value_of y.0)) (λ e. Ok (SAssign x.0 e, y.1)) (λ e. omega arith)))
  checked_adds s loop b (IfTree test one other) =
      let whole : TExprTree × BodyTree → TStmtTree × BodyTree → MaybeTStmt × BodyTree → Checked (TStmtTree × BodyTree) = λ t x y. condition (value_of t.0) >>= (λ c. Ok (SIf c x.0 y.0, y.1)) in
      let rest : TExprTree × BodyTree → TStmtTree × BodyTree → Checked (TStmtTree × BodyTree) = λ t x. checked_maybe s loop x.1 other >>= (λ y. whole t x y) in
      step b (strings test) (strings_in one + strings_in_maybe other) (typed s b test) (λ t. checked s loop t.1 one >>= (λ x. rest t x)) (typed_adds s b test) (λ t.
      step t.1 (strings_in one) (strings_in_maybe other) (checked s loop t.1 one) (λ x. rest t x) (checked_adds s loop t.1 one) (λ x.
      last x.1 (strings_in_maybe other) (checked_maybe s loop x.1 other) (λ y. whole t x y) (maybe_adds s loop x.1 other) (λ y.
      checks (More y.1 0) (condition (value_of t.0)) (λ c. Ok (SIf c x.0 y.0, y.1)) (λ c. omega arith))))
  checked_adds s loop b (WhileTree test body) =
      step b (strings test) (strings_in body) (typed s b test) (λ t. checked s true t.1 body >>= (λ x. condition (value_of t.0) >>= (λ c. Ok (SWhile c x.0, x.1)))) (typed_adds s b test) (λ t.
      last t.1 (strings_in body) (checked s true t.1 body) (λ x. condition (value_of t.0) >>= (λ c. Ok (SWhile c x.0, x.1))) (checked_adds s true t.1 body) (λ x.
      checks (More x.1 0) (condition (value_of t.0)) (λ c. Ok (SWhile c x.0, x.1)) (λ c. omega arith)))
  checked_adds s loop b (ForTree first test next body) =
      let a : ℕ = strings_in_maybe first in
      let c : ℕ = strings_of_value test in
      let d : ℕ = strings_in_maybe next in
      let e : ℕ = strings_in body in
      let whole : MaybeTStmt × BodyTree → Option TExprTree × BodyTree → MaybeTStmt × BodyTree → TStmtTree × BodyTree → Checked (TStmtTree × BodyTree) = λ f t n x. maybe_condition t.0 >>= (λ c. Ok (SFor f.0 c n.0 x.0, x.1)) in
      let third : MaybeTStmt × BodyTree → Option TExprTree × BodyTree → MaybeTStmt × BodyTree → Checked (TStmtTree × BodyTree) = λ f t n. checked s true n.1 body >>= (λ x. whole f t n x) in
      let second : MaybeTStmt × BodyTree → Option TExprTree × BodyTree → Checked (TStmtTree × BodyTree) = λ f t. checked_maybe s loop t.1 next >>= (λ n. third f t n) in
      let after : MaybeTStmt × BodyTree → Checked (TStmtTree × BodyTree) = λ f. maybe_typed s f.1 test >>= (λ t. second f t) in
      step b a (c + (d + e)) (checked_maybe s loop b first) after (maybe_adds s loop b first) (λ f.
      step f.1 c (d + e) (maybe_typed s f.1 test) (λ t. second f t) (maybe_typed_adds s f.1 test) (λ t.
      step t.1 d e (checked_maybe s loop t.1 next) (λ n. third f t n) (maybe_adds s loop t.1 next) (λ n.
      last n.1 e (checked s true n.1 body) (λ x. whole f t n x) (checked_adds s true n.1 body) (λ x.
      checks (More x.1 0) (maybe_condition t.0) (λ c. Ok (SFor f.0 c n.0 x.0, x.1)) (λ c. omega arith)))))
  checked_adds s loop b BreakTree = demands (More b 0) loop BreakOutside (Ok (SBreak, b)) (omega arith)
  checked_adds s loop b ContinueTree = demands (More b 0) loop BreakOutside (Ok (SContinue, b)) (omega arith)
  checked_adds s loop b (ReturnTree e) = return_adds s b e

  maybe_adds : (s : ScopeTree) (loop : Bool) (b : BodyTree) (t : MaybeStmt) → Adds b (strings_in_maybe t) (checked_maybe s loop b t)
  maybe_adds s loop b Absent = omega arith
  maybe_adds s loop b (Present t) = last b (strings_in t) (checked s loop b t) (λ x. Ok (OneTStmt x.0, x.1)) (checked_adds s loop b t) (λ x. omega arith)

  checked_all_add : (s : ScopeTree) (loop : Bool) (b : BodyTree) (before : TStmtTrees) (all : StmtTrees) → Adds b (strings_in_all all) (checked_all s loop b before all)
  checked_all_add s loop b before NoStmts = omega arith
  checked_all_add s loop b before (MoreStmts t rest) =
      step b (strings_in t) (strings_in_all rest) (checked s loop b t) (λ x. checked_all s loop x.1 (followed before x.0) rest) (checked_adds s loop b t) (λ x.
      checked_all_add s loop x.1 (followed before x.0) rest)

-- ---- programs

abbrev functions_in : DeclTree → ℕ
functions_in (StructTree name members) = 0
functions_in (GlobalTree grant readers t name init) = 0
functions_in (parsed.FunctionTree entry answer name params body) = 1

abbrev function_count : List PlacedDecl → ℕ
function_count [] = 0
function_count (d ∷ ds) = functions_in d.decl + function_count ds

-- heads with so many functions more
abbrev Heads : HeadsTree → ℕ → HeadsTree → Type 0
Heads h n g = length g.functions ≡ length h.functions + n

struct_counted : (h : HeadsTree) (name : List ℕ) (members : List (TypeTree × List ℕ)) → Ends (Heads h 0) (struct_head h name members)
struct_counted h name members =
    let end : List plain.MemberTree → Layout → Checked HeadsTree = λ ms layout. Ok (with_struct h layout name ms) in
    let build : List plain.MemberTree → Checked HeadsTree = λ ms. struct_layout h.layouts ms >>= (λ layout. end ms layout) in
    demands (Heads h 0) (is_next (found name h.tags) (place_32 (length h.structs))) Twice (demand (not (repeats [] (names_of members))) Twice (members_behind h [] members >>= build))
    (demands (Heads h 0) (not (repeats [] (names_of members))) Twice (members_behind h [] members >>= build)
    (checks (Heads h 0) (members_behind h [] members) build (λ ms.
    checks (Heads h 0) (struct_layout h.layouts ms) (λ layout. end ms layout) (λ layout. omega arith))))

global_counted : (h : HeadsTree) (library : ℕ) (grant readers : Grant) (t : TypeTree) (name : List ℕ) (init : Init) → Ends (Heads h 0) (global_head h library grant readers t name init)
global_counted h library grant readers t name init =
    let end : TyTree → Checked HeadsTree = λ ty. Ok (with_global h (record { library = library; grant = grant; readers = readers; ty = ty; name = name; init = init })) in
    let build : TyTree → Checked HeadsTree = λ ty. demand (is_initial ty init) Initialiser (end ty) in
    demands (Heads h 0) (not (is_declared h name)) Twice (object_type h (place_32 (length h.structs)) t >>= build)
    (checks (Heads h 0) (object_type h (place_32 (length h.structs)) t) build (λ ty.
    demands (Heads h 0) (is_initial ty init) Initialiser (end ty) (omega arith)))

function_counted : (h : HeadsTree) (library : ℕ) (entry : Bool) (answer : TypeTree) (name : List ℕ) (params : List ParamTree) → Ends (Heads h 1) (function_head h library entry answer name params)
function_counted h library entry answer name params =
    let f : FunctionHead = record { library = library; entry = entry; answer = ty_of h.tags answer; name = name; params = params_of h.tags params } in
    let end : Checked HeadsTree = Ok (heads.with_function h f) in
    let short : Checked HeadsTree = demand (nat_le (length params) 6) TooManyParameters end in
    let named : Checked HeadsTree = demand (is_answer h.tags answer && are_params h.tags params) UnknownType short in
    demands (Heads h 1) (not (is_declared h name)) Twice (demand (not (repeats [] (param_names params))) Twice named)
    (demands (Heads h 1) (not (repeats [] (param_names params))) Twice named
    (demands (Heads h 1) (is_answer h.tags answer && are_params h.tags params) UnknownType short
    (demands (Heads h 1) (nat_le (length params) 6) TooManyParameters end (length_push h.functions f))))

head_counted : (h : HeadsTree) (library : ℕ) (d : DeclTree) → Ends (Heads h (functions_in d)) (head h library d)
head_counted h library (StructTree name members) = struct_counted h name members
head_counted h library (GlobalTree grant readers t name init) = global_counted h library grant readers t name init
head_counted h library (parsed.FunctionTree entry answer name params body) = function_counted h library entry answer name params

heads_counted : (n : ℕ) (h : HeadsTree) (ds : List PlacedDecl) → Ends (Heads h (function_count ds)) (heads_of n h ds)
heads_counted n h [] = omega arith
heads_counted n h (d ∷ ds) = by (head h d.library d.decl) (head_counted h d.library d.decl) (λ g. heads_counted (n + 1) g ds)
  where
    then_counted : (g : HeadsTree) (r : Result HeadsTree TypeError) → Heads h (functions_in d.decl) g → Ends (Heads g (function_count ds)) r → Ends (Heads h (function_count (d ∷ ds))) r
    then_counted g (Ok e) one more = omega (arith, one, more)
    then_counted g (Err e) one more = tt

    by : (r : Checked HeadsTree) → Ends (Heads h (functions_in d.decl)) r → ((g : HeadsTree) → Ends (Heads g (function_count ds)) (heads_of (n + 1) g ds)) → Ends (Heads h (function_count (d ∷ ds))) (at_declaration n r >>> (λ g. heads_of (n + 1) g ds))
    by (Ok g) one more = then_counted g (heads_of (n + 1) g ds) one (more g)
    by (Err (fault.Rule kind)) one more = tt
    by (Err fault.OutOfMemory) one more = tt

-- so many strings and functions more
abbrev Gains : BodiesTree → ℕ → ℕ → BodiesTree → Type 0
Gains b n m c = (length c.literals ≡ length b.literals + n) × (length c.functions ≡ length b.functions + m)

finished_gains : (h : HeadsTree) (b : BodiesTree) (f : FunctionHead) (n : ℕ) (r : Checked (TStmtTrees × BodyTree)) → Ends (λ (x : TStmtTrees × BodyTree). length x.1.literals ≡ length b.literals + n) r → Ends (Gains b n 1) (r >>= (λ x. finished h b f x))
finished_gains h b f n (Ok x) adds =
    let made : FunctionTree = function_of f x.1.locals x.0 in
    demands (Gains b n 1) (nat_le (frame_size (known h.layouts) (types_of_locals x.1.locals) x.0) 65536) FrameTooLong (Ok (with_function b x.1.literals made)) (adds, length_push b.functions made)
finished_gains h b f n (Err e) adds = tt

there : (fs : List FunctionHead) (n : ℕ) → n < length fs → slice_get fs n ≡ None → ⊥
there [] n less is = absurd (omega arith)
there (x ∷ fs) zero less is = cc
there (x ∷ fs) (suc n) less is = there fs n (omega arith) is

function_gains : (h : HeadsTree) (b : BodiesTree) (f : Option FunctionHead) (params : List ParamTree) (body : StmtTrees) → length b.functions < length h.functions → slice_get h.functions (length b.functions) ≡ f → Ends (Gains b (strings_in_all body) 1) (function_body h b f params body)
function_gains h b None params body less at = absurd (there h.functions (length b.functions) less at)
function_gains h b (Some f) params body less at =
    let from : BodyTree = body_from b.literals f params in
    finished_gains h b f (strings_in_all body) (checked_all (scope_of h b f) false from NoTStmts body) (checked_all_add (scope_of h b f) false from NoTStmts body)

body_gains : (h : HeadsTree) (b : BodiesTree) (d : DeclTree) → length b.functions + functions_in d ≤ length h.functions → Ends (Gains b (declared_strings d) (functions_in d)) (body_of h b d)
body_gains h b (StructTree name members) within = (omega arith, omega arith)
body_gains h b (GlobalTree grant readers t name init) within = (omega arith, omega arith)
body_gains h b (parsed.FunctionTree entry answer name params body) within = function_gains h b (slice_get h.functions (length b.functions)) params body (omega arith) refl

-- a program's bodies leave so many strings more
abbrev Strings : BodiesTree → ℕ → BodiesTree → Type 0
Strings b n c = length c.literals ≡ length b.literals + n

bodies_gain : (n : ℕ) (h : HeadsTree) (b : BodiesTree) (ds : List PlacedDecl) → length b.functions + function_count ds ≤ length h.functions → Ends (Strings b (program_strings ds)) (bodies_of n h b ds)
bodies_gain n h b [] within = omega arith
bodies_gain n h b (d ∷ ds) within = by (body_of h b d.decl) (body_gains h b d.decl (omega arith)) (λ c less. bodies_gain (n + 1) h c ds less)
  where
    then_gain : (c : BodiesTree) (r : Result BodiesTree TypeError) → Strings b (declared_strings d.decl) c → Ends (Strings c (program_strings ds)) r → Ends (Strings b (program_strings (d ∷ ds))) r
    then_gain c (Ok e) one more = omega (arith, one, more)
    then_gain c (Err e) one more = tt

    by : (r : Checked BodiesTree) → Ends (Gains b (declared_strings d.decl) (functions_in d.decl)) r → ((c : BodiesTree) → length c.functions + function_count ds ≤ length h.functions → Ends (Strings c (program_strings ds)) (bodies_of (n + 1) h c ds)) → Ends (Strings b (program_strings (d ∷ ds))) (at_declaration n r >>> (λ c. bodies_of (n + 1) h c ds))
    by (Ok c) gains more = then_gain c (bodies_of (n + 1) h c ds) gains.0 (more c (omega (arith, gains.1, within)))
    by (Err (fault.Rule kind)) gains more = tt
    by (Err fault.OutOfMemory) gains more = tt

-- a program of so many strings
abbrev Has : ℕ → ProgramTree → Type 0
Has n p = length p.literals ≡ n

program_has : (h : HeadsTree) (n : ℕ) (main : Result ℕ TypeError) (r : Result BodiesTree TypeError) → Ends (Strings no_bodies n) r → Ends (Has n) (r >>> (λ b. main >>> (λ main. Ok (program_of h b main))))
program_has h n (Ok m) (Ok b) is = omega (arith, is)
program_has h n (Err e) (Ok b) is = tt
program_has h n main (Err e) is = tt

heads_have : (ds : List PlacedDecl) (none : HeadsTree) (r : Result HeadsTree TypeError) → length none.functions ≡ 0 → Ends (Heads none (function_count ds)) r → Ends (Has (program_strings ds)) (r >>> (λ h. bodies_of 0 h no_bodies ds >>> (λ b. at_declaration 0 (main_number h) >>> (λ main. Ok (program_of h b main)))))
heads_have ds none (Ok h) begins counted = program_has h (program_strings ds) (at_declaration 0 (main_number h)) (bodies_of 0 h no_bodies ds) (bodies_gain 0 h no_bodies ds (omega (arith, begins, counted)))
heads_have ds none (Err e) begins counted = tt

pub literals_written : (files : List SourceFile) (p : TProgram) → well_typed (declarations files) ≡ Ok (program_tree p) → length p.literals ≡ program_strings (declarations files)
literals_written files p is =
    let ds : List PlacedDecl = declarations files in
    let none : HeadsTree = no_heads (tags_of [] ds) in
    subst (Ends (Has (program_strings ds))) is (heads_have ds none (heads_of 0 none ds) refl (heads_counted 0 none ds))
