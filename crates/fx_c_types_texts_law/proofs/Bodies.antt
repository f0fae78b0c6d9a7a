-- Expressions and statements of a body are good, by any property of types that the rules keep and the tables have.
use Rattle.std.proofs.Common.{◌≡◌, ℕ, ◌+◌, Bool, true, ◌||◌, not, nat_lt, is_some, List, [], ◌∷◌, ◌++◌, length, Option, Some, None, Ok, Err, refl, sym, subst}
use Rattle.std.proofs.lemmas.Bool.{ltb-true}
use Rattle.fx_c_ast.specs.declared.operator.IntType.TheVariants.{Char, Long, Ulong}
use Rattle.fx_c_ast.specs.ParsedTrees.{TypeTree, ExprTree, NumberTree, TextTree, VarTree, UnTree, BinTree, CastTree, SizeTree, IndexTree, MemberTree, ArrowTree, CallTree, GateTree, GetcTree, PutcTree, DevLoadTree, DevStoreTree, SpawnTree, SwitchTree, MeTree, ExprTrees, NoExprs, MoreExprs, StmtTree, EmptyTree, BlockTree, LocalTree, EvalTree, AssignTree, IfTree, WhileTree, ForTree, BreakTree, ContinueTree, ReturnTree, StmtTrees, NoStmts, MoreStmts, MaybeStmt, Absent, Present}
use Rattle.fx_c_ast.specs.CheckedTrees.{TyTree, IntTy, ArrayTy, TExprTree, ELiteral, ELocal, ESize, TExprTrees, NoTExprs, MoreTExprs, TStmtTree, SBlock, SLocal, SEval, SAssign, SIf, SWhile, SFor, SBreak, SContinue, SReturn, TStmtTrees, NoTStmts, MoreTStmts, MaybeTStmt, OneTStmt}
use Rattle.fx_c_types_heads.specs.Names.{found}
use Rattle.fx_c_types_rules.specs.declared.fault.TypeKind.TheVariants.{Twice, TooLarge, UnknownType, NotInteger, ReturnType, BreakOutside}
use Rattle.fx_c_types_rules.specs.Checks.{Checked, ◌>>=◌, demand}
use Rattle.fx_c_types_rules.specs.Types.{category, is_void, is_complete}
use Rattle.fx_c_types_rules.specs.Values.{type_of, value_of, is_scalar, condition, assigned, agrees, converted}
use Rattle.fx_c_types_rules.specs.Operators.{unary, binary, cast, element}
use Rattle.fx_c_types_rules.specs.Structs.{place_32, member, arrow}
use Rattle.fx_c_types_rules.specs.Locals as plain
use Rattle.fx_c_types_rules.specs.Calls.{joined, putc, device_store, switch}
use Rattle.fx_c_types_heads.specs.Written.{ty_of, is_named}
use Rattle.fx_c_types_heads.specs.Heads.{object_type}
use Rattle.fx_c_types_bodies.specs.Bodies.{ScopeTree, BodyTree, then_in, variable, text_node, cast_type, cast_node, size_of_type, callee, call, gate, spawn, typed, typed_all, innermost, entered, left, with_local, with_name, started, assigned_start, declared_local, local, place_16, returned, maybe_typed, maybe_condition, return_node, followed, checked, checked_maybe, checked_all}
use Rattle.fx_c_types_law.proofs.Ends.{Ends, bind_ends, demand_ends}
use Rattle.fx_c_types_model.specs.Each.{Each, EachOfAll, EachOfValue, EachIn, EachInMaybe, EachInAll}
use Rattle.fx_c_types_texts_law.proofs.Trees.{IsBare, IsDeclared, Written, AllWritten, ValueWritten, WrittenIn, WrittenInMaybe, WrittenInAll}
use Rattle.fx_c_types_texts_law.proofs.Nodes.{Good, AreClosed, AllLocals, AllGlobals, AllStructs, AllFunctions, any, type_good, converted_good, value_good, condition_good, assigned_good, unary_good, binary_good, element_good, cast_good, member_good, arrow_good, variable_good, joined_good, call_good, gate_good, spawn_good, putc_good, store_good, switch_good}

-- what a body's scope has, where types are T, and E where they have a size
pub record Knows (T E : TyTree → Type 0) (s : ScopeTree) : Type 0 where
  pub closed : AreClosed T
  pub has_size : (t : TyTree) → T t → is_complete s.declared t ≡ true → E t
  pub bare : (t : TypeTree) → IsBare t → T (ty_of s.heads.tags t)
  pub object : (t : TypeTree) → IsDeclared t → Ends (λ ty. (ty ≡ ty_of s.heads.tags t) × T ty) (object_type s.heads s.declared t)
  pub globals : AllGlobals T s.heads.globals
  pub structs : AllStructs T s.heads.structs
  pub functions : AllFunctions T s.heads.functions
  pub answer : T s.answer

locals_push : (T : TyTree → Type 0) (ls : List plain.LocalTree) (l : plain.LocalTree) → AllLocals T ls → T l.ty → AllLocals T (ls ++ l ∷ [])
locals_push T [] l all is = (is, tt)
locals_push T (x ∷ ls) l all is = (all.0, locals_push T ls l all.1 is)

-- a node that is P, and locals whose types are T
abbrev pub Leaves : {A : Type 0} → (TyTree → Type 0) → (A → Type 0) → A × BodyTree → Type 0
Leaves T P x = AllLocals T x.1.locals × P x.0

closing : {A : Type 0} (T : TyTree → Type 0) (P : A → Type 0) (c : BodyTree) (m : Checked A) → AllLocals T c.locals → Ends P m → Ends (Leaves T P) (then_in c m)
closing T P c (Ok x) locals h = (locals, h)
closing T P c (Err e) locals h = tt

building : {A B : Type 0} (T : TyTree → Type 0) (P : A → Type 0) (Q : B → Type 0) (c : BodyTree) (m : Checked A) (make : A → B) → AllLocals T c.locals → Ends P m → ((a : A) → P a → Q (make a)) → Ends (Leaves T Q) (m >>= (λ a. Ok (make a, c)))
building T P Q c (Ok x) make locals h k = (locals, k x h)
building T P Q c (Err e) make locals h k = tt

module _ (T E : TyTree → Type 0) (s : ScopeTree) (knows : Knows T E s) where
  abbrev G : TExprTree → Type 0
  G e = Each (Good T E) e

  text_good : (b : BodyTree) (bytes : List ℕ) → AllLocals T b.locals → Ends (Leaves T (Each (Good T E))) (text_node b bytes)
  text_good b bytes locals =
      let c : BodyTree = record b { literals = b.literals ++ (bytes ++ 0 ∷ []) ∷ [] } in
      demand_ends (Leaves T G) (nat_lt (length bytes) 67108864) TooLarge (Ok (ELiteral (ArrayTy (IntTy Char) (length bytes + 1)) (place_32 (length b.literals)), c)) (λ short.
      (locals, (knows.closed.text (length bytes) (ltb-true (length bytes) 67108864 short), tt, tt)))

  cast_node_good : (t : TypeTree) (e : TExprTree) → IsBare t → Each (Good T E) e → Ends (Each (Good T E)) (cast_node s t e)
  cast_node_good t e bare h =
      let last : Checked TyTree = Ok (ty_of s.heads.tags t) in
      let complete : Bool = is_void (ty_of s.heads.tags t) || is_complete s.declared (ty_of s.heads.tags t) in
      bind_ends T G (cast_type s t) (λ ty. cast ty (value_of e))
      (demand_ends T (is_named s.heads.tags t) UnknownType (demand complete UnknownType last) (λ _.
      demand_ends T complete UnknownType last (λ _. knows.bare t bare)))
      (λ ty is. cast_good T E knows.closed ty (value_of e) is (value_good T E knows.closed e h))

  size_good : (t : TypeTree) → Ends (Each (Good T E)) (size_of_type s t)
  size_good t = bind_ends (λ (ty : TyTree). Unit {0}) G (object_type s.heads s.declared t) (λ ty. Ok (ESize (IntTy Ulong) ty)) (any (object_type s.heads s.declared t)) (λ ty _. (knows.closed.number Ulong, tt, tt))

  -- ---- expressions

  mutual
    pub typed_good : (b : BodyTree) (e : ExprTree) → AllLocals T b.locals → Written e → Ends (λ (x : TExprTree × BodyTree). AllLocals T x.1.locals × Each (Good T E) x.0) (typed s b e)
    typed_good b (NumberTree value ty) locals w = (locals, (knows.closed.number ty, tt, tt))
    typed_good b (TextTree bytes) locals w = text_good b bytes locals
    typed_good b (VarTree name) locals w = closing T G b (variable s.heads b name) locals (variable_good T E knows.closed s.heads b name knows.globals locals)
    typed_good b (UnTree op e) locals w =
        bind_ends (Leaves T G) (Leaves T G) (typed s b e) (λ x. then_in x.1 (unary s.declared op x.0)) (typed_good b e locals w) (λ x h.
        closing T G x.1 (unary s.declared op x.0) h.0 (unary_good T E knows.closed s.declared op x.0 h.1))
    typed_good b (BinTree op e f) locals w =
        bind_ends (Leaves T G) (Leaves T G) (typed s b e) (λ x. typed s x.1 f >>= (λ y. then_in y.1 (binary s.declared op x.0 y.0))) (typed_good b e locals w.0) (λ x h.
        bind_ends (Leaves T G) (Leaves T G) (typed s x.1 f) (λ y. then_in y.1 (binary s.declared op x.0 y.0)) (typed_good x.1 f h.0 w.1) (λ y k.
        closing T G y.1 (binary s.declared op x.0 y.0) k.0 (binary_good T E knows.closed s.declared knows.has_size op x.0 y.0 h.1 k.1)))
    typed_good b (CastTree t e) locals w =
        bind_ends (Leaves T G) (Leaves T G) (typed s b e) (λ x. then_in x.1 (cast_node s t x.0)) (typed_good b e locals w.1) (λ x h.
        closing T G x.1 (cast_node s t x.0) h.0 (cast_node_good t x.0 w.0 h.1))
    typed_good b (SizeTree t) locals w = closing T G b (size_of_type s t) locals (size_good t)
    typed_good b (IndexTree e f) locals w =
        bind_ends (Leaves T G) (Leaves T G) (typed s b e) (λ x. typed s x.1 f >>= (λ y. then_in y.1 (element s.declared (value_of x.0) (value_of y.0)))) (typed_good b e locals w.0) (λ x h.
        bind_ends (Leaves T G) (Leaves T G) (typed s x.1 f) (λ y. then_in y.1 (element s.declared (value_of x.0) (value_of y.0))) (typed_good x.1 f h.0 w.1) (λ y k.
        closing T G y.1 (element s.declared (value_of x.0) (value_of y.0)) k.0
        (element_good T E knows.closed s.declared knows.has_size (value_of x.0) (value_of y.0) (value_good T E knows.closed x.0 h.1) (value_good T E knows.closed y.0 k.1))))
    typed_good b (MemberTree e name) locals w =
        bind_ends (Leaves T G) (Leaves T G) (typed s b e) (λ x. then_in x.1 (member s.heads.structs s.declared name x.0)) (typed_good b e locals w) (λ x h.
        closing T G x.1 (member s.heads.structs s.declared name x.0) h.0 (member_good T E knows.closed s.heads.structs s.declared name x.0 knows.structs h.1))
    typed_good b (ArrowTree e name) locals w =
        bind_ends (Leaves T G) (Leaves T G) (typed s b e) (λ x. then_in x.1 (arrow s.heads.structs s.declared name (value_of x.0))) (typed_good b e locals w) (λ x h.
        closing T G x.1 (arrow s.heads.structs s.declared name (value_of x.0)) h.0 (arrow_good T E knows.closed s.heads.structs s.declared name (value_of x.0) knows.structs (value_good T E knows.closed x.0 h.1)))
    typed_good b (CallTree name all) locals w =
        bind_ends (Leaves T (EachOfAll (Good T E))) (Leaves T G) (typed_all s b NoTExprs all) (λ x. then_in x.1 (call s.library (callee s.heads x.1 name) x.0)) (all_good b NoTExprs all locals w tt) (λ x h.
        closing T G x.1 (call s.library (callee s.heads x.1 name) x.0) h.0 (call_good T E knows.closed s.heads x.1 s.library name x.0 knows.functions h.1))
    typed_good b (GateTree name all) locals w =
        bind_ends (Leaves T (EachOfAll (Good T E))) (Leaves T G) (typed_all s b NoTExprs all) (λ x. then_in x.1 (gate (callee s.heads x.1 name) x.0)) (all_good b NoTExprs all locals w tt) (λ x h.
        closing T G x.1 (gate (callee s.heads x.1 name) x.0) h.0 (gate_good T E knows.closed s.heads x.1 name x.0 knows.functions h.1))
    typed_good b GetcTree locals w = (locals, (knows.closed.number Long, tt, tt))
    typed_good b (PutcTree e) locals w =
        bind_ends (Leaves T G) (Leaves T G) (typed s b e) (λ x. then_in x.1 (putc x.0)) (typed_good b e locals w) (λ x h.
        closing T G x.1 (putc x.0) h.0 (putc_good T E knows.closed x.0 h.1))
    typed_good b (DevLoadTree device register) locals w = (locals, (knows.closed.number Long, tt, w))
    typed_good b (DevStoreTree device register e) locals w =
        bind_ends (Leaves T G) (Leaves T G) (typed s b e) (λ x. then_in x.1 (device_store device register x.0)) (typed_good b e locals w.1) (λ x h.
        closing T G x.1 (device_store device register x.0) h.0 (store_good T E knows.closed device register x.0 w.0 h.1))
    typed_good b (SpawnTree name e) locals w =
        bind_ends (Leaves T G) (Leaves T G) (typed s b e) (λ x. then_in x.1 (spawn s.library (callee s.heads x.1 name) (value_of x.0))) (typed_good b e locals w) (λ x h.
        closing T G x.1 (spawn s.library (callee s.heads x.1 name) (value_of x.0)) h.0 (spawn_good T E knows.closed s.heads x.1 s.library name (value_of x.0) (value_good T E knows.closed x.0 h.1)))
    typed_good b (SwitchTree e) locals w =
        bind_ends (Leaves T G) (Leaves T G) (typed s b e) (λ x. then_in x.1 (switch x.0)) (typed_good b e locals w) (λ x h.
        closing T G x.1 (switch x.0) h.0 (switch_good T E knows.closed x.0 h.1))
    typed_good b MeTree locals w = (locals, (knows.closed.number Long, tt, tt))

    all_good : (b : BodyTree) (before : TExprTrees) (es : ExprTrees) → AllLocals T b.locals → AllWritten es → EachOfAll (Good T E) before → Ends (λ (x : TExprTrees × BodyTree). AllLocals T x.1.locals × EachOfAll (Good T E) x.0) (typed_all s b before es)
    all_good b before NoExprs locals w are = (locals, are)
    all_good b before (MoreExprs e rest) locals w are =
        bind_ends (Leaves T G) (Leaves T (EachOfAll (Good T E))) (typed s b e) (λ x. typed_all s x.1 (joined before (MoreTExprs (value_of x.0) NoTExprs)) rest) (typed_good b e locals w.0) (λ x h.
        all_good x.1 (joined before (MoreTExprs (value_of x.0) NoTExprs)) rest h.0 w.1 (joined_good T E knows.closed before (value_of x.0) are (value_good T E knows.closed x.0 h.1)))

  -- ---- a declaration

  abbrev V : Option TExprTree → Type 0
  V e = EachOfValue (Good T E) e

  started_good : (b : BodyTree) (name : List ℕ) (n : ℕ) (init : Option ExprTree) → AllLocals T b.locals → ValueWritten init → Ends (Leaves T (EachOfValue (Good T E))) (started s b name n init)
  started_good b name n None locals w = (locals, tt)
  started_good b name n (Some e) locals w =
      bind_ends (Leaves T G) (Leaves T V) (typed s (entered b ((name, n) ∷ [])) e) (λ x. Ok (Some (value_of x.0), left x.1)) (typed_good (entered b ((name, n) ∷ [])) e locals w) (λ x h.
      (h.0, value_good T E knows.closed x.0 h.1))

  start_good : (ty : TyTree) (n : ℕ) (init : Option TExprTree) → T ty → EachOfValue (Good T E) init → Ends (EachOfValue (Good T E)) (assigned_start (ELocal ty n) init)
  start_good ty n None is h = tt
  start_good ty n (Some e) is h = bind_ends G V (assigned (ELocal ty n) e) (λ e. Ok (Some e)) (assigned_good T E knows.closed (ELocal ty n) e is h) (λ x k. k)

  abbrev build : (name : List ℕ) (n : ℕ) → Option TExprTree × BodyTree → TyTree → Checked (TStmtTree × BodyTree)
  build name n x ty = assigned_start (ELocal ty (place_16 n)) x.0 >>= (λ init. Ok (SLocal (place_16 n) init, with_name x.1 name n))

  declared_good : (shared : Bool) (t : TypeTree) (name : List ℕ) (n : ℕ) (x : Option TExprTree × BodyTree) → IsDeclared t → AllLocals T x.1.locals → EachOfValue (Good T E) x.0 → Ends (Leaves T (EachIn (Good T E))) (declared_local s shared t name n x)
  declared_good shared t name n x is locals h =
      let Q : TStmtTree × BodyTree → Type 0 = Leaves T (EachIn (Good T E)) in
      demand_ends Q (not (is_some (found name (innermost x.1)))) Twice (object_type s.heads s.declared t >>= build name n x) (λ _.
      bind_ends (λ ty. (ty ≡ ty_of s.heads.tags t) × T ty) Q (object_type s.heads s.declared t) (build name n x) (knows.object t is) (λ ty has.
      building T V (EachIn (Good T E)) (with_name x.1 name n) (assigned_start (ELocal ty (place_16 n)) x.0) (λ init. SLocal (place_16 n) init) locals (start_good ty (place_16 n) x.0 has.1 h) (λ init k. k)))

  local_by : (b : BodyTree) (shared : Bool) (t : TypeTree) (name : List ℕ) (init : Option ExprTree) (r : Checked TyTree) → object_type s.heads s.declared t ≡ r → AllLocals T b.locals → IsDeclared t → ValueWritten init → Ends (Leaves T (EachIn (Good T E))) (local s b shared t name init)
  local_by b shared t name init (Ok ty) same locals is w =
      let n : ℕ = place_32 (length b.locals) in
      let new : plain.LocalTree = record { shared = shared; ty = ty_of s.heads.tags t } in
      let has : (ty ≡ ty_of s.heads.tags t) × T ty = subst (λ r. Ends (λ ty. (ty ≡ ty_of s.heads.tags t) × T ty) r) same (knows.object t is) in
      bind_ends (Leaves T V) (Leaves T (EachIn (Good T E))) (started s (with_local b shared (ty_of s.heads.tags t)) name n init) (λ x. declared_local s shared t name n x)
      (started_good (with_local b shared (ty_of s.heads.tags t)) name n init (locals_push T b.locals new locals (subst T has.0 has.1)) w)
      (λ x k. declared_good shared t name n x is k.0 k.1)
  -- where the type is refused, so is the declaration
  local_by b shared t name init (Err e) same locals is w =
      let n : ℕ = place_32 (length b.locals) in
      let Q : TStmtTree × BodyTree → Type 0 = Leaves T (EachIn (Good T E)) in
      let r : Checked (Option TExprTree × BodyTree) = started s (with_local b shared (ty_of s.heads.tags t)) name n init in
      bind_ends (λ (x : Option TExprTree × BodyTree). Unit {0}) Q r (λ x. declared_local s shared t name n x) (any r) (λ x _.
      demand_ends Q (not (is_some (found name (innermost x.1)))) Twice (object_type s.heads s.declared t >>= build name n x) (λ _.
      subst (λ r. Ends Q (r >>= build name n x)) (sym same) tt))

  local_good : (b : BodyTree) (shared : Bool) (t : TypeTree) (name : List ℕ) (init : Option ExprTree) → AllLocals T b.locals → IsDeclared t → ValueWritten init → Ends (Leaves T (EachIn (Good T E))) (local s b shared t name init)
  local_good b shared t name init locals is w = local_by b shared t name init (object_type s.heads s.declared t) refl locals is w

  -- ---- returns and conditions

  returned_good : (e : TExprTree) → Each (Good T E) e → Ends (Each (Good T E)) (returned s.answer e)
  returned_good e h =
      let last : Checked TExprTree = Ok (converted s.answer e) in
      demand_ends G (is_scalar (category (type_of e))) NotInteger (demand (agrees s.answer e) ReturnType last) (λ _.
      demand_ends G (agrees s.answer e) ReturnType last (λ _. converted_good T E knows.closed s.answer e knows.answer h))

  return_good : (b : BodyTree) (e : Option ExprTree) → AllLocals T b.locals → ValueWritten e → Ends (Leaves T (EachIn (Good T E))) (return_node s b e)
  return_good b None locals w = demand_ends (Leaves T (EachIn (Good T E))) (is_void s.answer) ReturnType (Ok (SReturn None, b)) (λ _. (locals, tt))
  return_good b (Some e) locals w =
      bind_ends (Leaves T G) (Leaves T (EachIn (Good T E))) (typed s b e) (λ x. returned s.answer (value_of x.0) >>= (λ e. Ok (SReturn (Some e), x.1))) (typed_good b e locals w) (λ x h.
      building T G (EachIn (Good T E)) x.1 (returned s.answer (value_of x.0)) (λ e. SReturn (Some e)) h.0 (returned_good (value_of x.0) (value_good T E knows.closed x.0 h.1)) (λ y k. k))

  maybe_good : (b : BodyTree) (e : Option ExprTree) → AllLocals T b.locals → ValueWritten e → Ends (Leaves T (EachOfValue (Good T E))) (maybe_typed s b e)
  maybe_good b None locals w = (locals, tt)
  maybe_good b (Some e) locals w = bind_ends (Leaves T G) (Leaves T V) (typed s b e) (λ x. Ok (Some x.0, x.1)) (typed_good b e locals w) (λ x h. h)

  test_good : (e : TExprTree) → Each (Good T E) e → Ends (Each (Good T E)) (condition (value_of e))
  test_good e h = condition_good T E knows.closed (value_of e) (value_good T E knows.closed e h)

  maybe_test : (e : Option TExprTree) → EachOfValue (Good T E) e → Ends (EachOfValue (Good T E)) (maybe_condition e)
  maybe_test None h = tt
  maybe_test (Some e) h = bind_ends G V (condition (value_of e)) (λ e. Ok (Some e)) (test_good e h) (λ x k. k)

  -- ---- statements

  followed_good : (ts : TStmtTrees) (t : TStmtTree) → EachInAll (Good T E) ts → EachIn (Good T E) t → EachInAll (Good T E) (followed ts t)
  followed_good NoTStmts t all here = (here, tt)
  followed_good (MoreTStmts u rest) t all here = (all.0, followed_good rest t all.1 here)

  abbrev S : TStmtTree → Type 0
  S t = EachIn (Good T E) t

  abbrev M : MaybeTStmt → Type 0
  M t = EachInMaybe (Good T E) t

  mutual
    checked_good : (loop : Bool) (b : BodyTree) (t : StmtTree) → AllLocals T b.locals → WrittenIn t → Ends (λ (x : TStmtTree × BodyTree). AllLocals T x.1.locals × EachIn (Good T E) x.0) (checked s loop b t)
    checked_good loop b EmptyTree locals w = (locals, tt)
    checked_good loop b (BlockTree all) locals w =
        bind_ends (Leaves T (EachInAll (Good T E))) (Leaves T S) (checked_all s loop (entered b []) NoTStmts all) (λ x. Ok (SBlock x.0, left x.1)) (all_checked_good loop (entered b []) NoTStmts all locals w tt) (λ x h. h)
    checked_good loop b (LocalTree shared t name init) locals w = local_good b shared t name init locals w.0 w.1
    checked_good loop b (EvalTree e) locals w =
        bind_ends (Leaves T G) (Leaves T S) (typed s b e) (λ x. Ok (SEval (value_of x.0), x.1)) (typed_good b e locals w) (λ x h. (h.0, value_good T E knows.closed x.0 h.1))
    checked_good loop b (AssignTree to e) locals w =
        bind_ends (Leaves T G) (Leaves T S) (typed s b to) (λ x. typed s x.1 e >>= (λ y. assigned x.0 (value_of y.0) >>= (λ e. Ok (SAssign x.0 e, y.1)))) (typed_good b to locals w.0) (λ x h.
        bind_ends (Leaves T G) (Leaves T S) (typed s x.1 e) (λ y. assigned x.0 (value_of y.0) >>= (λ e. Ok (SAssign x.0 e, y.1))) (typed_good x.1 e h.0 w.1) (λ y k.
        building T G S y.1 (assigned x.0 (value_of y.0)) (λ e. SAssign x.0 e) k.0 (assigned_good T E knows.closed x.0 (value_of y.0) (type_good T E knows.closed x.0 h.1) (value_good T E knows.closed y.0 k.1)) (λ v is. (h.1, is))))
    checked_good loop b (IfTree test one other) locals w =
        bind_ends (Leaves T G) (Leaves T S) (typed s b test) (λ t. checked s loop t.1 one >>= (λ x. checked_maybe s loop x.1 other >>= (λ y. condition (value_of t.0) >>= (λ c. Ok (SIf c x.0 y.0, y.1))))) (typed_good b test locals w.0) (λ t h.
        bind_ends (Leaves T S) (Leaves T S) (checked s loop t.1 one) (λ x. checked_maybe s loop x.1 other >>= (λ y. condition (value_of t.0) >>= (λ c. Ok (SIf c x.0 y.0, y.1)))) (checked_good loop t.1 one h.0 w.1) (λ x i.
        bind_ends (Leaves T M) (Leaves T S) (checked_maybe s loop x.1 other) (λ y. condition (value_of t.0) >>= (λ c. Ok (SIf c x.0 y.0, y.1))) (maybe_checked_good loop x.1 other i.0 w.2) (λ y j.
        building T G S y.1 (condition (value_of t.0)) (λ c. SIf c x.0 y.0) j.0 (test_good t.0 h.1) (λ c is. (is, i.1, j.1)))))
    checked_good loop b (WhileTree test body) locals w =
        bind_ends (Leaves T G) (Leaves T S) (typed s b test) (λ t. checked s true t.1 body >>= (λ x. condition (value_of t.0) >>= (λ c. Ok (SWhile c x.0, x.1)))) (typed_good b test locals w.0) (λ t h.
        bind_ends (Leaves T S) (Leaves T S) (checked s true t.1 body) (λ x. condition (value_of t.0) >>= (λ c. Ok (SWhile c x.0, x.1))) (checked_good true t.1 body h.0 w.1) (λ x i.
        building T G S x.1 (condition (value_of t.0)) (λ c. SWhile c x.0) i.0 (test_good t.0 h.1) (λ c is. (is, i.1))))
    checked_good loop b (ForTree first test next body) locals w =
        bind_ends (Leaves T M) (Leaves T S) (checked_maybe s loop b first) (λ f. maybe_typed s f.1 test >>= (λ t. checked_maybe s loop t.1 next >>= (λ n. checked s true n.1 body >>= (λ x. maybe_condition t.0 >>= (λ c. Ok (SFor f.0 c n.0 x.0, x.1)))))) (maybe_checked_good loop b first locals w.0) (λ f h.
        bind_ends (Leaves T V) (Leaves T S) (maybe_typed s f.1 test) (λ t. checked_maybe s loop t.1 next >>= (λ n. checked s true n.1 body >>= (λ x. maybe_condition t.0 >>= (λ c. Ok (SFor f.0 c n.0 x.0, x.1))))) (maybe_good f.1 test h.0 w.1) (λ t i.
        bind_ends (Leaves T M) (Leaves T S) (checked_maybe s loop t.1 next) (λ n. checked s true n.1 body >>= (λ x. maybe_condition t.0 >>= (λ c. Ok (SFor f.0 c n.0 x.0, x.1)))) (maybe_checked_good loop t.1 next i.0 w.2) (λ n j.
        bind_ends (Leaves T S) (Leaves T S) (checked s true n.1 body) (λ x. maybe_condition t.0 >>= (λ c. Ok (SFor f.0 c n.0 x.0, x.1))) (checked_good true n.1 body j.0 w.3) (λ x k.
        building T V S x.1 (maybe_condition t.0) (λ c. SFor f.0 c n.0 x.0) k.0 (maybe_test t.0 i.1) (λ c is. (h.1, is, j.1, k.1))))))
    checked_good loop b BreakTree locals w = demand_ends (Leaves T S) loop BreakOutside (Ok (SBreak, b)) (λ _. (locals, tt))
    checked_good loop b ContinueTree locals w = demand_ends (Leaves T S) loop BreakOutside (Ok (SContinue, b)) (λ _. (locals, tt))
    checked_good loop b (ReturnTree e) locals w = return_good b e locals w

    maybe_checked_good : (loop : Bool) (b : BodyTree) (t : MaybeStmt) → AllLocals T b.locals → WrittenInMaybe t → Ends (λ (x : MaybeTStmt × BodyTree). AllLocals T x.1.locals × EachInMaybe (Good T E) x.0) (checked_maybe s loop b t)
    maybe_checked_good loop b Absent locals w = (locals, tt)
    maybe_checked_good loop b (Present t) locals w = bind_ends (Leaves T S) (Leaves T M) (checked s loop b t) (λ x. Ok (OneTStmt x.0, x.1)) (checked_good loop b t locals w) (λ x h. h)

    pub all_checked_good : (loop : Bool) (b : BodyTree) (before : TStmtTrees) (all : StmtTrees) → AllLocals T b.locals → WrittenInAll all → EachInAll (Good T E) before → Ends (λ (x : TStmtTrees × BodyTree). AllLocals T x.1.locals × EachInAll (Good T E) x.0) (checked_all s loop b before all)
    all_checked_good loop b before NoStmts locals w are = (locals, are)
    all_checked_good loop b before (MoreStmts t rest) locals w are =
        bind_ends (Leaves T S) (Leaves T (EachInAll (Good T E))) (checked s loop b t) (λ x. checked_all s loop x.1 (followed before x.0) rest) (checked_good loop b t locals w.0) (λ x h.
        all_checked_good loop x.1 (followed before x.0) rest h.0 w.1 (followed_good before x.0 are h.1))
