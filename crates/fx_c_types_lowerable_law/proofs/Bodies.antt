-- Expressions and statements of a body are plain, and how many nodes they have, by the words that they are written with.
use Rattle.std.proofs.Common.{ℕ, ◌+◌, ◌*◌, ◌≤◌, Bool, true, not, nat_lt, is_some, List, [], ◌∷◌, ◌++◌, length, Option, Some, None, Ok, Err, arith}
use Rattle.fx_c_ast.specs.declared.operator.IntType.TheVariants.{Char, Ulong}
use Rattle.fx_c_ast.specs.ParsedTrees.{TypeTree, ExprTree, NumberTree, TextTree, VarTree, UnTree, BinTree, CastTree, SizeTree, IndexTree, MemberTree, ArrowTree, CallTree, GateTree, GetcTree, PutcTree, DevLoadTree, DevStoreTree, SpawnTree, SwitchTree, MeTree, ExprTrees, NoExprs, MoreExprs, StmtTree, EmptyTree, BlockTree, LocalTree, EvalTree, AssignTree, IfTree, WhileTree, ForTree, BreakTree, ContinueTree, ReturnTree, StmtTrees, NoStmts, MoreStmts, MaybeStmt, Absent, Present}
use Rattle.fx_c_ast.specs.CheckedTrees.{TyTree, IntTy, ArrayTy, TExprTree, ELiteral, ELocal, ESize, TExprTrees, NoTExprs, MoreTExprs, TStmtTree, SBlock, SLocal, SEval, SAssign, SIf, SWhile, SFor, SBreak, SContinue, SReturn, TStmtTrees, NoTStmts, MoreTStmts, MaybeTStmt, OneTStmt}
use Rattle.fx_c_types_heads.specs.Names.{found}
use Rattle.fx_c_types_rules.specs.declared.fault.TypeKind.TheVariants.{Twice, TooLarge, NotInteger, ReturnType, BreakOutside}
use Rattle.fx_c_types_rules.specs.Checks.{Checked, ◌>>=◌, demand}
use Rattle.fx_c_types_rules.specs.Types.{category, is_void}
use Rattle.fx_c_types_rules.specs.Values.{type_of, value_of, is_scalar, condition, assigned, agrees, converted}
use Rattle.fx_c_types_rules.specs.Operators.{unary, binary, cast, element}
use Rattle.fx_c_types_rules.specs.Structs.{place_32, member, arrow}
use Rattle.fx_c_types_rules.specs.Calls.{joined, putc, device_store, switch}
use Rattle.fx_c_types_heads.specs.Written.{ty_of}
use Rattle.fx_c_types_heads.specs.Heads.{object_type}
use Rattle.fx_c_types_bodies.specs.Bodies.{ScopeTree, BodyTree, then_in, variable, text_node, cast_type, cast_node, size_of_type, callee, call, gate, spawn, typed, typed_all, innermost, entered, left, with_local, with_name, started, assigned_start, declared_local, local, place_16, returned, maybe_typed, maybe_condition, return_node, followed, checked, checked_maybe, checked_all}
use Rattle.fx_c_types_model.specs.Each.{EachOfValue, EachIn, EachInMaybe, EachInAll}
use Rattle.fx_c_types_model.specs.Counts.{nodes_of_value, nodes_in, nodes_in_maybe, nodes_in_all}
use Rattle.fx_c_types_model.specs.Values.{IsEvaluated, MaybeEvaluated, AreEvaluated}
use Rattle.fx_c_types_law.proofs.Ends.{Ends, bind_ends, demand_ends, weaker}
use Rattle.fx_c_types_lowerable_law.proofs.Sources.{Constant, AllConstant, ValueConstant, ConstantIn, ConstantInMaybe, ConstantInAll, least, least_of_all, least_of_value, least_in, least_in_maybe, least_in_all}
use Rattle.fx_c_types_lowerable_law.proofs.Made.{IsPlain, IsMade, AreMade, made_more, agreed_made, condition_made, assigned_made, value_made, value_whole, unary_made, binary_made, element_made, cast_made, member_made, arrow_made, variable_made, none_made, push_made, call_made, gate_made, spawn_made, putc_made, store_made, switch_made}

any : {A : Type 0} (r : Checked A) → Ends (λ (x : A). Unit {0}) r
any (Ok x) = tt
any (Err e) = tt

-- of a node and what is there after it, the node
abbrev pub First : {A : Type 0} → (A → Type 0) → A × BodyTree → Type 0
First P x = P x.0

-- a node of so many words at least
abbrev pub Made : ℕ → TExprTree × BodyTree → Type 0
Made n x = IsMade (3 * n) x.0

closing : (n k : ℕ) (c : BodyTree) (m : Checked TExprTree) → n ≤ 3 * k → Ends (IsMade n) m → Ends (Made k) (then_in c m)
closing n k c (Ok x) le h = made_more n (3 * k) x le h
closing n k c (Err e) le h = tt

building : {A B : Type 0} (P : A → Type 0) (Q : B → Type 0) (c : BodyTree) (m : Checked A) (make : A → B) → Ends P m → ((a : A) → P a → Q (make a)) → Ends (First Q) (m >>= (λ a. Ok (make a, c)))
building P Q c (Ok x) make h k = k x h
building P Q c (Err e) make h k = tt

-- ---- statements that are plain, where what is evaluated alone has a value, and that have at most so many nodes

pub record IsBuilt (n : ℕ) (s : TStmtTree) : Type 0 where
  pub plain : EachIn IsPlain s
  pub whole : IsEvaluated s
  pub count : nodes_in s ≤ n

pub record MaybeBuilt (n : ℕ) (s : MaybeTStmt) : Type 0 where
  pub plain : EachInMaybe IsPlain s
  pub whole : MaybeEvaluated s
  pub count : nodes_in_maybe s ≤ n

pub record AreBuilt (n : ℕ) (all : TStmtTrees) : Type 0 where
  pub plain : EachInAll IsPlain all
  pub whole : AreEvaluated all
  pub count : nodes_in_all all ≤ n

-- a value that is made where it is there
abbrev pub ValueMade : ℕ → Option TExprTree → Type 0
ValueMade n None = Unit {0}
ValueMade n (Some e) = IsMade n e

-- with room for two conversions
record ValueBuilt (n : ℕ) (e : Option TExprTree) : Type 0 where
  plain : EachOfValue IsPlain e
  count : nodes_of_value e ≤ n

value_built : (n : ℕ) (e : Option TExprTree) → ValueMade ((n + 1) + 1) e → ValueBuilt n e
value_built n None h = record { plain = tt; count = omega arith }
value_built n (Some e) h = record { plain = h.plain; count = omega (arith, h.count) }

module _ (s : ScopeTree) where
  text_made : (b : BodyTree) (bytes : List ℕ) → Ends (Made 1) (text_node b bytes)
  text_made b bytes =
      let c : BodyTree = record b { literals = b.literals ++ (bytes ++ 0 ∷ []) ∷ [] } in
      demand_ends (Made 1) (nat_lt (length bytes) 67108864) TooLarge (Ok (ELiteral (ArrayTy (IntTy Char) (length bytes + 1)) (place_32 (length b.literals)), c)) (λ short.
      record { plain = (tt, tt); count = omega arith })

  cast_node_made : (n : ℕ) (t : TypeTree) (e : TExprTree) → IsMade n e → Ends (IsMade ((n + 1) + 1)) (cast_node s t e)
  cast_node_made n t e h =
      bind_ends (λ (ty : TyTree). Unit {0}) (IsMade ((n + 1) + 1)) (cast_type s t) (λ ty. cast ty (value_of e)) (any (cast_type s t)) (λ ty _.
      cast_made (n + 1) ty (value_of e) (value_made n e h))

  size_made : (t : TypeTree) → Ends (IsMade 3) (size_of_type s t)
  size_made t = bind_ends (λ (ty : TyTree). Unit {0}) (IsMade 3) (object_type s.heads s.declared t) (λ ty. Ok (ESize (IntTy Ulong) ty)) (any (object_type s.heads s.declared t)) (λ ty _. record { plain = (tt, tt); count = omega arith })

  -- ---- expressions

  mutual
    pub typed_made : (b : BodyTree) (e : ExprTree) → Constant e → Ends (λ (x : TExprTree × BodyTree). IsMade (3 * least e) x.0) (typed s b e)
    typed_made b (NumberTree value ty) w = record { plain = (w, tt); count = omega arith }
    typed_made b (TextTree bytes) w = text_made b bytes
    typed_made b (VarTree name) w = closing 3 1 b (variable s.heads b name) (omega arith) (variable_made s.heads b name)
    typed_made b (UnTree op e) w =
        bind_ends (Made (least e)) (Made (1 + least e)) (typed s b e) (λ x. then_in x.1 (unary s.declared op x.0)) (typed_made b e w) (λ x h.
        closing ((3 * least e + 1) + 2) (1 + least e) x.1 (unary s.declared op x.0) (omega arith) (unary_made (3 * least e) s.declared op x.0 h))
    typed_made b (BinTree op e f) w =
        bind_ends (Made (least e)) (Made (1 + (least e + least f))) (typed s b e) (λ x. typed s x.1 f >>= (λ y. then_in y.1 (binary s.declared op x.0 y.0))) (typed_made b e w.0) (λ x h.
        bind_ends (Made (least f)) (Made (1 + (least e + least f))) (typed s x.1 f) (λ y. then_in y.1 (binary s.declared op x.0 y.0)) (typed_made x.1 f w.1) (λ y k.
        closing ((3 * least e + 1) + (3 * least f + 1) + 1) (1 + (least e + least f)) y.1 (binary s.declared op x.0 y.0) (omega arith) (binary_made (3 * least e) (3 * least f) s.declared op x.0 y.0 h k)))
    typed_made b (CastTree t e) w =
        bind_ends (Made (least e)) (Made (1 + least e)) (typed s b e) (λ x. then_in x.1 (cast_node s t x.0)) (typed_made b e w) (λ x h.
        closing ((3 * least e + 1) + 1) (1 + least e) x.1 (cast_node s t x.0) (omega arith) (cast_node_made (3 * least e) t x.0 h))
    typed_made b (SizeTree t) w = closing 3 1 b (size_of_type s t) (omega arith) (size_made t)
    typed_made b (IndexTree e f) w =
        bind_ends (Made (least e)) (Made (1 + (least e + least f))) (typed s b e) (λ x. typed s x.1 f >>= (λ y. then_in y.1 (element s.declared (value_of x.0) (value_of y.0)))) (typed_made b e w.0) (λ x h.
        bind_ends (Made (least f)) (Made (1 + (least e + least f))) (typed s x.1 f) (λ y. then_in y.1 (element s.declared (value_of x.0) (value_of y.0))) (typed_made x.1 f w.1) (λ y k.
        closing ((3 * least e + 1) + (3 * least f + 1) + 1) (1 + (least e + least f)) y.1 (element s.declared (value_of x.0) (value_of y.0)) (omega arith)
        (element_made (3 * least e + 1) (3 * least f + 1) s.declared (value_of x.0) (value_of y.0) (value_made (3 * least e) x.0 h) (value_made (3 * least f) y.0 k))))
    typed_made b (MemberTree e name) w =
        bind_ends (Made (least e)) (Made (1 + least e)) (typed s b e) (λ x. then_in x.1 (member s.heads.structs s.declared name x.0)) (typed_made b e w) (λ x h.
        closing (3 * least e + 1) (1 + least e) x.1 (member s.heads.structs s.declared name x.0) (omega arith) (member_made (3 * least e) s.heads.structs s.declared name x.0 h))
    typed_made b (ArrowTree e name) w =
        bind_ends (Made (least e)) (Made (1 + least e)) (typed s b e) (λ x. then_in x.1 (arrow s.heads.structs s.declared name (value_of x.0))) (typed_made b e w) (λ x h.
        closing ((3 * least e + 1) + 1) (1 + least e) x.1 (arrow s.heads.structs s.declared name (value_of x.0)) (omega arith) (arrow_made (3 * least e + 1) s.heads.structs s.declared name (value_of x.0) (value_made (3 * least e) x.0 h)))
    typed_made b (CallTree name all) w =
        bind_ends (First (AreMade (0 + 3 * least_of_all all))) (Made (1 + least_of_all all)) (typed_all s b NoTExprs all) (λ x. then_in x.1 (call s.library (callee s.heads x.1 name) x.0)) (all_made b 0 NoTExprs all w none_made) (λ x h.
        closing ((0 + 3 * least_of_all all) + 3) (1 + least_of_all all) x.1 (call s.library (callee s.heads x.1 name) x.0) (omega arith) (call_made (0 + 3 * least_of_all all) s.library (callee s.heads x.1 name) x.0 h))
    typed_made b (GateTree name all) w =
        bind_ends (First (AreMade (0 + 3 * least_of_all all))) (Made (1 + least_of_all all)) (typed_all s b NoTExprs all) (λ x. then_in x.1 (gate (callee s.heads x.1 name) x.0)) (all_made b 0 NoTExprs all w none_made) (λ x h.
        closing ((0 + 3 * least_of_all all) + 3) (1 + least_of_all all) x.1 (gate (callee s.heads x.1 name) x.0) (omega arith) (gate_made (0 + 3 * least_of_all all) (callee s.heads x.1 name) x.0 h))
    typed_made b GetcTree w = record { plain = (tt, tt); count = omega arith }
    typed_made b (PutcTree e) w =
        bind_ends (Made (least e)) (Made (1 + least e)) (typed s b e) (λ x. then_in x.1 (putc x.0)) (typed_made b e w) (λ x h.
        closing (3 * least e + 3) (1 + least e) x.1 (putc x.0) (omega arith) (putc_made (3 * least e) x.0 h))
    typed_made b (DevLoadTree device register) w = record { plain = (tt, tt); count = omega arith }
    typed_made b (DevStoreTree device register e) w =
        bind_ends (Made (least e)) (Made (1 + least e)) (typed s b e) (λ x. then_in x.1 (device_store device register x.0)) (typed_made b e w) (λ x h.
        closing (3 * least e + 3) (1 + least e) x.1 (device_store device register x.0) (omega arith) (store_made (3 * least e) device register x.0 h))
    typed_made b (SpawnTree name e) w =
        bind_ends (Made (least e)) (Made (1 + least e)) (typed s b e) (λ x. then_in x.1 (spawn s.library (callee s.heads x.1 name) (value_of x.0))) (typed_made b e w) (λ x h.
        closing ((3 * least e + 1) + 2) (1 + least e) x.1 (spawn s.library (callee s.heads x.1 name) (value_of x.0)) (omega arith) (spawn_made (3 * least e + 1) s.library (callee s.heads x.1 name) (value_of x.0) (value_made (3 * least e) x.0 h)))
    typed_made b (SwitchTree e) w =
        bind_ends (Made (least e)) (Made (1 + least e)) (typed s b e) (λ x. then_in x.1 (switch x.0)) (typed_made b e w) (λ x h.
        closing (3 * least e + 3) (1 + least e) x.1 (switch x.0) (omega arith) (switch_made (3 * least e) x.0 h))
    typed_made b MeTree w = record { plain = (tt, tt); count = omega arith }

    all_made : (b : BodyTree) (n : ℕ) (before : TExprTrees) (es : ExprTrees) → AllConstant es → AreMade n before → Ends (λ (x : TExprTrees × BodyTree). AreMade (n + 3 * least_of_all es) x.0) (typed_all s b before es)
    all_made b n before NoExprs w are = record { plain = are.plain; count = omega (arith, are.count) }
    all_made b n before (MoreExprs e rest) w are =
        let Q : TExprTrees × BodyTree → Type 0 = First (AreMade (n + 3 * (least e + least_of_all rest))) in
        bind_ends (Made (least e)) Q (typed s b e) (λ x. typed_all s x.1 (joined before (MoreTExprs (value_of x.0) NoTExprs)) rest) (typed_made b e w.0) (λ x h.
        let next : TExprTrees = joined before (MoreTExprs (value_of x.0) NoTExprs) in
        let here : AreMade (n + 3 * least e) next = push_made n (3 * least e) before (value_of x.0) are (value_made (3 * least e) x.0 h) in
        weaker (First (AreMade ((n + 3 * least e) + 3 * least_of_all rest))) Q (typed_all s x.1 next rest) (all_made x.1 (n + 3 * least e) next rest w.1 here) (λ y k.
        record { plain = k.plain; count = omega (arith, k.count) }))

  -- ---- a declaration

  started_made : (b : BodyTree) (name : List ℕ) (n : ℕ) (init : Option ExprTree) → ValueConstant init → Ends (First (ValueMade (3 * least_of_value init + 1))) (started s b name n init)
  started_made b name n None w = tt
  started_made b name n (Some e) w =
      bind_ends (Made (least e)) (First (ValueMade (3 * least e + 1))) (typed s (entered b ((name, n) ∷ [])) e) (λ x. Ok (Some (value_of x.0), left x.1)) (typed_made (entered b ((name, n) ∷ [])) e w) (λ x h.
      value_made (3 * least e) x.0 h)

  start_made : (n : ℕ) (to : TExprTree) (init : Option TExprTree) → ValueMade n init → Ends (ValueMade (n + 1)) (assigned_start to init)
  start_made n to None h = tt
  start_made n to (Some e) h = bind_ends (IsMade (n + 1)) (ValueMade (n + 1)) (assigned to e) (λ e. Ok (Some e)) (assigned_made n to e h) (λ x k. k)

  declared_made : (m : ℕ) (shared : Bool) (t : TypeTree) (name : List ℕ) (n : ℕ) (x : Option TExprTree × BodyTree) → ValueMade (3 * m + 1) x.0 → Ends (First (IsBuilt (3 * (1 + m)))) (declared_local s shared t name n x)
  declared_made m shared t name n x h =
      let Q : TStmtTree × BodyTree → Type 0 = First (IsBuilt (3 * (1 + m))) in
      let build : TyTree → Checked (TStmtTree × BodyTree) = λ ty. assigned_start (ELocal ty (place_16 n)) x.0 >>= (λ init. Ok (SLocal (place_16 n) init, with_name x.1 name n)) in
      demand_ends Q (not (is_some (found name (innermost x.1)))) Twice (object_type s.heads s.declared t >>= build) (λ _.
      bind_ends (λ (ty : TyTree). Unit {0}) Q (object_type s.heads s.declared t) build (any (object_type s.heads s.declared t)) (λ ty _.
      building (ValueMade ((3 * m + 1) + 1)) (IsBuilt (3 * (1 + m))) (with_name x.1 name n) (assigned_start (ELocal ty (place_16 n)) x.0) (λ init. SLocal (place_16 n) init) (start_made (3 * m + 1) (ELocal ty (place_16 n)) x.0 h) (λ init k.
      let v : ValueBuilt (3 * m) init = value_built (3 * m) init k in
      record { plain = v.plain; whole = tt; count = omega (arith, v.count) })))

  local_made : (b : BodyTree) (shared : Bool) (t : TypeTree) (name : List ℕ) (init : Option ExprTree) → ValueConstant init → Ends (First (IsBuilt (3 * (1 + least_of_value init)))) (local s b shared t name init)
  local_made b shared t name init w =
      let n : ℕ = place_32 (length b.locals) in
      let c : BodyTree = with_local b shared (ty_of s.heads.tags t) in
      bind_ends (First (ValueMade (3 * least_of_value init + 1))) (First (IsBuilt (3 * (1 + least_of_value init)))) (started s c name n init) (λ x. declared_local s shared t name n x) (started_made c name n init w) (λ x h.
      declared_made (least_of_value init) shared t name n x h)

  -- ---- returns and conditions

  returned_made : (n : ℕ) (e : TExprTree) → IsMade n e → Ends (IsMade (n + 1)) (returned s.answer e)
  returned_made n e h =
      let last : Checked TExprTree = Ok (converted s.answer e) in
      demand_ends (IsMade (n + 1)) (is_scalar (category (type_of e))) NotInteger (demand (agrees s.answer e) ReturnType last) (λ _.
      demand_ends (IsMade (n + 1)) (agrees s.answer e) ReturnType last (λ agree. agreed_made n s.answer e agree h))

  return_made : (b : BodyTree) (e : Option ExprTree) → ValueConstant e → Ends (First (IsBuilt (3 * (1 + least_of_value e)))) (return_node s b e)
  return_made b None w = demand_ends (First (IsBuilt 3)) (is_void s.answer) ReturnType (Ok (SReturn None, b)) (λ _. record { plain = tt; whole = tt; count = omega arith })
  return_made b (Some e) w =
      bind_ends (Made (least e)) (First (IsBuilt (3 * (1 + least e)))) (typed s b e) (λ x. returned s.answer (value_of x.0) >>= (λ e. Ok (SReturn (Some e), x.1))) (typed_made b e w) (λ x h.
      building (IsMade ((3 * least e + 1) + 1)) (IsBuilt (3 * (1 + least e))) x.1 (returned s.answer (value_of x.0)) (λ e. SReturn (Some e)) (returned_made (3 * least e + 1) (value_of x.0) (value_made (3 * least e) x.0 h)) (λ y k.
      record { plain = k.plain; whole = tt; count = omega (arith, k.count) }))

  maybe_typed_made : (b : BodyTree) (e : Option ExprTree) → ValueConstant e → Ends (First (ValueMade (3 * least_of_value e))) (maybe_typed s b e)
  maybe_typed_made b None w = tt
  maybe_typed_made b (Some e) w = bind_ends (Made (least e)) (First (ValueMade (3 * least e))) (typed s b e) (λ x. Ok (Some x.0, x.1)) (typed_made b e w) (λ x h. h)

  test_made : (n : ℕ) (e : TExprTree) → IsMade n e → Ends (IsMade ((n + 1) + 1)) (condition (value_of e))
  test_made n e h = condition_made (n + 1) (value_of e) (value_made n e h)

  maybe_test : (n : ℕ) (e : Option TExprTree) → ValueMade n e → Ends (ValueMade ((n + 1) + 1)) (maybe_condition e)
  maybe_test n None h = tt
  maybe_test n (Some e) h = bind_ends (IsMade ((n + 1) + 1)) (ValueMade ((n + 1) + 1)) (condition (value_of e)) (λ e. Ok (Some e)) (test_made n e h) (λ x k. k)

  -- ---- statements

  followed_built : (m n : ℕ) (ts : TStmtTrees) (t : TStmtTree) → AreBuilt m ts → IsBuilt n t → AreBuilt (m + n) (followed ts t)
  followed_built m n NoTStmts t all here = record { plain = (here.plain, tt); whole = (here.whole, tt); count = omega (arith, all.count, here.count) }
  followed_built m n (MoreTStmts u rest) t all here =
      let k : AreBuilt (nodes_in_all rest + n) (followed rest t) = followed_built (nodes_in_all rest) n rest t (record { plain = all.plain.1; whole = all.whole.1; count = omega arith }) here in
      record { plain = (all.plain.0, k.plain); whole = (all.whole.0, k.whole); count = omega (arith, all.count, k.count) }

  abbrev Built : ℕ → TStmtTree × BodyTree → Type 0
  Built n x = IsBuilt (3 * n) x.0

  abbrev Maybe : ℕ → MaybeTStmt × BodyTree → Type 0
  Maybe n x = MaybeBuilt (3 * n) x.0

  mutual
    checked_built : (loop : Bool) (b : BodyTree) (t : StmtTree) → ConstantIn t → Ends (λ (x : TStmtTree × BodyTree). IsBuilt (3 * least_in t) x.0) (checked s loop b t)
    checked_built loop b EmptyTree w = record { plain = tt; whole = tt; count = omega arith }
    checked_built loop b (BlockTree all) w =
        bind_ends (First (AreBuilt (0 + 3 * least_in_all all))) (Built (1 + least_in_all all)) (checked_all s loop (entered b []) NoTStmts all) (λ x. Ok (SBlock x.0, left x.1))
        (all_built loop (entered b []) 0 NoTStmts all w (record { plain = tt; whole = tt; count = omega arith })) (λ x h.
        record { plain = h.plain; whole = h.whole; count = omega (arith, h.count) })
    checked_built loop b (LocalTree shared t name init) w = local_made b shared t name init w
    checked_built loop b (EvalTree e) w =
        bind_ends (Made (least e)) (Built (least e)) (typed s b e) (λ x. Ok (SEval (value_of x.0), x.1)) (typed_made b e w) (λ x h.
        let k : IsMade (3 * least e + 1) (value_of x.0) = value_made (3 * least e) x.0 h in
        record { plain = k.plain; whole = value_whole x.0; count = omega (arith, k.count) })
    checked_built loop b (AssignTree to e) w =
        let n : ℕ = least to + least e in
        bind_ends (Made (least to)) (Built n) (typed s b to) (λ x. typed s x.1 e >>= (λ y. assigned x.0 (value_of y.0) >>= (λ e. Ok (SAssign x.0 e, y.1)))) (typed_made b to w.0) (λ x h.
        bind_ends (Made (least e)) (Built n) (typed s x.1 e) (λ y. assigned x.0 (value_of y.0) >>= (λ e. Ok (SAssign x.0 e, y.1))) (typed_made x.1 e w.1) (λ y k.
        building (IsMade ((3 * least e + 1) + 1)) (IsBuilt (3 * n)) y.1 (assigned x.0 (value_of y.0)) (λ e. SAssign x.0 e) (assigned_made (3 * least e + 1) x.0 (value_of y.0) (value_made (3 * least e) y.0 k)) (λ v is.
        record { plain = (h.plain, is.plain); whole = tt; count = omega (arith, h.count, is.count) })))
    checked_built loop b (IfTree test one other) w =
        let n : ℕ = 1 + (least test + (least_in one + least_in_maybe other)) in
        bind_ends (Made (least test)) (Built n) (typed s b test) (λ t. checked s loop t.1 one >>= (λ x. checked_maybe s loop x.1 other >>= (λ y. condition (value_of t.0) >>= (λ c. Ok (SIf c x.0 y.0, y.1))))) (typed_made b test w.0) (λ t h.
        bind_ends (Built (least_in one)) (Built n) (checked s loop t.1 one) (λ x. checked_maybe s loop x.1 other >>= (λ y. condition (value_of t.0) >>= (λ c. Ok (SIf c x.0 y.0, y.1)))) (checked_built loop t.1 one w.1) (λ x i.
        bind_ends (Maybe (least_in_maybe other)) (Built n) (checked_maybe s loop x.1 other) (λ y. condition (value_of t.0) >>= (λ c. Ok (SIf c x.0 y.0, y.1))) (maybe_built loop x.1 other w.2) (λ y j.
        building (IsMade ((3 * least test + 1) + 1)) (IsBuilt (3 * n)) y.1 (condition (value_of t.0)) (λ c. SIf c x.0 y.0) (test_made (3 * least test) t.0 h) (λ c is.
        record { plain = (is.plain, i.plain, j.plain); whole = (i.whole, j.whole); count = omega (arith, is.count, i.count, j.count) }))))
    checked_built loop b (WhileTree test body) w =
        let n : ℕ = 1 + (least test + least_in body) in
        bind_ends (Made (least test)) (Built n) (typed s b test) (λ t. checked s true t.1 body >>= (λ x. condition (value_of t.0) >>= (λ c. Ok (SWhile c x.0, x.1)))) (typed_made b test w.0) (λ t h.
        bind_ends (Built (least_in body)) (Built n) (checked s true t.1 body) (λ x. condition (value_of t.0) >>= (λ c. Ok (SWhile c x.0, x.1))) (checked_built true t.1 body w.1) (λ x i.
        building (IsMade ((3 * least test + 1) + 1)) (IsBuilt (3 * n)) x.1 (condition (value_of t.0)) (λ c. SWhile c x.0) (test_made (3 * least test) t.0 h) (λ c is.
        record { plain = (is.plain, i.plain); whole = i.whole; count = omega (arith, is.count, i.count) })))
    checked_built loop b (ForTree first test next body) w =
        let n : ℕ = 1 + (least_in_maybe first + (least_of_value test + (least_in_maybe next + least_in body))) in
        bind_ends (Maybe (least_in_maybe first)) (Built n) (checked_maybe s loop b first) (λ f. maybe_typed s f.1 test >>= (λ t. checked_maybe s loop t.1 next >>= (λ n. checked s true n.1 body >>= (λ x. maybe_condition t.0 >>= (λ c. Ok (SFor f.0 c n.0 x.0, x.1)))))) (maybe_built loop b first w.0) (λ f h.
        bind_ends (First (ValueMade (3 * least_of_value test))) (Built n) (maybe_typed s f.1 test) (λ t. checked_maybe s loop t.1 next >>= (λ n. checked s true n.1 body >>= (λ x. maybe_condition t.0 >>= (λ c. Ok (SFor f.0 c n.0 x.0, x.1))))) (maybe_typed_made f.1 test w.1) (λ t i.
        bind_ends (Maybe (least_in_maybe next)) (Built n) (checked_maybe s loop t.1 next) (λ n. checked s true n.1 body >>= (λ x. maybe_condition t.0 >>= (λ c. Ok (SFor f.0 c n.0 x.0, x.1)))) (maybe_built loop t.1 next w.2) (λ m j.
        bind_ends (Built (least_in body)) (Built n) (checked s true m.1 body) (λ x. maybe_condition t.0 >>= (λ c. Ok (SFor f.0 c m.0 x.0, x.1))) (checked_built true m.1 body w.3) (λ x k.
        building (ValueMade ((3 * least_of_value test + 1) + 1)) (IsBuilt (3 * n)) x.1 (maybe_condition t.0) (λ c. SFor f.0 c m.0 x.0) (maybe_test (3 * least_of_value test) t.0 i) (λ c is.
        let v : ValueBuilt (3 * least_of_value test) c = value_built (3 * least_of_value test) c is in
        record { plain = (h.plain, v.plain, j.plain, k.plain); whole = (h.whole, j.whole, k.whole); count = omega (arith, h.count, v.count, j.count, k.count) })))))
    checked_built loop b BreakTree w = demand_ends (Built 1) loop BreakOutside (Ok (SBreak, b)) (λ _. record { plain = tt; whole = tt; count = omega arith })
    checked_built loop b ContinueTree w = demand_ends (Built 1) loop BreakOutside (Ok (SContinue, b)) (λ _. record { plain = tt; whole = tt; count = omega arith })
    checked_built loop b (ReturnTree e) w = return_made b e w

    maybe_built : (loop : Bool) (b : BodyTree) (t : MaybeStmt) → ConstantInMaybe t → Ends (λ (x : MaybeTStmt × BodyTree). MaybeBuilt (3 * least_in_maybe t) x.0) (checked_maybe s loop b t)
    maybe_built loop b Absent w = record { plain = tt; whole = tt; count = omega arith }
    maybe_built loop b (Present t) w =
        bind_ends (Built (least_in t)) (Maybe (least_in t)) (checked s loop b t) (λ x. Ok (OneTStmt x.0, x.1)) (checked_built loop b t w) (λ x h. record { plain = h.plain; whole = h.whole; count = h.count })

    pub all_built : (loop : Bool) (b : BodyTree) (n : ℕ) (before : TStmtTrees) (all : StmtTrees) → ConstantInAll all → AreBuilt n before → Ends (λ (x : TStmtTrees × BodyTree). AreBuilt (n + 3 * least_in_all all) x.0) (checked_all s loop b before all)
    all_built loop b n before NoStmts w are = record { plain = are.plain; whole = are.whole; count = omega (arith, are.count) }
    all_built loop b n before (MoreStmts t rest) w are =
        let Q : TStmtTrees × BodyTree → Type 0 = First (AreBuilt (n + 3 * (least_in t + least_in_all rest))) in
        bind_ends (Built (least_in t)) Q (checked s loop b t) (λ x. checked_all s loop x.1 (followed before x.0) rest) (checked_built loop b t w.0) (λ x h.
        weaker (First (AreBuilt ((n + 3 * least_in t) + 3 * least_in_all rest))) Q (checked_all s loop x.1 (followed before x.0) rest)
        (all_built loop x.1 (n + 3 * least_in t) (followed before x.0) rest w.1 (followed_built n (3 * least_in t) before x.0 are h)) (λ y k.
        record { plain = k.plain; whole = k.whole; count = omega (arith, k.count) }))
