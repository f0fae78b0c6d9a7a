-- What a function's body leaves: its locals have sizes, and the strings of the program are short.
use Rattle.std.proofs.Common.{◌≡◌, ℕ, ◌+◌, ◌<◌, ◌≤◌, Bool, true, not, nat_lt, is_some, List, [], ◌∷◌, ◌++◌, length, Option, Some, None, Ok, Err, refl, sym, ◌∙◌, arith, subst}
use Rattle.std.specs.Prelude.{All}
use Rattle.std.proofs.lemmas.Bool.{ltb-true}
use Rattle.std.proofs.lemmas.List.{length-append}
use Rattle.std.proofs.lemmas.List.Elements.{All-push}
use Rattle.fx_c_ast.specs.declared.operator.IntType.TheVariants.{Char}
use Rattle.fx_c_ast.specs.ParsedTrees.{TypeTree, ExprTree, NumberTree, TextTree, VarTree, UnTree, BinTree, CastTree, SizeTree, IndexTree, MemberTree, ArrowTree, CallTree, GateTree, GetcTree, PutcTree, DevLoadTree, DevStoreTree, SpawnTree, SwitchTree, MeTree, ExprTrees, NoExprs, MoreExprs, StmtTree, EmptyTree, BlockTree, LocalTree, EvalTree, AssignTree, IfTree, WhileTree, ForTree, BreakTree, ContinueTree, ReturnTree, StmtTrees, NoStmts, MoreStmts, MaybeStmt, Absent, Present}
use Rattle.fx_c_ast.specs.CheckedTrees.{TyTree, IntTy, ArrayTy, TExprTree, ELiteral, ELocal, TExprTrees, MoreTExprs, NoTExprs, TStmtTree, SBlock, SLocal, SEval, SAssign, SIf, SWhile, SFor, SBreak, SContinue, SReturn, TStmtTrees, NoTStmts, MaybeTStmt, OneTStmt}
use Rattle.fx_c_ast.specs.Layout.{IsSized}
use Rattle.fx_c_ast.proofs.Layouts.{more_bound}
use Rattle.fx_c_types_heads.specs.Names.{found}
use Rattle.fx_c_types_rules.specs.declared.fault.TypeKind.TheVariants.{Twice, TooLarge, ReturnType, BreakOutside}
use Rattle.fx_c_types_rules.specs.Checks.{Checked, ◌>>=◌}
use Rattle.fx_c_types_rules.specs.Types.{is_void}
use Rattle.fx_c_types_rules.specs.Values.{value_of, condition, assigned}
use Rattle.fx_c_types_rules.specs.Operators.{unary, binary, element}
use Rattle.fx_c_types_rules.specs.Structs.{place_32, member, arrow}
use Rattle.fx_c_types_rules.specs.Calls.{joined, putc, device_store, switch}
use Rattle.fx_c_types_heads.specs.Written.{ty_of}
use Rattle.fx_c_types_heads.specs.Sizes.{known}
use Rattle.fx_c_types_heads.specs.Heads.{object_type}
use Rattle.fx_c_types_bodies.specs.Bodies.{ScopeTree, BodyTree, then_in, variable, text_node, cast_node, size_of_type, callee, call, gate, spawn, typed, typed_all, innermost, entered, left, with_local, with_name, started, assigned_start, declared_local, local, place_16, returned, maybe_typed, maybe_condition, return_node, followed, checked, checked_maybe, checked_all}
use Rattle.fx_c_types_law.proofs.Ends.{Ends, bind_ends, demand_ends, weaker}
use Rattle.fx_c_types_law.proofs.Heads.{IsSizedLocal, object_ends}

-- ---- expressions keep the locals

abbrev pub IsText : List ℕ → Type 0
IsText bytes = length bytes ≤ 67108864

abbrev pub Keeps : BodyTree → BodyTree → Type 0
Keeps b c = (c.locals ≡ b.locals) × (All IsText b.literals → All IsText c.literals)

abbrev Keeping : {A : Type 0} → BodyTree → Checked (A × BodyTree) → Type 0
Keeping {A} b r = Ends (λ (x : A × BodyTree). Keeps b x.1) r

step : {A B : Type 0} (b : BodyTree) (r : Checked (A × BodyTree)) (f : A × BodyTree → Checked (B × BodyTree)) → Keeping b r → ((x : A × BodyTree) → Keeping x.1 (f x)) → Keeping b (r >>= f)
step {A} {B} b (Ok x) f h k = weaker (λ (y : B × BodyTree). Keeps x.1 y.1) (λ (y : B × BodyTree). Keeps b y.1) (f x) (k x) (λ y more. (more.0 ∙ h.0, λ are. more.1 (h.1 are)))
step b (Err e) f h k = tt

stays : {A : Type 0} (b : BodyTree) (m : Checked A) → Keeping b (then_in b m)
stays b (Ok x) = (refl, λ are. are)
stays b (Err e) = tt

text_keeps : (b : BodyTree) (bytes : List ℕ) → Keeping b (text_node b bytes)
text_keeps b bytes =
    let node : TExprTree = ELiteral (ArrayTy (IntTy Char) (length bytes + 1)) (place_32 (length b.literals)) in
    demand_ends (λ (x : TExprTree × BodyTree). Keeps b x.1) (nat_lt (length bytes) 67108864) TooLarge (Ok (node, record b { literals = b.literals ++ (bytes ++ 0 ∷ []) ∷ [] })) (λ short.
    let less : length bytes < 67108864 = ltb-true (length bytes) 67108864 short in
    let text : IsText (bytes ++ 0 ∷ []) = simp length-append (omega arith) in
    (refl, λ are. All-push IsText b.literals (bytes ++ 0 ∷ []) are text))

mutual
  pub typed_keeps : (s : ScopeTree) (b : BodyTree) (e : ExprTree) → Ends (λ (x : TExprTree × BodyTree). Keeps b x.1) (typed s b e)
  typed_keeps s b (NumberTree value ty) = (refl, λ are. are)
  typed_keeps s b (TextTree bytes) = text_keeps b bytes
  typed_keeps s b (VarTree name) = stays b (variable s.heads b name)
  typed_keeps s b (UnTree op e) = step b (typed s b e) (λ x. then_in x.1 (unary s.declared op x.0)) (typed_keeps s b e) (λ x. stays x.1 (unary s.declared op x.0))
  typed_keeps s b (BinTree op e f) =
      step b (typed s b e) (λ x. typed s x.1 f >>= (λ y. then_in y.1 (binary s.declared op x.0 y.0))) (typed_keeps s b e) (λ x.
      step x.1 (typed s x.1 f) (λ y. then_in y.1 (binary s.declared op x.0 y.0)) (typed_keeps s x.1 f) (λ y. stays y.1 (binary s.declared op x.0 y.0)))
  typed_keeps s b (CastTree t e) = step b (typed s b e) (λ x. then_in x.1 (cast_node s t x.0)) (typed_keeps s b e) (λ x. stays x.1 (cast_node s t x.0))
  typed_keeps s b (SizeTree t) = stays b (size_of_type s t)
  typed_keeps s b (IndexTree e f) =
      step b (typed s b e) (λ x. typed s x.1 f >>= (λ y. then_in y.1 (element s.declared (value_of x.0) (value_of y.0)))) (typed_keeps s b e) (λ x.
      step x.1 (typed s x.1 f) (λ y. then_in y.1 (element s.declared (value_of x.0) (value_of y.0))) (typed_keeps s x.1 f) (λ y. stays y.1 (element s.declared (value_of x.0) (value_of y.0))))
  typed_keeps s b (MemberTree e name) = step b (typed s b e) (λ x. then_in x.1 (member s.heads.structs s.declared name x.0)) (typed_keeps s b e) (λ x. stays x.1 (member s.heads.structs s.declared name x.0))
  typed_keeps s b (ArrowTree e name) = step b (typed s b e) (λ x. then_in x.1 (arrow s.heads.structs s.declared name (value_of x.0))) (typed_keeps s b e) (λ x. stays x.1 (arrow s.heads.structs s.declared name (value_of x.0)))
  typed_keeps s b (CallTree name all) = step b (typed_all s b NoTExprs all) (λ x. then_in x.1 (call s.library (callee s.heads x.1 name) x.0)) (all_keep s b NoTExprs all) (λ x. stays x.1 (call s.library (callee s.heads x.1 name) x.0))
  typed_keeps s b (GateTree name all) = step b (typed_all s b NoTExprs all) (λ x. then_in x.1 (gate (callee s.heads x.1 name) x.0)) (all_keep s b NoTExprs all) (λ x. stays x.1 (gate (callee s.heads x.1 name) x.0))
  typed_keeps s b GetcTree = (refl, λ are. are)
  typed_keeps s b (PutcTree e) = step b (typed s b e) (λ x. then_in x.1 (putc x.0)) (typed_keeps s b e) (λ x. stays x.1 (putc x.0))
  typed_keeps s b (DevLoadTree device register) = (refl, λ are. are)
  typed_keeps s b (DevStoreTree device register e) = step b (typed s b e) (λ x. then_in x.1 (device_store device register x.0)) (typed_keeps s b e) (λ x. stays x.1 (device_store device register x.0))
  typed_keeps s b (SpawnTree name e) = step b (typed s b e) (λ x. then_in x.1 (spawn s.library (callee s.heads x.1 name) (value_of x.0))) (typed_keeps s b e) (λ x. stays x.1 (spawn s.library (callee s.heads x.1 name) (value_of x.0)))
  typed_keeps s b (SwitchTree e) = step b (typed s b e) (λ x. then_in x.1 (switch x.0)) (typed_keeps s b e) (λ x. stays x.1 (switch x.0))
  typed_keeps s b MeTree = (refl, λ are. are)

  all_keep : (s : ScopeTree) (b : BodyTree) (before : TExprTrees) (es : ExprTrees) → Ends (λ (x : TExprTrees × BodyTree). Keeps b x.1) (typed_all s b before es)
  all_keep s b before NoExprs = (refl, λ are. are)
  all_keep s b before (MoreExprs e rest) =
      step b (typed s b e) (λ x. typed_all s x.1 (joined before (MoreTExprs (value_of x.0) NoTExprs)) rest) (typed_keeps s b e) (λ x.
      all_keep s x.1 (joined before (MoreTExprs (value_of x.0) NoTExprs)) rest)

-- ---- statements

abbrev pub IsFine : ScopeTree → BodyTree → Type 0
IsFine s b = All (IsSizedLocal s.heads.layouts (length s.heads.structs)) b.locals × All IsText b.literals

kept_fine : (s : ScopeTree) (b c : BodyTree) → IsFine s b → Keeps b c → IsFine s c
kept_fine s b c fine keeps = (subst (λ ls. All (IsSizedLocal s.heads.layouts (length s.heads.structs)) ls) (sym keeps.0) fine.0, keeps.1 fine.1)

typed_fine : (s : ScopeTree) (b : BodyTree) (e : ExprTree) → IsFine s b → Ends (λ (x : TExprTree × BodyTree). IsFine s x.1) (typed s b e)
typed_fine s b e fine = weaker (λ (x : TExprTree × BodyTree). Keeps b x.1) (λ (x : TExprTree × BodyTree). IsFine s x.1) (typed s b e) (typed_keeps s b e) (λ x. kept_fine s b x.1 fine)

started_keeps : (s : ScopeTree) (b : BodyTree) (name : List ℕ) (n : ℕ) (e : Option ExprTree) → Ends (λ (x : Option TExprTree × BodyTree). Keeps b x.1) (started s b name n e)
started_keeps s b name n None = (refl, λ are. are)
started_keeps s b name n (Some e) =
    bind_ends (λ (x : TExprTree × BodyTree). Keeps b x.1) (λ (x : Option TExprTree × BodyTree). Keeps b x.1) (typed s (entered b ((name, n) ∷ [])) e) (λ x. Ok (Some (value_of x.0), left x.1))
    (typed_keeps s (entered b ((name, n) ∷ [])) e) (λ x keeps. keeps)

pub any : {A : Type 0} (r : Checked A) → Ends (λ (x : A). Unit {0}) r
any (Ok x) = tt
any (Err e) = tt

module _ (s : ScopeTree) (within : s.declared ≤ length s.heads.structs) where
  -- a declaration, behind its value
  declared_fine : (b : BodyTree) (shared : Bool) (t : TypeTree) (name : List ℕ) (n : ℕ) (x : Option TExprTree × BodyTree) → IsFine s b → Keeps (with_local b shared (ty_of s.heads.tags t)) x.1 → Ends (λ (y : TStmtTree × BodyTree). IsFine s y.1) (declared_local s shared t name n x)
  declared_fine b shared t name n x fine keeps =
      let Q : TStmtTree × BodyTree → Type 0 = λ y. IsFine s y.1 in
      let end : Option TExprTree → Checked (TStmtTree × BodyTree) = λ init. Ok (SLocal (place_16 n) init, with_name x.1 name n) in
      let build : TyTree → Checked (TStmtTree × BodyTree) = λ ty. assigned_start (ELocal ty (place_16 n)) x.0 >>= end in
      demand_ends Q (not (is_some (found name (innermost x.1)))) Twice (object_type s.heads s.declared t >>= build) (λ new.
      bind_ends (λ ty. (ty ≡ ty_of s.heads.tags t) × IsSized (known s.heads.layouts) s.declared (ty_of s.heads.tags t)) Q (object_type s.heads s.declared t) build (object_ends s.heads s.declared t) (λ ty has.
      bind_ends (λ (e : Option TExprTree). Unit {0}) Q (assigned_start (ELocal ty (place_16 n)) x.0) end (any (assigned_start (ELocal ty (place_16 n)) x.0)) (λ init _.
      kept_fine s (with_local b shared (ty_of s.heads.tags t)) x.1 (
        All-push (IsSizedLocal s.heads.layouts (length s.heads.structs)) b.locals (record { shared = shared; ty = ty_of s.heads.tags t }) fine.0 (more_bound (known s.heads.layouts) s.declared (length s.heads.structs) (ty_of s.heads.tags t) within has.1),
        fine.1,
      ) keeps)))

  local_fine : (b : BodyTree) (shared : Bool) (t : TypeTree) (name : List ℕ) (init : Option ExprTree) → IsFine s b → Ends (λ (y : TStmtTree × BodyTree). IsFine s y.1) (local s b shared t name init)
  local_fine b shared t name init fine =
      let n : ℕ = place_32 (length b.locals) in
      let c : BodyTree = with_local b shared (ty_of s.heads.tags t) in
      bind_ends (λ (x : Option TExprTree × BodyTree). Keeps c x.1) (λ (y : TStmtTree × BodyTree). IsFine s y.1) (started s c name n init) (λ x. declared_local s shared t name n x) (started_keeps s c name n init)
      (λ x keeps. declared_fine b shared t name n x fine keeps)

  maybe_typed_fine : (b : BodyTree) (e : Option ExprTree) → IsFine s b → Ends (λ (x : Option TExprTree × BodyTree). IsFine s x.1) (maybe_typed s b e)
  maybe_typed_fine b None fine = fine
  maybe_typed_fine b (Some e) fine =
      bind_ends (λ (x : TExprTree × BodyTree). IsFine s x.1) (λ (x : Option TExprTree × BodyTree). IsFine s x.1) (typed s b e) (λ x. Ok (Some x.0, x.1)) (typed_fine s b e fine) (λ x f. f)

  return_fine : (b : BodyTree) (e : Option ExprTree) → IsFine s b → Ends (λ (x : TStmtTree × BodyTree). IsFine s x.1) (return_node s b e)
  return_fine b None fine = demand_ends (λ (x : TStmtTree × BodyTree). IsFine s x.1) (is_void s.answer) ReturnType (Ok (SReturn None, b)) (λ void. fine)
  return_fine b (Some e) fine =
      bind_ends (λ (x : TExprTree × BodyTree). IsFine s x.1) (λ (x : TStmtTree × BodyTree). IsFine s x.1) (typed s b e) (λ x. returned s.answer (value_of x.0) >>= (λ e. Ok (SReturn (Some e), x.1))) (typed_fine s b e fine) (λ x f.
      bind_ends (λ (e : TExprTree). Unit {0}) (λ (y : TStmtTree × BodyTree). IsFine s y.1) (returned s.answer (value_of x.0)) (λ e. Ok (SReturn (Some e), x.1)) (any (returned s.answer (value_of x.0))) (λ e _. f))

  mutual
    pub checked_fine : (loop : Bool) (b : BodyTree) (t : StmtTree) → IsFine s b → Ends (λ (x : TStmtTree × BodyTree). IsFine s x.1) (checked s loop b t)
    checked_fine loop b EmptyTree fine = fine
    checked_fine loop b (BlockTree all) fine =
        bind_ends (λ (x : TStmtTrees × BodyTree). IsFine s x.1) (λ (x : TStmtTree × BodyTree). IsFine s x.1) (checked_all s loop (entered b []) NoTStmts all) (λ x. Ok (SBlock x.0, left x.1)) (all_fine loop (entered b []) NoTStmts all fine) (λ x f. f)
    checked_fine loop b (LocalTree shared t name init) fine = local_fine b shared t name init fine
    checked_fine loop b (EvalTree e) fine =
        bind_ends (λ (x : TExprTree × BodyTree). IsFine s x.1) (λ (x : TStmtTree × BodyTree). IsFine s x.1) (typed s b e) (λ x. Ok (SEval (value_of x.0), x.1)) (typed_fine s b e fine) (λ x f. f)
    checked_fine loop b (AssignTree to e) fine =
        bind_ends (λ (x : TExprTree × BodyTree). IsFine s x.1) (λ (x : TStmtTree × BodyTree). IsFine s x.1) (typed s b to) (λ x. typed s x.1 e >>= (λ y. assigned x.0 (value_of y.0) >>= (λ e. Ok (SAssign x.0 e, y.1)))) (typed_fine s b to fine) (λ x f.
        bind_ends (λ (y : TExprTree × BodyTree). IsFine s y.1) (λ (x : TStmtTree × BodyTree). IsFine s x.1) (typed s x.1 e) (λ y. assigned x.0 (value_of y.0) >>= (λ e. Ok (SAssign x.0 e, y.1))) (typed_fine s x.1 e f) (λ y g.
        bind_ends (λ (e : TExprTree). Unit {0}) (λ (x : TStmtTree × BodyTree). IsFine s x.1) (assigned x.0 (value_of y.0)) (λ e. Ok (SAssign x.0 e, y.1)) (any (assigned x.0 (value_of y.0))) (λ e _. g)))
    checked_fine loop b (IfTree test one other) fine =
        bind_ends (λ (t : TExprTree × BodyTree). IsFine s t.1) (λ (x : TStmtTree × BodyTree). IsFine s x.1) (typed s b test) (λ t. checked s loop t.1 one >>= (λ x. checked_maybe s loop x.1 other >>= (λ y. condition (value_of t.0) >>= (λ c. Ok (SIf c x.0 y.0, y.1))))) (typed_fine s b test fine) (λ t f.
        bind_ends (λ (x : TStmtTree × BodyTree). IsFine s x.1) (λ (x : TStmtTree × BodyTree). IsFine s x.1) (checked s loop t.1 one) (λ x. checked_maybe s loop x.1 other >>= (λ y. condition (value_of t.0) >>= (λ c. Ok (SIf c x.0 y.0, y.1)))) (checked_fine loop t.1 one f) (λ x g.
        bind_ends (λ (y : MaybeTStmt × BodyTree). IsFine s y.1) (λ (x : TStmtTree × BodyTree). IsFine s x.1) (checked_maybe s loop x.1 other) (λ y. condition (value_of t.0) >>= (λ c. Ok (SIf c x.0 y.0, y.1))) (maybe_fine loop x.1 other g) (λ y h.
        bind_ends (λ (e : TExprTree). Unit {0}) (λ (x : TStmtTree × BodyTree). IsFine s x.1) (condition (value_of t.0)) (λ c. Ok (SIf c x.0 y.0, y.1)) (any (condition (value_of t.0))) (λ c _. h))))
    checked_fine loop b (WhileTree test body) fine =
        bind_ends (λ (t : TExprTree × BodyTree). IsFine s t.1) (λ (x : TStmtTree × BodyTree). IsFine s x.1) (typed s b test) (λ t. checked s true t.1 body >>= (λ x. condition (value_of t.0) >>= (λ c. Ok (SWhile c x.0, x.1)))) (typed_fine s b test fine) (λ t f.
        bind_ends (λ (x : TStmtTree × BodyTree). IsFine s x.1) (λ (x : TStmtTree × BodyTree). IsFine s x.1) (checked s true t.1 body) (λ x. condition (value_of t.0) >>= (λ c. Ok (SWhile c x.0, x.1))) (checked_fine true t.1 body f) (λ x g.
        bind_ends (λ (e : TExprTree). Unit {0}) (λ (x : TStmtTree × BodyTree). IsFine s x.1) (condition (value_of t.0)) (λ c. Ok (SWhile c x.0, x.1)) (any (condition (value_of t.0))) (λ c _. g)))
    checked_fine loop b (ForTree first test next body) fine =
        bind_ends (λ (x : MaybeTStmt × BodyTree). IsFine s x.1) (λ (x : TStmtTree × BodyTree). IsFine s x.1) (checked_maybe s loop b first) (λ f. maybe_typed s f.1 test >>= (λ t. checked_maybe s loop t.1 next >>= (λ n. checked s true n.1 body >>= (λ x. maybe_condition t.0 >>= (λ c. Ok (SFor f.0 c n.0 x.0, x.1)))))) (maybe_fine loop b first fine) (λ f g.
        bind_ends (λ (t : Option TExprTree × BodyTree). IsFine s t.1) (λ (x : TStmtTree × BodyTree). IsFine s x.1) (maybe_typed s f.1 test) (λ t. checked_maybe s loop t.1 next >>= (λ n. checked s true n.1 body >>= (λ x. maybe_condition t.0 >>= (λ c. Ok (SFor f.0 c n.0 x.0, x.1))))) (maybe_typed_fine f.1 test g) (λ t h.
        bind_ends (λ (x : MaybeTStmt × BodyTree). IsFine s x.1) (λ (x : TStmtTree × BodyTree). IsFine s x.1) (checked_maybe s loop t.1 next) (λ n. checked s true n.1 body >>= (λ x. maybe_condition t.0 >>= (λ c. Ok (SFor f.0 c n.0 x.0, x.1)))) (maybe_fine loop t.1 next h) (λ n i.
        bind_ends (λ (x : TStmtTree × BodyTree). IsFine s x.1) (λ (x : TStmtTree × BodyTree). IsFine s x.1) (checked s true n.1 body) (λ x. maybe_condition t.0 >>= (λ c. Ok (SFor f.0 c n.0 x.0, x.1))) (checked_fine true n.1 body i) (λ x j.
        bind_ends (λ (e : Option TExprTree). Unit {0}) (λ (x : TStmtTree × BodyTree). IsFine s x.1) (maybe_condition t.0) (λ c. Ok (SFor f.0 c n.0 x.0, x.1)) (any (maybe_condition t.0)) (λ c _. j)))))
    checked_fine loop b BreakTree fine = demand_ends (λ (x : TStmtTree × BodyTree). IsFine s x.1) loop BreakOutside (Ok (SBreak, b)) (λ inside. fine)
    checked_fine loop b ContinueTree fine = demand_ends (λ (x : TStmtTree × BodyTree). IsFine s x.1) loop BreakOutside (Ok (SContinue, b)) (λ inside. fine)
    checked_fine loop b (ReturnTree e) fine = return_fine b e fine

    maybe_fine : (loop : Bool) (b : BodyTree) (t : MaybeStmt) → IsFine s b → Ends (λ (x : MaybeTStmt × BodyTree). IsFine s x.1) (checked_maybe s loop b t)
    maybe_fine loop b Absent fine = fine
    maybe_fine loop b (Present t) fine =
        bind_ends (λ (x : TStmtTree × BodyTree). IsFine s x.1) (λ (x : MaybeTStmt × BodyTree). IsFine s x.1) (checked s loop b t) (λ x. Ok (OneTStmt x.0, x.1)) (checked_fine loop b t fine) (λ x f. f)

    pub all_fine : (loop : Bool) (b : BodyTree) (before : TStmtTrees) (all : StmtTrees) → IsFine s b → Ends (λ (x : TStmtTrees × BodyTree). IsFine s x.1) (checked_all s loop b before all)
    all_fine loop b before NoStmts fine = fine
    all_fine loop b before (MoreStmts t rest) fine =
        bind_ends (λ (x : TStmtTree × BodyTree). IsFine s x.1) (λ (x : TStmtTrees × BodyTree). IsFine s x.1) (checked s loop b t) (λ x. checked_all s loop x.1 (followed before x.0) rest) (checked_fine loop b t fine) (λ x f.
        all_fine loop x.1 (followed before x.0) rest f)
