-- Expressions and statements of a body are right by the tables of their function.
use Rattle.std.proofs.Common.{◌≡◌, ℕ, ◌+◌, ◌-◌, ◌<◌, ◌≤◌, Bool, true, ◌||◌, not, nat_lt, is_some, List, [], ◌∷◌, ◌++◌, length, slice_get, Option, Some, None, Ok, Err, refl, sym, ap, ◌∙◌, arith, subst}
use Rattle.std.proofs.Math.Nat.{min-le_left}
use Rattle.std.proofs.lemmas.List.{length-append}
use Rattle.fx_c_ast.specs.declared.operator.IntType.TheVariants.{Char, Ulong}
use Rattle.fx_c_ast.specs.ParsedTrees.{TypeTree, ExprTree, NumberTree, TextTree, VarTree, UnTree, BinTree, CastTree, SizeTree, IndexTree, MemberTree, ArrowTree, CallTree, GateTree, GetcTree, PutcTree, DevLoadTree, DevStoreTree, SpawnTree, SwitchTree, MeTree, ExprTrees, NoExprs, MoreExprs, StmtTree, EmptyTree, BlockTree, LocalTree, EvalTree, AssignTree, IfTree, WhileTree, ForTree, BreakTree, ContinueTree, ReturnTree, StmtTrees, NoStmts, MoreStmts, MaybeStmt, Absent, Present}
use Rattle.fx_c_ast.specs.CheckedTrees.{TyTree, VoidTy, IntTy, ArrayTy, TExprTree, ELiteral, ELocal, ESize, TExprTrees, NoTExprs, MoreTExprs, TStmtTree, SBlock, SLocal, SEval, SAssign, SIf, SWhile, SFor, SBreak, SContinue, SReturn, TStmtTrees, NoTStmts, MoreTStmts, MaybeTStmt, OneTStmt}
use Rattle.fx_c_ast.specs.Layout.{IsSized, known_layouts}
use Rattle.fx_c_types_heads.specs.Names.{found}
use Rattle.fx_c_types_rules.specs.declared.fault.TypeKind.TheVariants.{Twice, TooLarge, UnknownType, NotInteger, ReturnType, BreakOutside}
use Rattle.fx_c_types_rules.specs.Checks.{Checked, ◌>>=◌, demand}
use Rattle.fx_c_types_rules.specs.Types.{category, is_void, is_complete}
use Rattle.fx_c_types_rules.specs.Values.{type_of, value_of, is_scalar, condition, assigned, agrees, converted}
use Rattle.fx_c_types_rules.specs.Operators.{unary, binary, cast, element}
use Rattle.fx_c_types_rules.specs.Structs.{place_32, member, arrow}
use Rattle.fx_c_types_rules.specs.Locals as plain
use Rattle.fx_c_types_rules.specs.Calls.{joined, putc, device_store, switch}
use Rattle.fx_c_types_heads.specs.Written.{ty_of, is_named}
use Rattle.fx_c_types_heads.specs.Heads.{HeadsTree, object_type}
use Rattle.fx_c_types_bodies.specs.Bodies.{ScopeTree, BodyTree, then_in, variable, text_node, cast_type, cast_node, size_of_type, callee, call, gate, spawn, typed, typed_all, innermost, entered, left, with_local, with_name, started, assigned_start, declared_local, local, place_16, returned, maybe_typed, maybe_condition, return_node, followed, checked, checked_maybe, checked_all}
use Rattle.fx_c_types_model.specs.Tables.{Tables, IsNamed, local_type, type_of_local}
use Rattle.fx_c_types_model.specs.Trees.{IsTyped, AreTyped, IsTest, IsMaybeTest, IsStart, IsReturned, IsRight, MaybeRight, AreRight}
use Rattle.fx_c_types_law.proofs.Heads.{all_types}
use Rattle.fx_c_types_law.proofs.Ends.{Ends, bind_ends, demand_ends, weaker, both_end}
use Rattle.fx_c_types_trees_law.proofs.Shapes.{agree_scalar}
use Rattle.fx_c_types_trees_law.proofs.Nodes.{named, value_typed, type_converted, agreed, condition_typed, IsValueFor, assigned_typed, unary_typed, binary_typed, cast_typed, element_typed}
use Rattle.fx_c_types_trees_law.proofs.Lists.{Before, before_append, there, last_at, AreBelow, AllBelow, all_more, below_push, all_push, all_take, all_set, all_at}
use Rattle.fx_c_types_trees_law.proofs.Scope.{tables_in, AreNamed, named_push, IsTied, Within, small_16, small_32, variable_typed, text_typed, named_type, object_named, member_typed, arrow_typed}
use Rattle.fx_c_types_trees_law.proofs.Callees.{joined_typed, call_typed, gate_typed, spawn_typed, putc_typed, store_typed, switch_typed}

-- what is there after a node, where the names in reach before it lead to locals that are there
pub record Grows (bound : ℕ) (b c : BodyTree) : Type 0 where
  pub texts : Before b.literals c.literals
  pub slots : Before b.locals c.locals
  pub more : length b.locals ≤ length c.locals
  pub reach : AllBelow (length c.locals) c.blocks
  pub named : AreNamed bound b.locals → AreNamed bound c.locals

same_body : (bound : ℕ) (b : BodyTree) → AllBelow (length b.locals) b.blocks → Grows bound b b
same_body bound b reach = record { texts = λ n x h. h; slots = λ n x h. h; more = omega arith; reach = reach; named = λ h. h }

after : (bound : ℕ) (b c d : BodyTree) → Grows bound b c → Grows bound c d → Grows bound b d
after bound b c d h k = record {
  texts = λ n x is. k.texts n x (h.texts n x is);
  slots = λ n x is. k.slots n x (h.slots n x is);
  more = omega (arith, h.more, k.more);
  reach = k.reach;
  named = λ is. k.named (h.named is);
}

back : (h : HeadsTree) (literals : List (List ℕ)) (locals : List plain.LocalTree) (bound : ℕ) (b c : BodyTree) → Grows bound b c → Within h literals locals c → Within h literals locals b
back h literals locals bound b c grows w = record {
  texts = λ n x is. w.texts n x (grows.texts n x is);
  slots = λ n x is. w.slots n x (grows.slots n x is);
  named = w.named;
  strings = w.strings;
  frame = w.frame;
  few = w.few;
}

module _ (s : ScopeTree) (tied : IsTied s.heads) (declared : s.declared ≤ length (all_types s.heads.structs)) (sizes : (t : TypeTree) → Ends (λ ty. IsSized (known_layouts (all_types s.heads.structs)) (length (all_types s.heads.structs)) ty) (object_type s.heads s.declared t)) (literals : List (List ℕ)) (locals : List plain.LocalTree) where
  abbrev bound : ℕ
  bound = length (all_types s.heads.structs)

  abbrev g : Tables
  g = tables_in s.heads s.library s.answer literals locals

  abbrev Fits : BodyTree → Type 0
  Fits b = Within s.heads literals locals b

  abbrev Reach : BodyTree → Type 0
  Reach b = AllBelow (length b.locals) b.blocks

  -- a node that is right where what is there after it fits
  abbrev Good : {A : Type 0} → (A → Type 0) → BodyTree → A × BodyTree → Type 0
  Good P b x = Grows bound b x.1 × (Fits x.1 → P x.0)

  closing : {A : Type 0} (Q : A → Type 0) (b c : BodyTree) (m : Checked A) → Grows bound b c → (Fits c → Ends Q m) → Ends (Good Q b) (then_in c m)
  closing Q b c (Ok x) grows h = (grows, h)
  closing Q b c (Err e) grows h = tt

  building : {A B : Type 0} (P : A → Type 0) (Q : B → Type 0) (b c : BodyTree) (m : Checked A) (make : A → B) → Grows bound b c → (Fits c → Ends P m) → ((a : A) → Fits c → P a → Q (make a)) → Ends (Good Q b) (m >>= (λ a. Ok (make a, c)))
  building P Q b c (Ok x) make grows h k = (grows, λ w. k x w (h w))
  building P Q b c (Err e) make grows h k = tt

  text_good : (b : BodyTree) (bytes : List ℕ) → Reach b → Ends (Good (IsTyped g) b) (text_node b bytes)
  text_good b bytes reach =
      let c : BodyTree = record b { literals = b.literals ++ (bytes ++ 0 ∷ []) ∷ [] } in
      let grows : Grows bound b c = record { texts = before_append b.literals ((bytes ++ 0 ∷ []) ∷ []); slots = λ n x h. h; more = omega arith; reach = reach; named = λ h. h } in
      demand_ends (Good (IsTyped g) b) (nat_lt (length bytes) 67108864) TooLarge (Ok (ELiteral (ArrayTy (IntTy Char) (length bytes + 1)) (place_32 (length b.literals)), c)) (λ short.
      (grows, λ w. text_typed s.heads s.library s.answer literals locals tied b bytes w))

  cast_good : (t : TypeTree) (e : TExprTree) → IsTyped g e → Ends (IsTyped g) (cast_node s t e)
  cast_good t e has =
      let last : Checked TyTree = Ok (ty_of s.heads.tags t) in
      let complete : Bool = is_void (ty_of s.heads.tags t) || is_complete s.declared (ty_of s.heads.tags t) in
      bind_ends (IsNamed bound) (IsTyped g) (cast_type s t) (λ ty. cast ty (value_of e))
      (demand_ends (IsNamed bound) (is_named s.heads.tags t) UnknownType (demand complete UnknownType last) (λ is.
      demand_ends (IsNamed bound) complete UnknownType last (λ whole. named_type s.heads.tags bound tied.tags t is)))
      (λ ty is. cast_typed g s.declared declared ty (value_of e) is (value_typed g e has))

  abbrev IsObjectType : TypeTree → TyTree → Type 0
  IsObjectType t ty = ((ty ≡ ty_of s.heads.tags t) × IsNamed bound ty) × IsSized (known_layouts (all_types s.heads.structs)) bound ty

  object_good : (t : TypeTree) → Ends (IsObjectType t) (object_type s.heads s.declared t)
  object_good t = both_end (λ ty. (ty ≡ ty_of s.heads.tags t) × IsNamed bound ty) (λ ty. IsSized (known_layouts (all_types s.heads.structs)) bound ty) (object_type s.heads s.declared t) (object_named s.heads bound s.declared t tied.tags) (sizes t)

  size_good : (t : TypeTree) → Ends (IsTyped g) (size_of_type s t)
  size_good t = bind_ends (IsObjectType t) (IsTyped g) (object_type s.heads s.declared t) (λ ty. Ok (ESize (IntTy Ulong) ty)) (object_good t) (λ ty is. (tt, refl, is.0.1, is.1))

  -- ---- expressions

  mutual
    pub typed_good : (b : BodyTree) (e : ExprTree) → AllBelow (length b.locals) b.blocks → Ends (λ (x : TExprTree × BodyTree). Grows (length (all_types s.heads.structs)) b x.1 × (Within s.heads literals locals x.1 → IsTyped (tables_in s.heads s.library s.answer literals locals) x.0)) (typed s b e)
    typed_good b (NumberTree value ty) reach = (same_body bound b reach, λ w. (tt, tt))
    typed_good b (TextTree bytes) reach = text_good b bytes reach
    typed_good b (VarTree name) reach = closing (IsTyped g) b b (variable s.heads b name) (same_body bound b reach) (λ w. variable_typed s.heads s.library s.answer literals locals tied b name reach w)
    typed_good b (UnTree op e) reach =
        bind_ends (Good (IsTyped g) b) (Good (IsTyped g) b) (typed s b e) (λ x. then_in x.1 (unary s.declared op x.0)) (typed_good b e reach) (λ x h.
        closing (IsTyped g) b x.1 (unary s.declared op x.0) h.0 (λ w. unary_typed g s.declared declared op x.0 (h.1 w)))
    typed_good b (BinTree op e f) reach =
        bind_ends (Good (IsTyped g) b) (Good (IsTyped g) b) (typed s b e) (λ x. typed s x.1 f >>= (λ y. then_in y.1 (binary s.declared op x.0 y.0))) (typed_good b e reach) (λ x h.
        bind_ends (Good (IsTyped g) x.1) (Good (IsTyped g) b) (typed s x.1 f) (λ y. then_in y.1 (binary s.declared op x.0 y.0)) (typed_good x.1 f h.0.reach) (λ y k.
        closing (IsTyped g) b y.1 (binary s.declared op x.0 y.0) (after bound b x.1 y.1 h.0 k.0) (λ w. binary_typed g s.declared declared op x.0 y.0 (h.1 (back s.heads literals locals bound x.1 y.1 k.0 w)) (k.1 w))))
    typed_good b (CastTree t e) reach =
        bind_ends (Good (IsTyped g) b) (Good (IsTyped g) b) (typed s b e) (λ x. then_in x.1 (cast_node s t x.0)) (typed_good b e reach) (λ x h.
        closing (IsTyped g) b x.1 (cast_node s t x.0) h.0 (λ w. cast_good t x.0 (h.1 w)))
    typed_good b (SizeTree t) reach = closing (IsTyped g) b b (size_of_type s t) (same_body bound b reach) (λ w. size_good t)
    typed_good b (IndexTree e f) reach =
        bind_ends (Good (IsTyped g) b) (Good (IsTyped g) b) (typed s b e) (λ x. typed s x.1 f >>= (λ y. then_in y.1 (element s.declared (value_of x.0) (value_of y.0)))) (typed_good b e reach) (λ x h.
        bind_ends (Good (IsTyped g) x.1) (Good (IsTyped g) b) (typed s x.1 f) (λ y. then_in y.1 (element s.declared (value_of x.0) (value_of y.0))) (typed_good x.1 f h.0.reach) (λ y k.
        closing (IsTyped g) b y.1 (element s.declared (value_of x.0) (value_of y.0)) (after bound b x.1 y.1 h.0 k.0) (λ w.
        element_typed g s.declared declared (value_of x.0) (value_of y.0) (value_typed g x.0 (h.1 (back s.heads literals locals bound x.1 y.1 k.0 w))) (value_typed g y.0 (k.1 w)))))
    typed_good b (MemberTree e name) reach =
        bind_ends (Good (IsTyped g) b) (Good (IsTyped g) b) (typed s b e) (λ x. then_in x.1 (member s.heads.structs s.declared name x.0)) (typed_good b e reach) (λ x h.
        closing (IsTyped g) b x.1 (member s.heads.structs s.declared name x.0) h.0 (λ w. member_typed s.heads s.library s.answer literals locals tied w.few s.declared name x.0 (h.1 w)))
    typed_good b (ArrowTree e name) reach =
        bind_ends (Good (IsTyped g) b) (Good (IsTyped g) b) (typed s b e) (λ x. then_in x.1 (arrow s.heads.structs s.declared name (value_of x.0))) (typed_good b e reach) (λ x h.
        closing (IsTyped g) b x.1 (arrow s.heads.structs s.declared name (value_of x.0)) h.0 (λ w. arrow_typed s.heads s.library s.answer literals locals tied w.few s.declared name (value_of x.0) (value_typed g x.0 (h.1 w))))
    typed_good b (CallTree name all) reach =
        bind_ends (Good (AreTyped g) b) (Good (IsTyped g) b) (typed_all s b NoTExprs all) (λ x. then_in x.1 (call s.library (callee s.heads x.1 name) x.0)) (all_good b NoTExprs all reach (λ w. tt)) (λ x h.
        closing (IsTyped g) b x.1 (call s.library (callee s.heads x.1 name) x.0) h.0 (λ w. call_typed s.heads s.library s.answer literals locals tied x.1 name x.0 (h.1 w)))
    typed_good b (GateTree name all) reach =
        bind_ends (Good (AreTyped g) b) (Good (IsTyped g) b) (typed_all s b NoTExprs all) (λ x. then_in x.1 (gate (callee s.heads x.1 name) x.0)) (all_good b NoTExprs all reach (λ w. tt)) (λ x h.
        closing (IsTyped g) b x.1 (gate (callee s.heads x.1 name) x.0) h.0 (λ w. gate_typed s.heads s.library s.answer literals locals tied x.1 name x.0 (h.1 w)))
    typed_good b GetcTree reach = (same_body bound b reach, λ w. (tt, refl))
    typed_good b (PutcTree e) reach =
        bind_ends (Good (IsTyped g) b) (Good (IsTyped g) b) (typed s b e) (λ x. then_in x.1 (putc x.0)) (typed_good b e reach) (λ x h.
        closing (IsTyped g) b x.1 (putc x.0) h.0 (λ w. putc_typed g x.0 (h.1 w)))
    typed_good b (DevLoadTree device register) reach = (same_body bound b reach, λ w. (tt, refl))
    typed_good b (DevStoreTree device register e) reach =
        bind_ends (Good (IsTyped g) b) (Good (IsTyped g) b) (typed s b e) (λ x. then_in x.1 (device_store device register x.0)) (typed_good b e reach) (λ x h.
        closing (IsTyped g) b x.1 (device_store device register x.0) h.0 (λ w. store_typed g device register x.0 (h.1 w)))
    typed_good b (SpawnTree name e) reach =
        bind_ends (Good (IsTyped g) b) (Good (IsTyped g) b) (typed s b e) (λ x. then_in x.1 (spawn s.library (callee s.heads x.1 name) (value_of x.0))) (typed_good b e reach) (λ x h.
        closing (IsTyped g) b x.1 (spawn s.library (callee s.heads x.1 name) (value_of x.0)) h.0 (λ w. spawn_typed s.heads s.library s.answer literals locals tied x.1 name (value_of x.0) (value_typed g x.0 (h.1 w))))
    typed_good b (SwitchTree e) reach =
        bind_ends (Good (IsTyped g) b) (Good (IsTyped g) b) (typed s b e) (λ x. then_in x.1 (switch x.0)) (typed_good b e reach) (λ x h.
        closing (IsTyped g) b x.1 (switch x.0) h.0 (λ w. switch_typed g x.0 (h.1 w)))
    typed_good b MeTree reach = (same_body bound b reach, λ w. (tt, refl))

    all_good : (b : BodyTree) (before : TExprTrees) (es : ExprTrees) → AllBelow (length b.locals) b.blocks → (Within s.heads literals locals b → AreTyped (tables_in s.heads s.library s.answer literals locals) before) → Ends (λ (x : TExprTrees × BodyTree). Grows (length (all_types s.heads.structs)) b x.1 × (Within s.heads literals locals x.1 → AreTyped (tables_in s.heads s.library s.answer literals locals) x.0)) (typed_all s b before es)
    all_good b before NoExprs reach are = (same_body bound b reach, are)
    all_good b before (MoreExprs e rest) reach are =
        bind_ends (Good (IsTyped g) b) (Good (AreTyped g) b) (typed s b e) (λ x. typed_all s x.1 (joined before (MoreTExprs (value_of x.0) NoTExprs)) rest) (typed_good b e reach) (λ x h.
        let next : TExprTrees = joined before (MoreTExprs (value_of x.0) NoTExprs) in
        weaker (Good (AreTyped g) x.1) (Good (AreTyped g) b) (typed_all s x.1 next rest)
        (all_good x.1 next rest h.0.reach (λ w. joined_typed g before (value_of x.0) (are (back s.heads literals locals bound b x.1 h.0 w)) (value_typed g x.0 (h.1 w))))
        (λ y k. (after bound b x.1 y.1 h.0 k.0, k.1)))

  -- ---- statements

  open_block : (b : BodyTree) (names : List (List ℕ × ℕ)) → AllBelow (length b.locals) b.blocks → AreBelow (length b.locals) names → Grows bound b (entered b names)
  open_block b names reach below = record { texts = λ n x h. h; slots = λ n x h. h; more = omega arith; reach = all_push (length b.locals) b.blocks names reach below; named = λ h. h }

  close_block : (b c : BodyTree) → Grows bound b c → Grows bound b (left c)
  close_block b c h = record { texts = h.texts; slots = h.slots; more = h.more; reach = all_take (length c.locals) (length c.blocks - 1) c.blocks h.reach; named = h.named }

  followed_right : (ts : TStmtTrees) (t : TStmtTree) → AreRight g ts → IsRight g t → AreRight g (followed ts t)
  followed_right NoTStmts t all here = (here, tt)
  followed_right (MoreTStmts u rest) t all here = (all.0, followed_right rest t all.1 here)

  -- ---- a declaration

  abbrev IsValue : Option TExprTree → Type 0
  IsValue None = Unit {0}
  IsValue (Some e) = IsTyped g e

  -- what is there after the value of a new local: all but its name, whose type isn't tried yet
  record HasValue (b : BodyTree) (n : ℕ) (c : BodyTree) : Type 0 where
    texts : Before b.literals c.literals
    slots : Before b.locals c.locals
    more : length b.locals ≤ length c.locals
    reach : AllBelow (length c.locals) c.blocks
    same : AreNamed bound b.locals → AreNamed bound c.locals
    small : n < length c.locals

  started_good : (b : BodyTree) (name : List ℕ) (n : ℕ) (init : Option ExprTree) → AllBelow (length b.locals) b.blocks → n < length b.locals → Ends (λ (x : Option TExprTree × BodyTree). HasValue b n x.1 × (Fits x.1 → IsValue x.0)) (started s b name n init)
  started_good b name n None reach less = (record { texts = λ k x h. h; slots = λ k x h. h; more = omega arith; reach = reach; same = λ h. h; small = less }, λ w. tt)
  started_good b name n (Some e) reach less =
      let c : BodyTree = entered b ((name, n) ∷ []) in
      bind_ends (Good (IsTyped g) c) (λ (x : Option TExprTree × BodyTree). HasValue b n x.1 × (Fits x.1 → IsValue x.0)) (typed s c e) (λ x. Ok (Some (value_of x.0), left x.1))
      (typed_good c e (all_push (length b.locals) b.blocks ((name, n) ∷ []) reach (less, tt))) (λ x h.
      let all : HasValue b n (left x.1) = record {
        texts = h.0.texts;
        slots = h.0.slots;
        more = h.0.more;
        reach = all_take (length x.1.locals) (length x.1.blocks - 1) x.1.blocks h.0.reach;
        same = h.0.named;
        small = omega (arith, h.0.more);
      } in
      (all, λ w. value_typed g x.0 (h.1 (record { texts = w.texts; slots = w.slots; named = w.named; strings = w.strings; frame = w.frame; few = w.few }))))

  start_good : (ty : TyTree) (n : ℕ) (init : Option TExprTree) → IsTyped g (ELocal ty n) → IsValue init → Ends (λ (x : Option TExprTree). IsStart g (Some ty) x) (assigned_start (ELocal ty n) init)
  start_good ty n None is has = tt
  start_good ty n (Some e) is has =
      bind_ends (IsValueFor g (ELocal ty n)) (λ (x : Option TExprTree). IsStart g (Some ty) x) (assigned (ELocal ty n) e) (λ e. Ok (Some e)) (assigned_typed g (ELocal ty n) e is.0 has) (λ x v. (v.0, v.2, v.3))

  declared_good : (b : BodyTree) (shared : Bool) (t : TypeTree) (name : List ℕ) (x : Option TExprTree × BodyTree) → AllBelow (length b.locals) b.blocks → HasValue (with_local b shared (ty_of s.heads.tags t)) (place_32 (length b.locals)) x.1 → (Fits x.1 → IsValue x.0) → Ends (Good (IsRight g) b) (declared_local s shared t name (place_32 (length b.locals)) x)
  declared_good b shared t name x reach has value =
      let n : ℕ = place_32 (length b.locals) in
      let new : plain.LocalTree = record { shared = shared; ty = ty_of s.heads.tags t } in
      let d : BodyTree = with_name x.1 name n in
      let end : Option TExprTree → Checked (TStmtTree × BodyTree) = λ init. Ok (SLocal (place_16 n) init, d) in
      let build : TyTree → Checked (TStmtTree × BodyTree) = λ ty. assigned_start (ELocal ty (place_16 n)) x.0 >>= end in
      let pushed : length (b.locals ++ new ∷ []) ≡ length b.locals + 1 = length-append b.locals (new ∷ []) in
      demand_ends (Good (IsRight g) b) (not (is_some (found name (innermost x.1)))) Twice (object_type s.heads s.declared t >>= build) (λ fresh.
      bind_ends (IsObjectType t) (Good (IsRight g) b) (object_type s.heads s.declared t) build (object_good t) (λ ty is.
      let type_named : IsNamed bound (ty_of s.heads.tags t) = subst (IsNamed bound) is.0.0 is.0.1 in
      let grows : Grows bound b d = record {
        texts = has.texts;
        slots = λ k y h. has.slots k y (before_append b.locals (new ∷ []) k y h);
        more = omega (arith, has.more, pushed);
        reach = all_set (length x.1.locals) (length x.1.blocks - 1) x.1.blocks (innermost x.1 ++ (name, n) ∷ []) has.reach (below_push (length x.1.locals) (innermost x.1) (name, n) (all_at (length x.1.locals) (length x.1.blocks - 1) x.1.blocks has.reach) has.small);
        named = λ h. has.same (named_push bound b.locals new h type_named);
      } in
      let fits : Fits d → Fits x.1 = λ w. record { texts = w.texts; slots = w.slots; named = w.named; strings = w.strings; frame = w.frame; few = w.few } in
      let slot : Fits d → local_type locals (place_16 n) ≡ Some ty = λ w.
      (let at : slice_get locals (length b.locals) ≡ Some new = w.slots (length b.locals) new (has.slots (length b.locals) new (last_at b.locals new)) in
      let low : length b.locals < 65536 = omega (arith, there locals (length b.locals) new at, w.frame) in
      let place : place_16 n ≡ length b.locals = ap place_16 (small_32 (length b.locals) (omega arith)) ∙ small_16 (length b.locals) low in
      ap (local_type locals) place ∙ ap type_of_local at ∙ ap (λ t. Some t) (sym is.0.0)) in
      building (λ (e : Option TExprTree). IsStart g (Some ty) e) (IsRight g) b d (assigned_start (ELocal ty (place_16 n)) x.0) (λ init. SLocal (place_16 n) init) grows
      (λ w. start_good ty (place_16 n) x.0 (is.0.1, slot w) (value (fits w)))
      (λ init w start. subst (λ r. IsStart g r init) (sym (slot w)) start)))

  local_good : (b : BodyTree) (shared : Bool) (t : TypeTree) (name : List ℕ) (init : Option ExprTree) → AllBelow (length b.locals) b.blocks → Ends (Good (IsRight g) b) (local s b shared t name init)
  local_good b shared t name init reach =
      let n : ℕ = place_32 (length b.locals) in
      let new : plain.LocalTree = record { shared = shared; ty = ty_of s.heads.tags t } in
      let c : BodyTree = with_local b shared (ty_of s.heads.tags t) in
      let pushed : length (b.locals ++ new ∷ []) ≡ length b.locals + 1 = length-append b.locals (new ∷ []) in
      let low : n ≤ length b.locals = min-le_left (length b.locals) 4294967295 in
      bind_ends (λ (x : Option TExprTree × BodyTree). HasValue c n x.1 × (Fits x.1 → IsValue x.0)) (Good (IsRight g) b) (started s c name n init) (λ x. declared_local s shared t name n x)
      (started_good c name n init (all_more (length b.locals) (length c.locals) (omega (arith, pushed)) b.blocks reach) (omega (arith, pushed, low)))
      (λ x h. declared_good b shared t name x reach h.0 h.1)

  -- ---- returns and conditions

  returned_good : (e : TExprTree) → IsNamed bound s.answer → IsTyped g e → Ends (λ x. IsReturned g (Some x)) (returned s.answer e)
  returned_good e is has =
      let Q : TExprTree → Type 0 = λ x. IsReturned g (Some x) in
      let last : Checked TExprTree = Ok (converted s.answer e) in
      demand_ends Q (is_scalar (category (type_of e))) NotInteger (demand (agrees s.answer e) ReturnType last) (λ scalar.
      demand_ends Q (agrees s.answer e) ReturnType last (λ agree.
      (agree_scalar s.answer (type_of e) e agree scalar, type_converted s.answer e, agreed g s.answer e is agree has)))

  return_good : (b : BodyTree) (e : Option ExprTree) → IsNamed bound s.answer → AllBelow (length b.locals) b.blocks → Ends (Good (IsRight g) b) (return_node s b e)
  return_good b None is reach = demand_ends (Good (IsRight g) b) (is_void s.answer) ReturnType (Ok (SReturn None, b)) (λ void. (same_body bound b reach, λ w. void_is s.answer void))
    where
      void_is : (t : TyTree) → is_void t ≡ true → t ≡ VoidTy
      void_is VoidTy h = refl
      void_is t h = cc
  return_good b (Some e) is reach =
      bind_ends (Good (IsTyped g) b) (Good (IsRight g) b) (typed s b e) (λ x. returned s.answer (value_of x.0) >>= (λ e. Ok (SReturn (Some e), x.1))) (typed_good b e reach) (λ x h.
      building (λ x. IsReturned g (Some x)) (IsRight g) b x.1 (returned s.answer (value_of x.0)) (λ e. SReturn (Some e)) h.0 (λ w. returned_good (value_of x.0) is (value_typed g x.0 (h.1 w))) (λ y w v. v))

  maybe_good : (b : BodyTree) (e : Option ExprTree) → AllBelow (length b.locals) b.blocks → Ends (Good IsValue b) (maybe_typed s b e)
  maybe_good b None reach = (same_body bound b reach, λ w. tt)
  maybe_good b (Some e) reach = bind_ends (Good (IsTyped g) b) (Good IsValue b) (typed s b e) (λ x. Ok (Some x.0, x.1)) (typed_good b e reach) (λ x h. h)

  test_good : (e : TExprTree) → IsTyped g e → Ends (IsTest g) (condition (value_of e))
  test_good e has = condition_typed g (value_of e) (value_typed g e has)

  maybe_test : (e : Option TExprTree) → IsValue e → Ends (IsMaybeTest g) (maybe_condition e)
  maybe_test None has = tt
  maybe_test (Some e) has = bind_ends (IsTest g) (IsMaybeTest g) (condition (value_of e)) (λ e. Ok (Some e)) (test_good e has) (λ x h. h)

  -- ---- all statements

  module _ (answer : IsNamed (length (all_types s.heads.structs)) s.answer) where
    mutual
      pub checked_good : (loop : Bool) (b : BodyTree) (t : StmtTree) → AllBelow (length b.locals) b.blocks → Ends (λ (x : TStmtTree × BodyTree). Grows (length (all_types s.heads.structs)) b x.1 × (Within s.heads literals locals x.1 → IsRight (tables_in s.heads s.library s.answer literals locals) x.0)) (checked s loop b t)
      checked_good loop b EmptyTree reach = (same_body bound b reach, λ w. tt)
      checked_good loop b (BlockTree all) reach =
          let c : BodyTree = entered b [] in
          bind_ends (Good (AreRight g) c) (Good (IsRight g) b) (checked_all s loop c NoTStmts all) (λ x. Ok (SBlock x.0, left x.1)) (all_checked_good loop c NoTStmts all (all_push (length b.locals) b.blocks [] reach tt) (λ w. tt)) (λ x h.
          (close_block b x.1 (after bound b c x.1 (open_block b [] reach tt) h.0), λ w. h.1 (record { texts = w.texts; slots = w.slots; named = w.named; strings = w.strings; frame = w.frame; few = w.few })))
      checked_good loop b (LocalTree shared t name init) reach = local_good b shared t name init reach
      checked_good loop b (EvalTree e) reach =
          bind_ends (Good (IsTyped g) b) (Good (IsRight g) b) (typed s b e) (λ x. Ok (SEval (value_of x.0), x.1)) (typed_good b e reach) (λ x h. (h.0, λ w. value_typed g x.0 (h.1 w)))
      checked_good loop b (AssignTree to e) reach =
          bind_ends (Good (IsTyped g) b) (Good (IsRight g) b) (typed s b to) (λ x. typed s x.1 e >>= (λ y. assigned x.0 (value_of y.0) >>= (λ e. Ok (SAssign x.0 e, y.1)))) (typed_good b to reach) (λ x h.
          bind_ends (Good (IsTyped g) x.1) (Good (IsRight g) b) (typed s x.1 e) (λ y. assigned x.0 (value_of y.0) >>= (λ e. Ok (SAssign x.0 e, y.1))) (typed_good x.1 e h.0.reach) (λ y k.
          let to_typed : Fits y.1 → IsTyped g x.0 = λ w. h.1 (back s.heads literals locals bound x.1 y.1 k.0 w) in
          building (IsValueFor g x.0) (IsRight g) b y.1 (assigned x.0 (value_of y.0)) (λ e. SAssign x.0 e) (after bound b x.1 y.1 h.0 k.0)
          (λ w. assigned_typed g x.0 (value_of y.0) (named g x.0 (to_typed w)) (value_typed g y.0 (k.1 w)))
          (λ v w is. (is.0, is.1, is.2, to_typed w, is.3))))
      checked_good loop b (IfTree test one other) reach =
          bind_ends (Good (IsTyped g) b) (Good (IsRight g) b) (typed s b test) (λ t. checked s loop t.1 one >>= (λ x. checked_maybe s loop x.1 other >>= (λ y. condition (value_of t.0) >>= (λ c. Ok (SIf c x.0 y.0, y.1))))) (typed_good b test reach) (λ t h.
          bind_ends (Good (IsRight g) t.1) (Good (IsRight g) b) (checked s loop t.1 one) (λ x. checked_maybe s loop x.1 other >>= (λ y. condition (value_of t.0) >>= (λ c. Ok (SIf c x.0 y.0, y.1)))) (checked_good loop t.1 one h.0.reach) (λ x i.
          bind_ends (Good (MaybeRight g) x.1) (Good (IsRight g) b) (checked_maybe s loop x.1 other) (λ y. condition (value_of t.0) >>= (λ c. Ok (SIf c x.0 y.0, y.1))) (maybe_checked_good loop x.1 other i.0.reach) (λ y j.
          let at_x : Fits y.1 → Fits x.1 = λ w. back s.heads literals locals bound x.1 y.1 j.0 w in
          let at_t : Fits y.1 → Fits t.1 = λ w. back s.heads literals locals bound t.1 x.1 i.0 (at_x w) in
          building (IsTest g) (IsRight g) b y.1 (condition (value_of t.0)) (λ c. SIf c x.0 y.0) (after bound b x.1 y.1 (after bound b t.1 x.1 h.0 i.0) j.0)
          (λ w. test_good t.0 (h.1 (at_t w))) (λ c w is. (is, i.1 (at_x w), j.1 w)))))
      checked_good loop b (WhileTree test body) reach =
          bind_ends (Good (IsTyped g) b) (Good (IsRight g) b) (typed s b test) (λ t. checked s true t.1 body >>= (λ x. condition (value_of t.0) >>= (λ c. Ok (SWhile c x.0, x.1)))) (typed_good b test reach) (λ t h.
          bind_ends (Good (IsRight g) t.1) (Good (IsRight g) b) (checked s true t.1 body) (λ x. condition (value_of t.0) >>= (λ c. Ok (SWhile c x.0, x.1))) (checked_good true t.1 body h.0.reach) (λ x i.
          building (IsTest g) (IsRight g) b x.1 (condition (value_of t.0)) (λ c. SWhile c x.0) (after bound b t.1 x.1 h.0 i.0)
          (λ w. test_good t.0 (h.1 (back s.heads literals locals bound t.1 x.1 i.0 w))) (λ c w is. (is, i.1 w))))
      checked_good loop b (ForTree first test next body) reach =
          bind_ends (Good (MaybeRight g) b) (Good (IsRight g) b) (checked_maybe s loop b first) (λ f. maybe_typed s f.1 test >>= (λ t. checked_maybe s loop t.1 next >>= (λ n. checked s true n.1 body >>= (λ x. maybe_condition t.0 >>= (λ c. Ok (SFor f.0 c n.0 x.0, x.1)))))) (maybe_checked_good loop b first reach) (λ f h.
          bind_ends (Good IsValue f.1) (Good (IsRight g) b) (maybe_typed s f.1 test) (λ t. checked_maybe s loop t.1 next >>= (λ n. checked s true n.1 body >>= (λ x. maybe_condition t.0 >>= (λ c. Ok (SFor f.0 c n.0 x.0, x.1))))) (maybe_good f.1 test h.0.reach) (λ t i.
          bind_ends (Good (MaybeRight g) t.1) (Good (IsRight g) b) (checked_maybe s loop t.1 next) (λ n. checked s true n.1 body >>= (λ x. maybe_condition t.0 >>= (λ c. Ok (SFor f.0 c n.0 x.0, x.1)))) (maybe_checked_good loop t.1 next i.0.reach) (λ n j.
          bind_ends (Good (IsRight g) n.1) (Good (IsRight g) b) (checked s true n.1 body) (λ x. maybe_condition t.0 >>= (λ c. Ok (SFor f.0 c n.0 x.0, x.1))) (checked_good true n.1 body j.0.reach) (λ x k.
          let at_n : Fits x.1 → Fits n.1 = λ w. back s.heads literals locals bound n.1 x.1 k.0 w in
          let at_t : Fits x.1 → Fits t.1 = λ w. back s.heads literals locals bound t.1 n.1 j.0 (at_n w) in
          let at_f : Fits x.1 → Fits f.1 = λ w. back s.heads literals locals bound f.1 t.1 i.0 (at_t w) in
          building (IsMaybeTest g) (IsRight g) b x.1 (maybe_condition t.0) (λ c. SFor f.0 c n.0 x.0) (after bound b n.1 x.1 (after bound b t.1 n.1 (after bound b f.1 t.1 h.0 i.0) j.0) k.0)
          (λ w. maybe_test t.0 (i.1 (at_t w))) (λ c w is. (h.1 (at_f w), is, j.1 (at_n w), k.1 w))))))
      checked_good loop b BreakTree reach = demand_ends (Good (IsRight g) b) loop BreakOutside (Ok (SBreak, b)) (λ inside. (same_body bound b reach, λ w. tt))
      checked_good loop b ContinueTree reach = demand_ends (Good (IsRight g) b) loop BreakOutside (Ok (SContinue, b)) (λ inside. (same_body bound b reach, λ w. tt))
      checked_good loop b (ReturnTree e) reach = return_good b e answer reach

      maybe_checked_good : (loop : Bool) (b : BodyTree) (t : MaybeStmt) → AllBelow (length b.locals) b.blocks → Ends (λ (x : MaybeTStmt × BodyTree). Grows (length (all_types s.heads.structs)) b x.1 × (Within s.heads literals locals x.1 → MaybeRight (tables_in s.heads s.library s.answer literals locals) x.0)) (checked_maybe s loop b t)
      maybe_checked_good loop b Absent reach = (same_body bound b reach, λ w. tt)
      maybe_checked_good loop b (Present t) reach =
          bind_ends (Good (IsRight g) b) (Good (MaybeRight g) b) (checked s loop b t) (λ x. Ok (OneTStmt x.0, x.1)) (checked_good loop b t reach) (λ x h. h)

      pub all_checked_good : (loop : Bool) (b : BodyTree) (before : TStmtTrees) (all : StmtTrees) → AllBelow (length b.locals) b.blocks → (Within s.heads literals locals b → AreRight (tables_in s.heads s.library s.answer literals locals) before) → Ends (λ (x : TStmtTrees × BodyTree). Grows (length (all_types s.heads.structs)) b x.1 × (Within s.heads literals locals x.1 → AreRight (tables_in s.heads s.library s.answer literals locals) x.0)) (checked_all s loop b before all)
      all_checked_good loop b before NoStmts reach are = (same_body bound b reach, are)
      all_checked_good loop b before (MoreStmts t rest) reach are =
          bind_ends (Good (IsRight g) b) (Good (AreRight g) b) (checked s loop b t) (λ x. checked_all s loop x.1 (followed before x.0) rest) (checked_good loop b t reach) (λ x h.
          weaker (Good (AreRight g) x.1) (Good (AreRight g) b) (checked_all s loop x.1 (followed before x.0) rest)
          (all_checked_good loop x.1 (followed before x.0) rest h.0.reach (λ w. followed_right before x.0 (are (back s.heads literals locals bound b x.1 h.0 w)) (h.1 w)))
          (λ y k. (after bound b x.1 y.1 h.0 k.0, k.1)))
