-- Each jump of a checked statement stands in a loop.
use Rattle.std.proofs.Common.{◌≡◌, ℕ, Bool, true, false, ◌&&◌, not, is_some, refl, ap, ◌∙◌, List, [], length, Option, Some, None, Ok, Err}
use Rattle.fx_c_ast.specs.ParsedTrees.{ExprTree, StmtTree, EmptyTree, BlockTree, LocalTree, EvalTree, AssignTree, IfTree, WhileTree, ForTree, BreakTree, ContinueTree, ReturnTree, StmtTrees, NoStmts, MoreStmts, MaybeStmt, Absent, Present, TypeTree}
use Rattle.fx_c_ast.specs.CheckedTrees.{TyTree, TExprTree, ELocal, TStmtTree, SBlock, SLocal, SEval, SAssign, SIf, SWhile, SFor, SBreak, SContinue, SReturn, TStmtTrees, NoTStmts, MoreTStmts, MaybeTStmt, OneTStmt}
use Rattle.fx_c_types_heads.specs.Names.{found}
use Rattle.fx_c_types_rules.specs.declared.fault.TypeKind.TheVariants.{Twice, ReturnType, BreakOutside}
use Rattle.fx_c_types_rules.specs.Checks.{Checked, ◌>>=◌}
use Rattle.fx_c_types_rules.specs.Types.{is_void}
use Rattle.fx_c_types_rules.specs.Values.{value_of, condition, assigned}
use Rattle.fx_c_types_rules.specs.Structs.{place_32}
use Rattle.fx_c_types_heads.specs.Written.{ty_of}
use Rattle.fx_c_types_heads.specs.Heads.{object_type}
use Rattle.fx_c_types_bodies.specs.Bodies.{ScopeTree, BodyTree, typed, innermost, entered, left, with_local, with_name, started, assigned_start, declared_local, place_16, returned, maybe_typed, maybe_condition, return_node, followed, checked, checked_maybe, checked_all}
use Rattle.fx_c_types_model.specs.Jumps.{jumps_inside, maybe_inside, all_inside}
use Rattle.fx_c_types_law.proofs.Ends.{Ends, bind_ends, demand_ends}

abbrev Inside : Bool → (TStmtTree × BodyTree) → Type 0
Inside loop x = jumps_inside loop x.0 ≡ true

-- what needs no condition on what comes before
onward : {A B : Type 0} (Q : B → Type 0) (r : Checked A) (f : A → Checked B) → ((x : A) → Ends Q (f x)) → Ends Q (r >>= f)
onward Q (Ok x) f k = k x
onward Q (Err e) f k = tt

both : (a b : Bool) → a ≡ true → b ≡ true → (a && b) ≡ true
both a b p q = ap (λ x. x && b) p ∙ q

followed_inside : (loop : Bool) (ts : TStmtTrees) (t : TStmtTree) → all_inside loop ts ≡ true → jumps_inside loop t ≡ true → all_inside loop (followed ts t) ≡ true
followed_inside loop NoTStmts t all here = both (jumps_inside loop t) true here refl
followed_inside loop (MoreTStmts u rest) t all here =
    both (jumps_inside loop u) (all_inside loop (followed rest t)) (first (jumps_inside loop u) (all_inside loop rest) all)
    (followed_inside loop rest t (second (jumps_inside loop u) (all_inside loop rest) all) here)
  where
    first : (a b : Bool) → (a && b) ≡ true → a ≡ true
    first true b h = refl
    first false b h = h

    second : (a b : Bool) → (a && b) ≡ true → b ≡ true
    second true b h = h
    second false b h = cc

declared_inside : (s : ScopeTree) (loop shared : Bool) (t : TypeTree) (name : List ℕ) (n : ℕ) (x : Option TExprTree × BodyTree) → Ends (Inside loop) (declared_local s shared t name n x)
declared_inside s loop shared t name n x =
    let end : Option TExprTree → Checked (TStmtTree × BodyTree) = λ init. Ok (SLocal (place_16 n) init, with_name x.1 name n) in
    let build : TyTree → Checked (TStmtTree × BodyTree) = λ ty. assigned_start (ELocal ty (place_16 n)) x.0 >>= end in
    demand_ends (Inside loop) (not (is_some (found name (innermost x.1)))) Twice (object_type s.heads s.declared t >>= build) (λ new.
    onward (Inside loop) (object_type s.heads s.declared t) build (λ ty.
    onward (Inside loop) (assigned_start (ELocal ty (place_16 n)) x.0) end (λ init. refl)))

return_inside : (s : ScopeTree) (loop : Bool) (b : BodyTree) (e : Option ExprTree) → Ends (Inside loop) (return_node s b e)
return_inside s loop b None = demand_ends (Inside loop) (is_void s.answer) ReturnType (Ok (SReturn None, b)) (λ void. refl)
return_inside s loop b (Some e) =
    onward (Inside loop) (typed s b e) (λ x. returned s.answer (value_of x.0) >>= (λ e. Ok (SReturn (Some e), x.1))) (λ x.
    onward (Inside loop) (returned s.answer (value_of x.0)) (λ e. Ok (SReturn (Some e), x.1)) (λ e. refl))

mutual
  pub checked_inside : (s : ScopeTree) (loop : Bool) (b : BodyTree) (t : StmtTree) → Ends (λ (x : TStmtTree × BodyTree). jumps_inside loop x.0 ≡ true) (checked s loop b t)
  checked_inside s loop b EmptyTree = refl
  checked_inside s loop b (BlockTree all) =
      bind_ends (λ (x : TStmtTrees × BodyTree). all_inside loop x.0 ≡ true) (Inside loop) (checked_all s loop (entered b []) NoTStmts all) (λ x. Ok (SBlock x.0, left x.1)) (all_checked_inside s loop (entered b []) NoTStmts all refl) (λ x h. h)
  checked_inside s loop b (LocalTree shared t name init) =
      onward (Inside loop) (started s (with_local b shared (ty_of s.heads.tags t)) name (place_32 (length b.locals)) init) (λ x. declared_local s shared t name (place_32 (length b.locals)) x)
      (λ x. declared_inside s loop shared t name (place_32 (length b.locals)) x)
  checked_inside s loop b (EvalTree e) = onward (Inside loop) (typed s b e) (λ x. Ok (SEval (value_of x.0), x.1)) (λ x. refl)
  checked_inside s loop b (AssignTree to e) =
      onward (Inside loop) (typed s b to) (λ x. typed s x.1 e >>= (λ y. assigned x.0 (value_of y.0) >>= (λ e. Ok (SAssign x.0 e, y.1)))) (λ x.
      onward (Inside loop) (typed s x.1 e) (λ y. assigned x.0 (value_of y.0) >>= (λ e. Ok (SAssign x.0 e, y.1))) (λ y.
      onward (Inside loop) (assigned x.0 (value_of y.0)) (λ e. Ok (SAssign x.0 e, y.1)) (λ e. refl)))
  checked_inside s loop b (IfTree test one other) =
      onward (Inside loop) (typed s b test) (λ t. checked s loop t.1 one >>= (λ x. checked_maybe s loop x.1 other >>= (λ y. condition (value_of t.0) >>= (λ c. Ok (SIf c x.0 y.0, y.1))))) (λ t.
      bind_ends (Inside loop) (Inside loop) (checked s loop t.1 one) (λ x. checked_maybe s loop x.1 other >>= (λ y. condition (value_of t.0) >>= (λ c. Ok (SIf c x.0 y.0, y.1)))) (checked_inside s loop t.1 one) (λ x h.
      bind_ends (λ (y : MaybeTStmt × BodyTree). maybe_inside loop y.0 ≡ true) (Inside loop) (checked_maybe s loop x.1 other) (λ y. condition (value_of t.0) >>= (λ c. Ok (SIf c x.0 y.0, y.1))) (maybe_checked_inside s loop x.1 other) (λ y i.
      onward (Inside loop) (condition (value_of t.0)) (λ c. Ok (SIf c x.0 y.0, y.1)) (λ c. both (jumps_inside loop x.0) (maybe_inside loop y.0) h i))))
  checked_inside s loop b (WhileTree test body) =
      onward (Inside loop) (typed s b test) (λ t. checked s true t.1 body >>= (λ x. condition (value_of t.0) >>= (λ c. Ok (SWhile c x.0, x.1)))) (λ t.
      bind_ends (Inside true) (Inside loop) (checked s true t.1 body) (λ x. condition (value_of t.0) >>= (λ c. Ok (SWhile c x.0, x.1))) (checked_inside s true t.1 body) (λ x h.
      onward (Inside loop) (condition (value_of t.0)) (λ c. Ok (SWhile c x.0, x.1)) (λ c. h)))
  checked_inside s loop b (ForTree first test next body) =
      bind_ends (λ (x : MaybeTStmt × BodyTree). maybe_inside loop x.0 ≡ true) (Inside loop) (checked_maybe s loop b first) (λ f. maybe_typed s f.1 test >>= (λ t. checked_maybe s loop t.1 next >>= (λ n. checked s true n.1 body >>= (λ x. maybe_condition t.0 >>= (λ c. Ok (SFor f.0 c n.0 x.0, x.1)))))) (maybe_checked_inside s loop b first) (λ f g.
      onward (Inside loop) (maybe_typed s f.1 test) (λ t. checked_maybe s loop t.1 next >>= (λ n. checked s true n.1 body >>= (λ x. maybe_condition t.0 >>= (λ c. Ok (SFor f.0 c n.0 x.0, x.1))))) (λ t.
      bind_ends (λ (x : MaybeTStmt × BodyTree). maybe_inside loop x.0 ≡ true) (Inside loop) (checked_maybe s loop t.1 next) (λ n. checked s true n.1 body >>= (λ x. maybe_condition t.0 >>= (λ c. Ok (SFor f.0 c n.0 x.0, x.1)))) (maybe_checked_inside s loop t.1 next) (λ n i.
      bind_ends (Inside true) (Inside loop) (checked s true n.1 body) (λ x. maybe_condition t.0 >>= (λ c. Ok (SFor f.0 c n.0 x.0, x.1))) (checked_inside s true n.1 body) (λ x j.
      onward (Inside loop) (maybe_condition t.0) (λ c. Ok (SFor f.0 c n.0 x.0, x.1)) (λ c.
      both (maybe_inside loop f.0 && maybe_inside loop n.0) (jumps_inside true x.0) (both (maybe_inside loop f.0) (maybe_inside loop n.0) g i) j)))))
  checked_inside s loop b BreakTree = demand_ends (Inside loop) loop BreakOutside (Ok (SBreak, b)) (λ inside. inside)
  checked_inside s loop b ContinueTree = demand_ends (Inside loop) loop BreakOutside (Ok (SContinue, b)) (λ inside. inside)
  checked_inside s loop b (ReturnTree e) = return_inside s loop b e

  maybe_checked_inside : (s : ScopeTree) (loop : Bool) (b : BodyTree) (t : MaybeStmt) → Ends (λ (x : MaybeTStmt × BodyTree). maybe_inside loop x.0 ≡ true) (checked_maybe s loop b t)
  maybe_checked_inside s loop b Absent = refl
  maybe_checked_inside s loop b (Present t) =
      bind_ends (Inside loop) (λ (x : MaybeTStmt × BodyTree). maybe_inside loop x.0 ≡ true) (checked s loop b t) (λ x. Ok (OneTStmt x.0, x.1)) (checked_inside s loop b t) (λ x h. h)

  pub all_checked_inside : (s : ScopeTree) (loop : Bool) (b : BodyTree) (before : TStmtTrees) (all : StmtTrees) → all_inside loop before ≡ true → Ends (λ (x : TStmtTrees × BodyTree). all_inside loop x.0 ≡ true) (checked_all s loop b before all)
  all_checked_inside s loop b before NoStmts inside = inside
  all_checked_inside s loop b before (MoreStmts t rest) inside =
      bind_ends (Inside loop) (λ (x : TStmtTrees × BodyTree). all_inside loop x.0 ≡ true) (checked s loop b t) (λ x. checked_all s loop x.1 (followed before x.0) rest) (checked_inside s loop b t) (λ x h.
      all_checked_inside s loop x.1 (followed before x.0) rest (followed_inside loop before x.0 inside h))
