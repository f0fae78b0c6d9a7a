-- A statement has a tree by the judgements where the check gives it, and the other way round.
use Rattle.std.proofs.Common.{◌≡◌, ℕ, Bool, true, false, List, [], ◌∷◌, Option, Some, None, refl, sym, ap, ◌∙◌, subst, Ok, length}
use Rattle.std.specs.Prelude.{not, is_some}
use Rattle.fx_c_ast.specs.ParsedTrees.{TypeTree, ExprTree, StmtTree, EmptyTree, BlockTree, LocalTree, EvalTree, AssignTree, IfTree, WhileTree, ForTree, BreakTree, ContinueTree, ReturnTree, StmtTrees, NoStmts, MoreStmts, MaybeStmt, Absent, Present}
use Rattle.fx_c_ast.specs.CheckedTrees.{TyTree, VoidTy, TExprTree, ELocal, TStmtTree, SLocal, SEval, TStmtTrees, NoTStmts, MoreTStmts, MaybeTStmt}
use Rattle.fx_c_types_heads.specs.Names.{found}
use Rattle.fx_c_types_rules.specs.Checks.{◌>>=◌}
use Rattle.fx_c_types_rules.specs.Types.{is_void}
use Rattle.fx_c_types_rules.specs.Values.{type_of, value_of, condition, assigned}
use Rattle.fx_c_types_rules.specs.Structs.{place_32}
use Rattle.fx_c_types_heads.specs.Written.{ty_of}
use Rattle.fx_c_types_bodies.specs.Bodies.{ScopeTree, BodyTree, place_16, innermost, entered, left, with_local, with_name, started, assigned_start, declared_local, local, returned, maybe_typed, maybe_condition, return_node, followed, checked, checked_maybe, checked_all}
use Rattle.fx_c_types_rules_law.specs.Types.{IsScalar, IsObjectType}
use Rattle.fx_c_types_rules_law.specs.Values.{HasValue, Converts, IsTested, IsAssignable, IsAssigned}
use Rattle.fx_c_types_rules_law.specs.Expressions.{HasType}
use Rattle.fx_c_types_rules_law.specs.Statements as judged
use Rattle.fx_c_types_rules_law.specs.Statements.{MeansTest, test_left_out, test_there, MeansStatement, MeansMaybe, left_out, there, MeanStatements, no_statement, more_statements}
use Rattle.fx_c_types_rules_law.proofs.Ends.{Ends, answered, refused, bind_ends, demand_ends, map_ends, bind_ok, demand_ok}
use Rattle.fx_c_types_rules_law.proofs.TypeRules.{scalar_is, scalar_holds, means_type, object_is, object_holds}
use Rattle.fx_c_types_rules_law.proofs.ValueRules.{value_is, value_holds, converts_is, converts_holds, assignable_is, assignable_holds, assigned_is, assigned_holds, tested_is, tested_holds}
use Rattle.fx_c_types_rules_law.proofs.ExpressionRules.{typed_is, typed_holds}

-- ---- a name that a block doesn't declare

none_is : (r : Option ℕ) → not (is_some r) ≡ true → r ≡ None
none_is None h = refl
none_is (Some n) h = absurd cc

none_holds : (r : Option ℕ) → r ≡ None → not (is_some r) ≡ true
none_holds r h = ap (λ r. not (is_some r)) h

void_is : (t : TyTree) → is_void t ≡ true → t ≡ VoidTy
void_is VoidTy h = refl
void_is t h = absurd cc

-- ---- locals

alone_is : (s : ScopeTree) (loop : Bool) (b : BodyTree) (shared : Bool) (t : TypeTree) (name : List ℕ) → Ends (λ x. MeansStatement s loop b (LocalTree shared t name None) x.0 x.1) (local s b shared t name None)
alone_is s loop b shared t name =
    demand_ends _ _ _ (λ new. bind_ends _ _ (object_is s.heads s.declared t) (λ ty is.
    answered (subst (λ u. MeansStatement s loop b (LocalTree shared t name None) (SLocal (place_16 (place_32 (length b.locals))) None) (with_name (with_local b shared u) name (place_32 (length b.locals)))) (sym (means_type is.means))
    (judged.declaration (none_is (found name (innermost b)) new) is))))

-- the value that a local begins with
data StartsWith : ScopeTree → BodyTree → List ℕ → ℕ → ExprTree → Option TExprTree × BodyTree → Type 0 where
  starts : {s : ScopeTree} {b c : BodyTree} {name : List ℕ} {n : ℕ} {e : ExprTree} {x v : TExprTree} → HasType s (entered b ((name, n) ∷ [])) e x c → HasValue x v → StartsWith s b name n e (Some v, left c)

started_is : (s : ScopeTree) (b : BodyTree) (name : List ℕ) (n : ℕ) (e : ExprTree) → Ends (StartsWith s b name n e) (started s b name n (Some e))
started_is s b name n e = bind_ends _ _ (typed_is s (entered b ((name, n) ∷ [])) e) (λ x h. answered (starts h (value_is x.0)))

-- the value as it is assigned
data IsStart : TExprTree → TExprTree → Option TExprTree → Type 0 where
  starting_value : {to v w : TExprTree} → IsAssigned to v w → IsStart to v (Some w)

start_is : (to v : TExprTree) → Ends (IsStart to v) (assigned_start to (Some v))
start_is to v = bind_ends _ _ (assigned_is to v) (λ w assigns. answered (starting_value assigns))

begun : (s : ScopeTree) (loop : Bool) (b c : BodyTree) (shared : Bool) (t : TypeTree) (ty : TyTree) (name : List ℕ) (e : ExprTree) (x v : TExprTree) (init : Option TExprTree) → HasType s (entered (with_local b shared ty) ((name, place_32 (length b.locals)) ∷ [])) e x c → HasValue x v → found name (innermost (left c)) ≡ None → IsObjectType s.heads.tags s.heads.layouts s.declared t ty → IsStart (ELocal ty (place_16 (place_32 (length b.locals)))) v init
    → MeansStatement s loop b (LocalTree shared t name (Some e)) (SLocal (place_16 (place_32 (length b.locals))) init) (with_name (left c) name (place_32 (length b.locals)))
begun s loop b c shared t ty name e x v init h value new is (starting_value assigns) = judged.declaration_with_value h value new is assigns

declared_is : (s : ScopeTree) (loop : Bool) (b : BodyTree) (shared : Bool) (t : TypeTree) (name : List ℕ) (e : ExprTree) (x : Option TExprTree × BodyTree) → StartsWith s (with_local b shared (ty_of s.heads.tags t)) name (place_32 (length b.locals)) e x → Ends (λ x. MeansStatement s loop b (LocalTree shared t name (Some e)) x.0 x.1) (declared_local s shared t name (place_32 (length b.locals)) x)
declared_is s loop b shared t name e x (starts {c} {x = y} {v} h value) =
    demand_ends _ _ _ (λ new. bind_ends _ _ (object_is s.heads s.declared t) (λ ty is.
    bind_ends _ _ (start_is (ELocal ty (place_16 (place_32 (length b.locals)))) v) (λ init k.
    answered (begun s loop b c shared t ty name e y v init (subst (λ u. HasType s (entered (with_local b shared u) ((name, place_32 (length b.locals)) ∷ [])) e y c) (means_type is.means) h) value (none_is (found name (innermost (left c))) new) is k))))

local_is : (s : ScopeTree) (loop : Bool) (b : BodyTree) (shared : Bool) (t : TypeTree) (name : List ℕ) (init : Option ExprTree) → Ends (λ x. MeansStatement s loop b (LocalTree shared t name init) x.0 x.1) (local s b shared t name init)
local_is s loop b shared t name None = alone_is s loop b shared t name
local_is s loop b shared t name (Some e) =
    bind_ends _ _ (started_is s (with_local b shared (ty_of s.heads.tags t)) name (place_32 (length b.locals)) e) (λ x h. declared_is s loop b shared t name e x h)

-- ---- tests and results

-- a condition is tested behind the statements that follow it
data IsUntested : ScopeTree → BodyTree → Option ExprTree → Option TExprTree → BodyTree → Type 0 where
  no_test : {s : ScopeTree} {b : BodyTree} → IsUntested s b None None b
  one_test : {s : ScopeTree} {b c : BodyTree} {e : ExprTree} {x : TExprTree} → HasType s b e x c → IsUntested s b (Some e) (Some x) c

maybe_typed_is : (s : ScopeTree) (b : BodyTree) (e : Option ExprTree) → Ends (λ x. IsUntested s b e x.0 x.1) (maybe_typed s b e)
maybe_typed_is s b None = answered no_test
maybe_typed_is s b (Some e) = bind_ends _ _ (typed_is s b e) (λ x h. answered (one_test h))

condition_is : (s : ScopeTree) (b c : BodyTree) (e : Option ExprTree) (x : Option TExprTree) → IsUntested s b e x c → Ends (λ w. MeansTest s b e w c) (maybe_condition x)
condition_is s b c e x no_test = answered test_left_out
condition_is s b c e x (one_test {x = y} h) = bind_ends _ _ (tested_is (value_of y)) (λ w tests. answered (test_there h (value_is y) tests))

return_is : (s : ScopeTree) (loop : Bool) (b : BodyTree) (e : Option ExprTree) → Ends (λ x. MeansStatement s loop b (ReturnTree e) x.0 x.1) (return_node s b e)
return_is s loop b None = demand_ends _ _ _ (λ void. answered (judged.return_alone (void_is s.answer void)))
return_is s loop b (Some e) =
    bind_ends _ _ (typed_is s b e) (λ x h. bind_ends _ _ (returned_is (type_of (value_of x.0)) x.0) (λ w k. answered (judged.return_value h (value_is x.0) k.0 k.1 k.2)))
  where
    returned_is : (t : TyTree) (x : TExprTree) → Ends (λ w. IsScalar (type_of (value_of x)) × IsAssignable s.answer (value_of x) × Converts s.answer (value_of x) w) (returned s.answer (value_of x))
    returned_is t x = demand_ends _ _ _ (λ scalar. demand_ends _ _ _ (λ agree. answered (scalar_is (type_of (value_of x)) scalar, assignable_is s.answer (value_of x) agree, converts_is s.answer (value_of x))))

-- ---- statements behind others

abbrev joined : TStmtTrees → TStmtTrees → TStmtTrees
joined NoTStmts more = more
joined (MoreTStmts t rest) more = MoreTStmts t (joined rest more)

joined_none : (ts : TStmtTrees) → joined ts NoTStmts ≡ ts
joined_none NoTStmts = refl
joined_none (MoreTStmts t rest) = ap (MoreTStmts t) (joined_none rest)

joined_more : (before : TStmtTrees) (t : TStmtTree) (ts : TStmtTrees) → joined (followed before t) ts ≡ joined before (MoreTStmts t ts)
joined_more NoTStmts t ts = refl
joined_more (MoreTStmts u rest) t ts = ap (MoreTStmts u) (joined_more rest t ts)

abbrev Follows : ScopeTree → Bool → BodyTree → TStmtTrees → StmtTrees → TStmtTrees × BodyTree → Type 0
Follows s loop b before all x = (ts : TStmtTrees) × (joined before ts ≡ x.0) × MeanStatements s loop b all ts x.1

-- ---- what the check gives is judged

mutual
  pub checked_is : (s : ScopeTree) (loop : Bool) (b : BodyTree) (t : StmtTree) → Ends (λ x. MeansStatement s loop b t x.0 x.1) (checked s loop b t)
  checked_is s loop b EmptyTree = answered judged.empty_statement
  checked_is s loop b (BlockTree all) = bind_ends _ _ (statements_are s loop (entered b []) NoTStmts all) (λ x h. answered (judged.block (subst (λ ts. MeanStatements s loop (entered b []) all ts x.1) h.1 h.2)))
  checked_is s loop b (LocalTree shared t name init) = local_is s loop b shared t name init
  checked_is s loop b (EvalTree e) = bind_ends _ _ (typed_is s b e) (λ x h. answered (judged.evaluation h (value_is x.0)))
  checked_is s loop b (AssignTree to e) =
      bind_ends _ _ (typed_is s b to) (λ x h. bind_ends _ _ (typed_is s x.1 e) (λ y k. bind_ends _ _ (assigned_is x.0 (value_of y.0)) (λ w assigns.
      answered (judged.assignment h k (value_is y.0) assigns))))
  checked_is s loop b (IfTree test one other) =
      bind_ends _ _ (typed_is s b test) (λ t h. bind_ends _ _ (checked_is s loop t.1 one) (λ x k. bind_ends _ _ (maybe_is s loop x.1 other) (λ y m.
      bind_ends _ _ (tested_is (value_of t.0)) (λ w tests. answered (judged.selection h (value_is t.0) tests k m)))))
  checked_is s loop b (WhileTree test body) =
      bind_ends _ _ (typed_is s b test) (λ t h. bind_ends _ _ (checked_is s true t.1 body) (λ x k.
      bind_ends _ _ (tested_is (value_of t.0)) (λ w tests. answered (judged.while_loop h (value_is t.0) tests k))))
  checked_is s loop b (ForTree first test next body) =
      bind_ends _ _ (maybe_is s loop b first) (λ f h. bind_ends _ _ (maybe_typed_is s f.1 test) (λ t g. bind_ends _ _ (maybe_is s loop t.1 next) (λ n k.
      bind_ends _ _ (checked_is s true n.1 body) (λ x m. bind_ends _ _ (condition_is s f.1 t.1 test t.0 g) (λ w tests. answered (judged.for_loop h tests k m))))))
  checked_is s true b BreakTree = answered judged.break_statement
  checked_is s false b BreakTree = refused
  checked_is s true b ContinueTree = answered judged.continue_statement
  checked_is s false b ContinueTree = refused
  checked_is s loop b (ReturnTree e) = return_is s loop b e

  maybe_is : (s : ScopeTree) (loop : Bool) (b : BodyTree) (t : MaybeStmt) → Ends (λ x. MeansMaybe s loop b t x.0 x.1) (checked_maybe s loop b t)
  maybe_is s loop b Absent = answered left_out
  maybe_is s loop b (Present t) = bind_ends _ _ (checked_is s loop b t) (λ x h. answered (there h))

  statements_are : (s : ScopeTree) (loop : Bool) (b : BodyTree) (before : TStmtTrees) (all : StmtTrees) → Ends (Follows s loop b before all) (checked_all s loop b before all)
  statements_are s loop b before NoStmts = answered (NoTStmts, joined_none before, no_statement)
  statements_are s loop b before (MoreStmts t rest) =
      bind_ends _ _ (checked_is s loop b t) (λ x h. map_ends _ (statements_are s loop x.1 (followed before x.0) rest) (λ y k.
      (MoreTStmts x.0 k.0, sym (joined_more before x.0 k.0) ∙ k.1, more_statements h k.2)))

-- the statements of a body
pub body_is : (s : ScopeTree) (b : BodyTree) (all : StmtTrees) → Ends (λ x. MeanStatements s false b all x.0 x.1) (checked_all s false b NoTStmts all)
body_is s b all = map_ends _ (statements_are s false b NoTStmts all) (λ x h. subst (λ ts. MeanStatements s false b all ts x.1) h.1 h.2)

-- ---- what is judged is what the check gives

started_holds : (s : ScopeTree) (b c : BodyTree) (name : List ℕ) (n : ℕ) (e : ExprTree) (x v : TExprTree) → HasType s (entered b ((name, n) ∷ [])) e x c → HasValue x v → started s b name n (Some e) ≡ Ok (Some v, left c)
started_holds s b c name n e x v h value = bind_ok _ _ _ _ (typed_holds h) (ap (λ v. Ok (Some v, left c)) (value_holds value))

alone_holds : (s : ScopeTree) (b : BodyTree) (shared : Bool) (t : TypeTree) (ty : TyTree) (name : List ℕ) → found name (innermost b) ≡ None → IsObjectType s.heads.tags s.heads.layouts s.declared t ty → local s b shared t name None ≡ Ok (SLocal (place_16 (place_32 (length b.locals))) None, with_name (with_local b shared ty) name (place_32 (length b.locals)))
alone_holds s b shared t ty name new is =
    demand_ok _ _ _ _ (none_holds (found name (innermost b)) new)
    (bind_ok _ _ _ _ (object_holds s.heads s.declared t ty is)
    (ap (λ u. Ok (SLocal (place_16 (place_32 (length b.locals))) None, with_name (with_local b shared u) name (place_32 (length b.locals)))) (means_type is.means)))

valued_holds : (s : ScopeTree) (b c : BodyTree) (shared : Bool) (t : TypeTree) (ty : TyTree) (name : List ℕ) (e : ExprTree) (x v w : TExprTree) → HasType s (entered (with_local b shared ty) ((name, place_32 (length b.locals)) ∷ [])) e x c → HasValue x v → found name (innermost (left c)) ≡ None → IsObjectType s.heads.tags s.heads.layouts s.declared t ty → IsAssigned (ELocal ty (place_16 (place_32 (length b.locals)))) v w
    → local s b shared t name (Some e) ≡ Ok (SLocal (place_16 (place_32 (length b.locals))) (Some w), with_name (left c) name (place_32 (length b.locals)))
valued_holds s b c shared t ty name e x v w h value new is assigns =
    bind_ok _ _ _ _ (ap (λ u. started s (with_local b shared u) name (place_32 (length b.locals)) (Some e)) (means_type is.means) ∙ started_holds s (with_local b shared ty) c name (place_32 (length b.locals)) e x v h value)
    (demand_ok _ _ _ _ (none_holds (found name (innermost (left c))) new)
    (bind_ok _ _ _ _ (object_holds s.heads s.declared t ty is)
    (bind_ok _ _ _ _ (bind_ok _ _ _ _ (assigned_holds assigns) refl) refl)))

test_typed : {s : ScopeTree} {b c : BodyTree} {e : Option ExprTree} {w : Option TExprTree} → MeansTest s b e w c → (x : Option TExprTree) × (maybe_typed s b e ≡ Ok (x, c)) × (maybe_condition x ≡ Ok w)
test_typed test_left_out = (None, refl, refl)
test_typed (test_there {x} {v} h value tests) = (Some x, bind_ok _ _ _ _ (typed_holds h) refl, ap (λ v. condition v >>= (λ e. Ok (Some e))) (value_holds value) ∙ bind_ok _ _ _ _ (tested_holds tests) refl)

condition_holds : {x v w : TExprTree} → HasValue x v → IsTested v w → condition (value_of x) ≡ Ok w
condition_holds value tests = ap condition (value_holds value) ∙ tested_holds tests

returned_holds : {x v w : TExprTree} (t : TyTree) → HasValue x v → IsScalar (type_of v) → IsAssignable t v → Converts t v w → returned t (value_of x) ≡ Ok w
returned_holds t value scalar agree c = ap (returned t) (value_holds value) ∙ demand_ok _ _ _ _ (scalar_holds scalar) (demand_ok _ _ _ _ (assignable_holds agree) (ap Ok (converts_holds c)))

mutual
  pub checked_holds : {s : ScopeTree} {loop : Bool} {b c : BodyTree} {t : StmtTree} {u : TStmtTree} → MeansStatement s loop b t u c → checked s loop b t ≡ Ok (u, c)
  checked_holds judged.empty_statement = refl
  checked_holds (judged.block h) = bind_ok _ _ _ _ (statements_hold NoTStmts h) refl
  checked_holds (judged.declaration {s} {loop} {b} {shared} {t} {ty} {name} new is) = alone_holds s b shared t ty name new is
  checked_holds (judged.declaration_with_value {s} {loop} {b} {c} {shared} {t} {ty} {name} {e} {x} {v} {w} h value new is assigns) = valued_holds s b c shared t ty name e x v w h value new is assigns
  checked_holds (judged.evaluation {c} h value) = bind_ok _ _ _ _ (typed_holds h) (ap (λ v. Ok (SEval v, c)) (value_holds value))
  checked_holds (judged.assignment {x} h k value assigns) = bind_ok _ _ _ _ (typed_holds h) (bind_ok _ _ _ _ (typed_holds k) (bind_ok _ _ _ _ (ap (assigned x) (value_holds value) ∙ assigned_holds assigns) refl))
  checked_holds (judged.selection h value tests k m) = bind_ok _ _ _ _ (typed_holds h) (bind_ok _ _ _ _ (checked_holds k) (bind_ok _ _ _ _ (maybe_holds m) (bind_ok _ _ _ _ (condition_holds value tests) refl)))
  checked_holds (judged.while_loop h value tests k) = bind_ok _ _ _ _ (typed_holds h) (bind_ok _ _ _ _ (checked_holds k) (bind_ok _ _ _ _ (condition_holds value tests) refl))
  checked_holds (judged.for_loop h test k m) =
      let x = test_typed test in
      bind_ok _ _ _ _ (maybe_holds h) (bind_ok _ _ _ _ x.1 (bind_ok _ _ _ _ (maybe_holds k) (bind_ok _ _ _ _ (checked_holds m) (bind_ok _ _ _ _ x.2 refl))))
  checked_holds judged.break_statement = refl
  checked_holds judged.continue_statement = refl
  checked_holds (judged.return_alone {s} {loop} {b} is) = demand_ok _ _ _ _ (ap is_void is) refl
  checked_holds (judged.return_value {s} h value scalar agree c) = bind_ok _ _ _ _ (typed_holds h) (bind_ok _ _ _ _ (returned_holds s.answer value scalar agree c) refl)

  maybe_holds : {s : ScopeTree} {loop : Bool} {b c : BodyTree} {t : MaybeStmt} {u : MaybeTStmt} → MeansMaybe s loop b t u c → checked_maybe s loop b t ≡ Ok (u, c)
  maybe_holds left_out = refl
  maybe_holds (there h) = bind_ok _ _ _ _ (checked_holds h) refl

  statements_hold : {s : ScopeTree} {loop : Bool} {b c : BodyTree} {all : StmtTrees} {ts : TStmtTrees} (before : TStmtTrees) → MeanStatements s loop b all ts c → checked_all s loop b before all ≡ Ok (joined before ts, c)
  statements_hold before (no_statement {s} {loop} {b}) = ap (λ ts. Ok (ts, b)) (sym (joined_none before))
  statements_hold before (more_statements {d} {u} {us} h more) =
      bind_ok _ _ _ _ (checked_holds h) (statements_hold (followed before u) more ∙ ap (λ ts. Ok (ts, d)) (joined_more before u us))

pub body_holds : {s : ScopeTree} {b c : BodyTree} {all : StmtTrees} {ts : TStmtTrees} → MeanStatements s false b all ts c → checked_all s false b NoTStmts all ≡ Ok (ts, c)
body_holds h = statements_hold NoTStmts h
