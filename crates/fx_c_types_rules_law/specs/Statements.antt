-- Statements: which checked tree a statement means (C11 6.8).
--
-- `MeansStatement s loop b t u c`: in the scope s, inside a loop or not, where b is there, the statement t means the
-- tree u; c is there behind it. A statement adds its strings, its locals, and the names that it declares in its block.
use Rattle.std.specs.Prelude.{◌≡◌, ℕ, Bool, true, List, [], ◌∷◌, length, Option, Some, None}
use Rattle.fx_c_ast.specs.ParsedTrees.{TypeTree, ExprTree, StmtTree, EmptyTree, BlockTree}
use Rattle.fx_c_ast.specs.ParsedTrees.{LocalTree, EvalTree, AssignTree, IfTree, WhileTree, ForTree}
use Rattle.fx_c_ast.specs.ParsedTrees.{BreakTree, ContinueTree, ReturnTree, StmtTrees, NoStmts}
use Rattle.fx_c_ast.specs.ParsedTrees.{MoreStmts, MaybeStmt, Absent, Present}
use Rattle.fx_c_ast.specs.CheckedTrees.{TyTree, VoidTy, TExprTree, ELocal, TStmtTree, SEmpty}
use Rattle.fx_c_ast.specs.CheckedTrees.{SBlock, SLocal, SEval, SAssign, SIf, SWhile, SFor, SBreak}
use Rattle.fx_c_ast.specs.CheckedTrees.{SContinue, SReturn, TStmtTrees, NoTStmts, MoreTStmts}
use Rattle.fx_c_ast.specs.CheckedTrees.{MaybeTStmt, NoTStmt, OneTStmt}
use Rattle.fx_c_types_heads.specs.Names.{found}
use Rattle.fx_c_types_rules.specs.Values.{type_of}
use Rattle.fx_c_types_rules.specs.Structs.{place_32}
use Rattle.fx_c_types_bodies.specs.Bodies.{ScopeTree, BodyTree, place_16, innermost, entered, left, with_local, with_name}
use Rattle.fx_c_types_rules_law.specs.Types.{IsScalar, IsObjectType}
use Rattle.fx_c_types_rules_law.specs.Values.{HasValue, Converts, IsAssignable, IsAssigned, IsTested}
use Rattle.fx_c_types_rules_law.specs.Expressions.{HasType}

-- the condition of a `for`, which may be left out (6.8.5.3, 2)
pub data MeansTest : ScopeTree → BodyTree → Option ExprTree → Option TExprTree → BodyTree → Type 0 where
  test_left_out : {s : ScopeTree} {b : BodyTree} → MeansTest s b None None b
  test_there : {s : ScopeTree} {b c : BodyTree} {e : ExprTree} {x v w : TExprTree} → HasType s b e x c → HasValue x v → IsTested v w → MeansTest s b (Some e) (Some w) c

mutual
  pub data MeansStatement : ScopeTree → Bool → BodyTree → StmtTree → TStmtTree → BodyTree → Type 0 where
    -- 6.8.3, 3
    empty_statement : {s : ScopeTree} {loop : Bool} {b : BodyTree} → MeansStatement s loop b EmptyTree SEmpty b
    -- names that a block declares are in reach up to its end (6.2.1, 4; 6.8.2)
    block : {s : ScopeTree} {loop : Bool} {b c : BodyTree} {all : StmtTrees} {ts : TStmtTrees}
        → MeanStatements s loop (entered b []) all ts c
        → MeansStatement s loop b (BlockTree all) (SBlock ts) (left c)
    -- a local of a type that objects may have, whose name the block doesn't declare yet (6.7, 3 and 7)
    declaration : {s : ScopeTree} {loop : Bool} {b : BodyTree} {shared : Bool} {t : TypeTree}
        {ty : TyTree} {name : List ℕ}
        → found name (innermost b) ≡ None
        → IsObjectType s.heads.tags s.heads.layouts s.declared t ty
        → MeansStatement s loop b (LocalTree shared t name None) (SLocal (place_16 (place_32 (length b.locals))) None) (with_name (with_local b shared ty) name (place_32 (length b.locals)))
    -- the local is in reach in its initial value already (6.2.1, 7), which is assigned to it (6.7.9, 11 and 13)
    declaration_with_value : {s : ScopeTree} {loop : Bool} {b c : BodyTree} {shared : Bool} {t : TypeTree} {ty : TyTree} {name : List ℕ} {e : ExprTree} {x v w : TExprTree}
        → HasType s (entered (with_local b shared ty) ((name, place_32 (length b.locals)) ∷ [])) e x c → HasValue x v
        → found name (innermost (left c)) ≡ None → IsObjectType s.heads.tags s.heads.layouts s.declared t ty
        → IsAssigned (ELocal ty (place_16 (place_32 (length b.locals)))) v w
        → MeansStatement s loop b (LocalTree shared t name (Some e)) (SLocal (place_16 (place_32 (length b.locals))) (Some w)) (with_name (left c) name (place_32 (length b.locals)))
    -- 6.8.3, 2
    evaluation : {s : ScopeTree} {loop : Bool} {b c : BodyTree} {e : ExprTree} {x v : TExprTree} → HasType s b e x c → HasValue x v → MeansStatement s loop b (EvalTree e) (SEval v) c
    -- 6.5.16
    assignment : {s : ScopeTree} {loop : Bool} {b c d : BodyTree} {to e : ExprTree}
        {x y v w : TExprTree}
        → HasType s b to x c → HasType s c e y d → HasValue y v → IsAssigned x v w
        → MeansStatement s loop b (AssignTree to e) (SAssign x w) d
    -- 6.8.4.1
    selection : {s : ScopeTree} {loop : Bool} {b c d f : BodyTree} {test : ExprTree}
        {one : StmtTree} {other : MaybeStmt} {x v w : TExprTree} {t : TStmtTree} {u : MaybeTStmt}
        → HasType s b test x c → HasValue x v → IsTested v w → MeansStatement s loop c one t d
        → MeansMaybe s loop d other u f
        → MeansStatement s loop b (IfTree test one other) (SIf w t u) f
    -- 6.8.5.1
    while_loop : {s : ScopeTree} {loop : Bool} {b c d : BodyTree} {test : ExprTree}
        {body : StmtTree} {x v w : TExprTree} {t : TStmtTree}
        → HasType s b test x c → HasValue x v → IsTested v w → MeansStatement s true c body t d
        → MeansStatement s loop b (WhileTree test body) (SWhile w t) d
    -- 6.8.5.3
    for_loop : {s : ScopeTree} {loop : Bool} {b c d f g : BodyTree} {first next : MaybeStmt}
        {test : Option ExprTree} {body : StmtTree} {t u : MaybeTStmt} {w : Option TExprTree}
        {x : TStmtTree}
        → MeansMaybe s loop b first t c → MeansTest s c test w d → MeansMaybe s loop d next u f
        → MeansStatement s true f body x g
        → MeansStatement s loop b (ForTree first test next body) (SFor t w u x) g
    -- only in a loop (6.8.6.2, 1; 6.8.6.3, 1)
    break_statement : {s : ScopeTree} {b : BodyTree} → MeansStatement s true b BreakTree SBreak b
    continue_statement : {s : ScopeTree} {b : BodyTree} → MeansStatement s true b ContinueTree SContinue b
    -- without a value in a function of type void alone, else with one that is converted as if by assignment (6.8.6.4)
    return_alone : {s : ScopeTree} {loop : Bool} {b : BodyTree} → s.answer ≡ VoidTy → MeansStatement s loop b (ReturnTree None) (SReturn None) b
    return_value : {s : ScopeTree} {loop : Bool} {b c : BodyTree} {e : ExprTree} {x v w : TExprTree}
        → HasType s b e x c → HasValue x v → IsScalar (type_of v) → IsAssignable s.answer v
        → Converts s.answer v w → MeansStatement s loop b (ReturnTree (Some e)) (SReturn (Some w)) c

  -- a part that may be left out
  pub data MeansMaybe : ScopeTree → Bool → BodyTree → MaybeStmt → MaybeTStmt → BodyTree → Type 0 where
    left_out : {s : ScopeTree} {loop : Bool} {b : BodyTree} → MeansMaybe s loop b Absent NoTStmt b
    there : {s : ScopeTree} {loop : Bool} {b c : BodyTree} {t : StmtTree} {u : TStmtTree} → MeansStatement s loop b t u c → MeansMaybe s loop b (Present t) (OneTStmt u) c

  -- statements in order
  pub data MeanStatements : ScopeTree → Bool → BodyTree → StmtTrees → TStmtTrees → BodyTree → Type 0 where
    no_statement : {s : ScopeTree} {loop : Bool} {b : BodyTree} → MeanStatements s loop b NoStmts NoTStmts b
    more_statements : {s : ScopeTree} {loop : Bool} {b c d : BodyTree} {t : StmtTree}
        {ts : StmtTrees} {u : TStmtTree} {us : TStmtTrees}
        → MeansStatement s loop b t u c → MeanStatements s loop c ts us d
        → MeanStatements s loop b (MoreStmts t ts) (MoreTStmts u us) d
