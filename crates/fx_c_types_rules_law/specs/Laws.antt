-- What the judgements derive is what the check's rules give.
use Rattle.std.specs.Prelude.{◌≡◌, ◌↔◌, Bool, false, Ok}
use Rattle.fx_c_ast.specs.ParsedTrees.{ExprTree, StmtTree, StmtTrees}
use Rattle.fx_c_ast.specs.CheckedTrees.{TExprTree, TStmtTree, TStmtTrees, NoTStmts}
use Rattle.fx_c_types_bodies.specs.Bodies.{ScopeTree, BodyTree, typed, checked, checked_all}
use Rattle.fx_c_types_rules_law.specs.Expressions.{HasType}
use Rattle.fx_c_types_rules_law.specs.Statements.{MeansStatement, MeanStatements}

-- an expression
abbrev pub ExpressionsAreJudged : Type 0
ExpressionsAreJudged = (s : ScopeTree) (b c : BodyTree) (e : ExprTree) (t : TExprTree) → HasType s b e t c ↔ (typed s b e ≡ Ok (t, c))

-- a statement
abbrev pub StatementsAreJudged : Type 0
StatementsAreJudged = (s : ScopeTree) (loop : Bool) (b c : BodyTree) (t : StmtTree) (u : TStmtTree) → MeansStatement s loop b t u c ↔ (checked s loop b t ≡ Ok (u, c))

-- the statements of a function's body, which stands in no loop
abbrev pub BodiesAreJudged : Type 0
BodiesAreJudged = (s : ScopeTree) (b c : BodyTree) (all : StmtTrees) (ts : TStmtTrees) → MeanStatements s false b all ts c ↔ (checked_all s false b NoTStmts all ≡ Ok (ts, c))

-- an expression means at most one tree
abbrev pub ExpressionsAreDetermined : Type 0
ExpressionsAreDetermined = (s : ScopeTree) (b c d : BodyTree) (e : ExprTree) (t u : TExprTree) → HasType s b e t c → HasType s b e u d → (t ≡ u) × (c ≡ d)

-- so does a statement
abbrev pub StatementsAreDetermined : Type 0
StatementsAreDetermined = (s : ScopeTree) (loop : Bool) (b c d : BodyTree) (t : StmtTree) (u v : TStmtTree) → MeansStatement s loop b t u c → MeansStatement s loop b t v d → (u ≡ v) × (c ≡ d)
