-- The grammar of statements (this project's C profile), as Grammar has that of expressions: a height counts
-- statements alone, and each expression in them nests by itself.
use Rattle.std.specs.Prelude.{ℕ, ◌+◌, ◌≤◌, max, Bool, true, false, List, ◌∷◌, Option, Some, None}
use Rattle.fx_c_ast.specs.ParsedTrees.{TypeTree, ExprTree, StmtTree, EmptyTree, BlockTree}
use Rattle.fx_c_ast.specs.ParsedTrees.{LocalTree, EvalTree, AssignTree, IfTree, WhileTree, ForTree}
use Rattle.fx_c_ast.specs.ParsedTrees.{BreakTree, ContinueTree, ReturnTree, StmtTrees, NoStmts}
use Rattle.fx_c_ast.specs.ParsedTrees.{MoreStmts, MaybeStmt, Absent, Present}
use Rattle.fx_c_lex.specs.declared.sign.TheConstants.{OPEN_PAREN, CLOSE_PAREN, OPEN_BRACE, CLOSE_BRACE, SEMICOLON, ASSIGN}
use Rattle.fx_c_lex.specs.declared.keyword.TheConstants.{SHARED, IF, ELSE, WHILE, FOR, BREAK, CONTINUE, RETURN}
use Rattle.fx_c_parse.specs.Words.{Word, NameWord, KeywordWord, SignWord}
use Rattle.fx_c_parse.specs.Types.{nesting}
use Rattle.fx_c_parse.specs.Grammar.{IsPointerType, IsDims, IsExpression}

-- a base, stars, a name and dimensions
pub data IsDeclarator : List Word → TypeTree → List ℕ → List Word → Type 0 where
  declarator : {n m : ℕ} {ws a : List Word} {t u : TypeTree} {name : List ℕ} {rest : List Word}
      → IsPointerType n ws t (NameWord name ∷ a) → IsDims m a t u rest → n + m ≤ nesting
      → IsDeclarator ws u name rest

-- `__shared`, or nothing
pub data IsShared : List Word → Bool → List Word → Type 0 where
  unshared : {rest : List Word} → IsShared rest false rest
  shared : {rest : List Word} → IsShared (KeywordWord SHARED ∷ rest) true rest

-- `=` and an expression, or nothing
pub data IsValue : List Word → Option ExprTree → List Word → Type 0 where
  no_value : {rest : List Word} → IsValue rest None rest
  some_value : {a : List Word} {x : ExprTree} {rest : List Word} → IsExpression a x rest → IsValue (SignWord ASSIGN ∷ a) (Some x) rest

-- an expression, or nothing
pub data IsMaybeExpression : List Word → Option ExprTree → List Word → Type 0 where
  no_expression : {rest : List Word} → IsMaybeExpression rest None rest
  some_expression : {ws : List Word} {x : ExprTree} {rest : List Word} → IsExpression ws x rest → IsMaybeExpression ws (Some x) rest

-- an expression or an assignment
pub data IsSimple : List Word → StmtTree → List Word → Type 0 where
  evaluation : {ws : List Word} {x : ExprTree} {rest : List Word} → IsExpression ws x rest → IsSimple ws (EvalTree x) rest
  assignment : {ws a : List Word} {x y : ExprTree} {rest : List Word} → IsExpression ws x (SignWord ASSIGN ∷ a) → IsExpression a y rest → IsSimple ws (AssignTree x y) rest

-- an expression, an assignment, or nothing
pub data IsMaybeSimple : List Word → MaybeStmt → List Word → Type 0 where
  no_simple : {rest : List Word} → IsMaybeSimple rest Absent rest
  some_simple : {ws : List Word} {s : StmtTree} {rest : List Word} → IsSimple ws s rest → IsMaybeSimple ws (Present s) rest

mutual
  -- a statement, its height, and whether it is open: whether it ends with an `if` that has no `else`, so
  -- that an `else` behind it would belong to that
  pub data IsStatement : List Word → StmtTree → ℕ → Bool → List Word → Type 0 where
    empty : {rest : List Word} → IsStatement (SignWord SEMICOLON ∷ rest) EmptyTree 1 false rest
    block : {a : List Word} {ss : StmtTrees} {h : ℕ} {rest : List Word} → IsStatements a ss h (SignWord CLOSE_BRACE ∷ rest) → IsStatement (SignWord OPEN_BRACE ∷ a) (BlockTree ss) (h + 1) false rest
    local : {ws a c : List Word} {s : Bool} {t : TypeTree} {name : List ℕ} {v : Option ExprTree}
        {rest : List Word}
        → IsShared ws s a → IsDeclarator a t name c → IsValue c v (SignWord SEMICOLON ∷ rest)
        → IsStatement ws (LocalTree s t name v) 1 false rest
    simple : {ws : List Word} {s : StmtTree} {rest : List Word} → IsSimple ws s (SignWord SEMICOLON ∷ rest) → IsStatement ws s 1 false rest
    conditional : {a c : List Word} {x : ExprTree} {s : StmtTree} {h : ℕ} {open_end : Bool}
        {rest : List Word}
        → IsExpression a x (SignWord CLOSE_PAREN ∷ c) → IsStatement c s h open_end rest
        → IsStatement (KeywordWord IF ∷ SignWord OPEN_PAREN ∷ a) (IfTree x s Absent) (h + 1) true
        rest
    -- the statement before `else` isn't open: `else` belongs to the nearest `if`
    alternative : {a c d : List Word} {x : ExprTree} {s o : StmtTree} {h k : ℕ} {open_end : Bool}
        {rest : List Word}
        → IsExpression a x (SignWord CLOSE_PAREN ∷ c)
        → IsStatement c s h false (KeywordWord ELSE ∷ d) → IsStatement d o k open_end rest
        → IsStatement (KeywordWord IF ∷ SignWord OPEN_PAREN ∷ a) (IfTree x s (Present o))
        (max h k + 1) open_end rest
    repetition : {a c : List Word} {x : ExprTree} {s : StmtTree} {h : ℕ} {open_end : Bool}
        {rest : List Word}
        → IsExpression a x (SignWord CLOSE_PAREN ∷ c) → IsStatement c s h open_end rest
        → IsStatement (KeywordWord WHILE ∷ SignWord OPEN_PAREN ∷ a) (WhileTree x s) (h + 1) open_end
        rest
    counted : {a c d e : List Word} {first next : MaybeStmt} {x : Option ExprTree} {s : StmtTree}
        {h : ℕ} {open_end : Bool} {rest : List Word}
        → IsMaybeSimple a first (SignWord SEMICOLON ∷ c)
        → IsMaybeExpression c x (SignWord SEMICOLON ∷ d)
        → IsMaybeSimple d next (SignWord CLOSE_PAREN ∷ e) → IsStatement e s h open_end rest
        → IsStatement (KeywordWord FOR ∷ SignWord OPEN_PAREN ∷ a) (ForTree first x next s) (h + 1)
        open_end rest
    break : {rest : List Word} → IsStatement (KeywordWord BREAK ∷ SignWord SEMICOLON ∷ rest) BreakTree 1 false rest
    continue : {rest : List Word} → IsStatement (KeywordWord CONTINUE ∷ SignWord SEMICOLON ∷ rest) ContinueTree 1 false rest
    return : {a : List Word} {x : Option ExprTree} {rest : List Word} → IsMaybeExpression a x (SignWord SEMICOLON ∷ rest) → IsStatement (KeywordWord RETURN ∷ a) (ReturnTree x) 1 false rest

  -- statements and the height of the highest, 0 where there are none
  pub data IsStatements : List Word → StmtTrees → ℕ → List Word → Type 0 where
    no_statement : {rest : List Word} → IsStatements rest NoStmts 0 rest
    statements : {ws a : List Word} {s : StmtTree} {ss : StmtTrees} {h k : ℕ} {open_end : Bool}
        {rest : List Word}
        → IsStatement ws s h open_end a → IsStatements a ss k rest
        → IsStatements ws (MoreStmts s ss) (max h k) rest
