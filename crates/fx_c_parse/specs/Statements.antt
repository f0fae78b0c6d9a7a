-- Statements.
use Rattle.std.specs.Prelude.{ℕ, zero, suc, ◌+◌, List, length, Option, Some, None, if◌then◌else◌}
use Rattle.fx_c_ast.specs.ParsedTrees.{TypeTree, ExprTree, StmtTree, EmptyTree, BlockTree}
use Rattle.fx_c_ast.specs.ParsedTrees.{LocalTree, EvalTree, AssignTree, IfTree, WhileTree, ForTree}
use Rattle.fx_c_ast.specs.ParsedTrees.{BreakTree, ContinueTree, ReturnTree, StmtTrees, NoStmts}
use Rattle.fx_c_ast.specs.ParsedTrees.{MaybeStmt, Absent, Present}
use Rattle.fx_c_lex.specs.declared.sign.TheConstants.{OPEN_PAREN, CLOSE_PAREN, CLOSE_BRACE, SEMICOLON, ASSIGN}
use Rattle.fx_c_lex.specs.declared.keyword.TheConstants.{SHARED, ELSE}
use Rattle.fx_c_parse.specs.declared.front.StatementFront.{StatementFront}
use Rattle.fx_c_parse.specs.declared.front.StatementFront.TheVariants as front
use Rattle.fx_c_parse.specs.Making.{with_last_stmt}
use Rattle.fx_c_parse.specs.Words.{Word, first_name, has_sign, has_keyword, after_sign, tail}
use Rattle.fx_c_parse.specs.Reading.{◌>>=◌, Turn, Ends, Tries, turns}
use Rattle.fx_c_parse.specs.Fronts.{statement_front}
use Rattle.fx_c_parse.specs.Types.{pointer_type_of, dims_of}
use Rattle.fx_c_parse.specs.Expressions.{expression_of}

-- a base, stars, a name and dimensions
abbrev pub declarator_of : List Word → Option (TypeTree × List ℕ × List Word)
declarator_of ws = pointer_type_of ws >>= λ t. first_name t.2 >>= λ n. dims_of t.1 t.0 (tail t.2) >>= λ d. Some (d.0, n, d.1)

-- `=` and a value, if they stand there
abbrev pub value_of : List Word → Option (Option ExprTree × List Word)
value_of ws = if has_sign ASSIGN ws then (expression_of (tail ws) >>= λ x. Some (Some x.0, x.1)) else Some (None, ws)

abbrev pub behind_shared : List Word → List Word
behind_shared ws = if has_keyword SHARED ws then tail ws else ws

abbrev pub local_of : List Word → Option (StmtTree × List Word)
local_of ws = declarator_of (behind_shared ws) >>= λ d. value_of d.2 >>= λ v. after_sign SEMICOLON v.1 >>= λ rest. Some (LocalTree (has_keyword SHARED ws) d.0 d.1 v.0, rest)

abbrev pub simple_tree : ExprTree → Option ExprTree → StmtTree
simple_tree to None = EvalTree to
simple_tree to (Some e) = AssignTree to e

-- an expression or an assignment
abbrev pub simple_of : List Word → Option (StmtTree × List Word)
simple_of ws = expression_of ws >>= λ x. value_of x.1 >>= λ v. Some (simple_tree x.0 v.0, v.1)

abbrev pub simple_statement_of : List Word → Option (StmtTree × List Word)
simple_statement_of ws = simple_of ws >>= λ x. after_sign SEMICOLON x.1 >>= λ rest. Some (x.0, rest)

-- an expression or an assignment, if not the sign that ends it, and that sign
abbrev pub optional_simple_of : ℕ → List Word → Option (MaybeStmt × List Word)
optional_simple_of end ws = if has_sign end ws then Some (Absent, tail ws) else (simple_of ws >>= λ x. after_sign end x.1 >>= λ rest. Some (Present x.0, rest))

-- an expression, if not the `;` that ends it, and that sign
abbrev pub optional_expression_of : List Word → Option (Option ExprTree × List Word)
optional_expression_of ws = if has_sign SEMICOLON ws then Some (None, tail ws) else (expression_of ws >>= λ x. after_sign SEMICOLON x.1 >>= λ rest. Some (Some x.0, rest))

-- `(`, an expression and `)`
abbrev pub condition_of : List Word → Option (ExprTree × List Word)
condition_of ws = after_sign OPEN_PAREN ws >>= λ a. expression_of a >>= λ x. after_sign CLOSE_PAREN x.1 >>= λ rest. Some (x.0, rest)

-- the head of a `for` statement, with its parentheses
abbrev pub for_head_of : List Word → Option ((MaybeStmt × Option ExprTree × MaybeStmt) × List Word)
for_head_of ws = after_sign OPEN_PAREN ws >>= λ a. optional_simple_of SEMICOLON a >>= λ x. optional_expression_of x.1 >>= λ y. optional_simple_of CLOSE_PAREN y.1 >>= λ z. Some ((x.0, y.0, z.0), z.1)

-- a statement of one keyword, with its `;`
abbrev pub word_of : StmtTree → List Word → Option (StmtTree × List Word)
word_of word ws = after_sign SEMICOLON (tail ws) >>= λ rest. Some (word, rest)

-- behind `return`
abbrev pub answer_of : List Word → Option (StmtTree × List Word)
answer_of ws = optional_expression_of ws >>= λ x. Some (ReturnTree x.0, x.1)

-- a statement without others in it
abbrev pub leaf_of : StatementFront → List Word → Option (StmtTree × List Word)
leaf_of front.Empty ws = after_sign SEMICOLON ws >>= λ rest. Some (EmptyTree, rest)
leaf_of front.Local ws = local_of ws
leaf_of front.Break ws = word_of BreakTree ws
leaf_of front.Continue ws = word_of ContinueTree ws
leaf_of front.Return ws = answer_of (tail ws)
leaf_of front.Block ws = simple_statement_of ws
leaf_of front.If ws = simple_statement_of ws
leaf_of front.While ws = simple_statement_of ws
leaf_of front.For ws = simple_statement_of ws
leaf_of front.Simple ws = simple_statement_of ws

-- a statement, or the end at `}`
abbrev pub statement_turn : (List Word → Option (StmtTree × List Word)) → StmtTrees → List Word → Turn StmtTrees
statement_turn item all ws = if has_sign CLOSE_BRACE ws then Ends else Tries (item ws >>= λ x. Some (with_last_stmt all x.0, x.1))

-- statements and `}`
abbrev pub statements_by : (List Word → Option (StmtTree × List Word)) → List Word → Option (StmtTrees × List Word)
statements_by item ws = turns (statement_turn item) (length ws + 1) NoStmts ws >>= λ x. Some (x.0, tail x.1)

-- behind `if`: `else` belongs to the nearest
abbrev pub conditional_by : (List Word → Option (StmtTree × List Word)) → List Word → Option (StmtTree × List Word)
conditional_by item ws =
    condition_of ws
    >>= λ t. item t.1
    >>= λ s. (if has_keyword ELSE s.1
    then (item (tail s.1) >>= λ o. Some (IfTree t.0 s.0 (Present o.0), o.1))
    else Some (IfTree t.0 s.0 Absent, s.1))

-- behind `while`
abbrev pub repetition_by : (List Word → Option (StmtTree × List Word)) → List Word → Option (StmtTree × List Word)
repetition_by item ws = condition_of ws >>= λ t. item t.1 >>= λ s. Some (WhileTree t.0 s.0, s.1)

-- behind `for`
abbrev pub counted_by : (List Word → Option (StmtTree × List Word)) → List Word → Option (StmtTree × List Word)
counted_by item ws = for_head_of ws >>= λ h. item h.1 >>= λ s. Some (ForTree h.0.0 h.0.1 h.0.2 s.0, s.1)

abbrev pub statement_by : (List Word → Option (StmtTree × List Word)) → List Word → StatementFront → Option (StmtTree × List Word)
statement_by item ws front.Block = statements_by item (tail ws) >>= λ x. Some (BlockTree x.0, x.1)
statement_by item ws front.If = conditional_by item (tail ws)
statement_by item ws front.While = repetition_by item (tail ws)
statement_by item ws front.For = counted_by item (tail ws)
statement_by item ws front.Empty = leaf_of front.Empty ws
statement_by item ws front.Local = leaf_of front.Local ws
statement_by item ws front.Break = leaf_of front.Break ws
statement_by item ws front.Continue = leaf_of front.Continue ws
statement_by item ws front.Return = leaf_of front.Return ws
statement_by item ws front.Simple = leaf_of front.Simple ws

-- a statement of at most so many statements above one another
abbrev pub statement_at : ℕ → List Word → Option (StmtTree × List Word)
statement_at zero ws = None
statement_at (suc below) ws = statement_by (statement_at below) ws (statement_front ws)
