-- The lists of arguments and of statements in the trees, and the same lists as vectors.
use Rattle.std.proofs.Common.{◌≡◌, ℕ, refl, sym, ap, ◌∙◌, List, Vec, Global}
use Rattle.fx_c_ast.specs.declared.parsed.Expr.{Expr, Call, Gate, Row_of-Expr, end_of-Expr, more_of-Expr, items-the_row-Expr, items_hidden-the_row-Expr-0}
use Rattle.fx_c_ast.specs.declared.parsed.Expr.TheBlock.{hidden-the_row-Expr-0}
use Rattle.fx_c_ast.specs.declared.parsed.Stmt.{Stmt, Block, Row_of-Stmt, end_of-Stmt, more_of-Stmt, items-the_row-Stmt, items_hidden-the_row-Stmt-0}
use Rattle.fx_c_ast.specs.declared.parsed.Stmt.TheBlock.{hidden-the_row-Stmt-0}
use Rattle.fx_c_ast.specs.ParsedTrees.{MoreExprs, CallTree, GateTree, MoreStmts, BlockTree, expr_tree, expr_row, expr_trees, stmt_tree, stmt_row, stmt_trees}
use Rattle.fx_c_ast.specs.declared.checked.TExpr.{TExpr}
use Rattle.fx_c_ast.specs.declared.checked.TKind.{TKind, Row_of-TExpr, end_of-TExpr, more_of-TExpr, items-the_row-TExpr, items_hidden-the_row-TExpr-0}
use Rattle.fx_c_ast.specs.declared.checked.TKind as kind
use Rattle.fx_c_ast.specs.declared.checked.TKind.TheBlock.{hidden-the_row-TExpr-0}
use Rattle.fx_c_ast.specs.declared.checked.TStmt.{TStmt, Row_of-TStmt, end_of-TStmt, more_of-TStmt, items-the_row-TStmt, items_hidden-the_row-TStmt-0}
use Rattle.fx_c_ast.specs.declared.checked.TStmt as stmt
use Rattle.fx_c_ast.specs.declared.checked.TStmt.TheBlock.{hidden-the_row-TStmt-0}
use Rattle.fx_c_ast.specs.CheckedTrees.{TyTree, MoreTExprs, ECall, EGate, MoreTStmts, SBlock, ty_tree, kind_tree, texpr_row, texpr_trees, tstmt_tree, tstmt_row, tstmt_trees}

expr_row_is : (n : _) (k : Row_of-Expr n) → expr_row k ≡ expr_trees (items-the_row-Expr n k)
expr_row_is _ end_of-Expr = refl
expr_row_is _ (more_of-Expr e rest) = ap (MoreExprs (expr_tree e)) (expr_row_is _ rest)

pub call_is : (e : Expr) (f : List ℕ) (v : Vec Expr Global) (l : List Expr) → e ≡ Call f v → l ≡ v.items → expr_tree e ≡ CallTree f (expr_trees l)
call_is e f v l q h = ap expr_tree q ∙ ap (CallTree f) (expr_row_is _ (hidden-the_row-Expr-0 v) ∙ ap expr_trees (items_hidden-the_row-Expr-0 v ∙ sym h))

pub gate_is : (e : Expr) (f : List ℕ) (v : Vec Expr Global) (l : List Expr) → e ≡ Gate f v → l ≡ v.items → expr_tree e ≡ GateTree f (expr_trees l)
gate_is e f v l q h = ap expr_tree q ∙ ap (GateTree f) (expr_row_is _ (hidden-the_row-Expr-0 v) ∙ ap expr_trees (items_hidden-the_row-Expr-0 v ∙ sym h))

stmt_row_is : (n : _) (k : Row_of-Stmt n) → stmt_row k ≡ stmt_trees (items-the_row-Stmt n k)
stmt_row_is _ end_of-Stmt = refl
stmt_row_is _ (more_of-Stmt s rest) = ap (MoreStmts (stmt_tree s)) (stmt_row_is _ rest)

pub block_is : (s : Stmt) (v : Vec Stmt Global) (l : List Stmt) → s ≡ Block v → l ≡ v.items → stmt_tree s ≡ BlockTree (stmt_trees l)
block_is s v l q h = ap stmt_tree q ∙ ap BlockTree (stmt_row_is _ (hidden-the_row-Stmt-0 v) ∙ ap stmt_trees (items_hidden-the_row-Stmt-0 v ∙ sym h))

texpr_row_is : (n : _) (k : Row_of-TExpr n) → texpr_row k ≡ texpr_trees (items-the_row-TExpr n k)
texpr_row_is _ end_of-TExpr = refl
texpr_row_is _ (more_of-TExpr t e rest) = ap (MoreTExprs (kind_tree (ty_tree t) e)) (texpr_row_is _ rest)

pub tcall_is : (ty : TyTree) (k : TKind) (f : ℕ) (v : Vec TExpr Global) (l : List TExpr) → k ≡ kind.Call f v → l ≡ v.items → kind_tree ty k ≡ ECall ty f (texpr_trees l)
tcall_is ty k f v l q h = ap (kind_tree ty) q ∙ ap (ECall ty f) (texpr_row_is _ (hidden-the_row-TExpr-0 v) ∙ ap texpr_trees (items_hidden-the_row-TExpr-0 v ∙ sym h))

pub tgate_is : (ty : TyTree) (k : TKind) (f : ℕ) (v : Vec TExpr Global) (l : List TExpr) → k ≡ kind.Gate f v → l ≡ v.items → kind_tree ty k ≡ EGate ty f (texpr_trees l)
tgate_is ty k f v l q h = ap (kind_tree ty) q ∙ ap (EGate ty f) (texpr_row_is _ (hidden-the_row-TExpr-0 v) ∙ ap texpr_trees (items_hidden-the_row-TExpr-0 v ∙ sym h))

tstmt_row_is : (n : _) (k : Row_of-TStmt n) → tstmt_row k ≡ tstmt_trees (items-the_row-TStmt n k)
tstmt_row_is _ end_of-TStmt = refl
tstmt_row_is _ (more_of-TStmt s rest) = ap (MoreTStmts (tstmt_tree s)) (tstmt_row_is _ rest)

pub tblock_is : (s : TStmt) (v : Vec TStmt Global) (l : List TStmt) → s ≡ stmt.Block v → l ≡ v.items → tstmt_tree s ≡ SBlock (tstmt_trees l)
tblock_is s v l q h = ap tstmt_tree q ∙ ap SBlock (tstmt_row_is _ (hidden-the_row-TStmt-0 v) ∙ ap tstmt_trees (items_hidden-the_row-TStmt-0 v ∙ sym h))
