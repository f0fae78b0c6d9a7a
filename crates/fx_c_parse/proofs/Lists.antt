-- Lists of trees with one more at the end.
use Rattle.std.proofs.Common.{◌≡◌, ℕ, refl, ap, List, [], ◌∷◌, ◌++◌}
use Rattle.fx_c_ast.specs.declared.parsed.TypeName.{TypeName}
use Rattle.fx_c_ast.specs.declared.parsed.Expr.{Expr}
use Rattle.fx_c_ast.specs.declared.parsed.Stmt.{Stmt}
use Rattle.fx_c_ast.specs.declared.parsed.Param.{Param}
use Rattle.fx_c_ast.specs.declared.parsed.Decl.{Decl}
use Rattle.fx_c_ast.specs.ParsedTrees.{TypeTree, ParamTree, DeclTree, MoreExprs, MoreStmts, type_tree, expr_tree, expr_trees, stmt_tree, stmt_trees, member_trees, param_tree, param_trees, decl_tree, decl_trees}
use Rattle.fx_c_parse.specs.Making.{with_last, with_last_stmt}

pub exprs_more : (es : List Expr) (e : Expr) → expr_trees (es ++ e ∷ []) ≡ with_last (expr_trees es) (expr_tree e)
exprs_more [] e = refl
exprs_more (x ∷ es) e = ap (MoreExprs (expr_tree x)) (exprs_more es e)

pub stmts_more : (ss : List Stmt) (s : Stmt) → stmt_trees (ss ++ s ∷ []) ≡ with_last_stmt (stmt_trees ss) (stmt_tree s)
stmts_more [] s = refl
stmts_more (x ∷ ss) s = ap (MoreStmts (stmt_tree x)) (stmts_more ss s)

pub members_more : (ms : List (TypeName × List ℕ)) (m : TypeName × List ℕ) → member_trees (ms ++ m ∷ []) ≡ member_trees ms ++ (type_tree m.0, m.1) ∷ []
members_more [] m = refl
members_more (x ∷ ms) m = ap (λ (l : List (TypeTree × List ℕ)). (type_tree x.0, x.1) ∷ l) (members_more ms m)

pub params_more : (ps : List Param) (p : Param) → param_trees (ps ++ p ∷ []) ≡ param_trees ps ++ param_tree p ∷ []
params_more [] p = refl
params_more (x ∷ ps) p = ap (λ (l : List ParamTree). param_tree x ∷ l) (params_more ps p)

pub decls_more : (ds : List Decl) (d : Decl) → decl_trees (ds ++ d ∷ []) ≡ decl_trees ds ++ decl_tree d ∷ []
decls_more [] d = refl
decls_more (x ∷ ds) d = ap (λ (l : List DeclTree). decl_tree x ∷ l) (decls_more ds d)
