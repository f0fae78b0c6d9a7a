-- The code of a `for`, made part by part.
use Rattle.std.proofs.Common.{◌≡◌, ℕ, ◌+◌, ◌++◌, ◌∷◌, [], List, Option, Some, None, Box, Global}
use Rattle.std.proofs.Common.{Result, ap, sym, ◌∙◌, append_assoc}
use Rattle.std.specs.Result.{OnOk}
use Rattle.std.proofs.lemmas.Result.{on_ok_weaker}
use Rattle.fx_c_ast.specs.declared.checked.TExpr.{TExpr}
use Rattle.fx_c_ast.specs.declared.checked.TStmt.{TStmt}
use Rattle.fx_c_ast.specs.declared.checked.TStmt as stmt
use Rattle.fx_c_ast.specs.Counts.{held}
use Rattle.fx_c_ast.specs.CheckedTrees.{TyTree, TExprTree, TStmtTree, MaybeTStmt, SFor, maybe_texpr}
use Rattle.fx_c_ast.specs.CheckedTrees.{tstmt_tree}
use Rattle.fx_c_mean_model.specs.Programs.{Program}
use Rattle.fx_c_lin.specs.Ops.{Step, Jump}
use Rattle.fx_c_lower_model.specs.Steps.{costing}
use Rattle.fx_c_lower_model.specs.Lengths.{maybe_len, maybe_condition_len, stmt_len}
use Rattle.fx_c_lower_model.specs.Code.{maybe_code, maybe_condition_code, stmt_code}

pub for_is : (x : TStmt) (first next : Option (Box TStmt Global)) (test : Option TExpr)
    (s : Box TStmt Global) (body : TStmt) → x ≡ stmt.For first test next s → body ≡ s.value
    → tstmt_tree x ≡ SFor (held first) (maybe_texpr test) (held next) (tstmt_tree body)
for_is x None None test s body q h = ap tstmt_tree q ∙ ap
    (λ (b : TStmt). SFor (held None) (maybe_texpr test) (held None) (tstmt_tree b)) (sym h)
for_is x None (Some n) test s body q h = ap tstmt_tree q ∙ ap
    (λ (b : TStmt). SFor (held None) (maybe_texpr test) (held (Some n)) (tstmt_tree b)) (sym h)
for_is x (Some f) None test s body q h = ap tstmt_tree q ∙ ap
    (λ (b : TStmt). SFor (held (Some f)) (maybe_texpr test) (held None) (tstmt_tree b)) (sym h)
for_is x (Some f) (Some n) test s body q h = ap tstmt_tree q ∙ ap
    (λ (b : TStmt). SFor (held (Some f)) (maybe_texpr test) (held (Some n)) (tstmt_tree b)) (sym h)

in_order : (w x y z a b c d e : List Step) → x ≡ w ++ a → y ≡ x ++ (b ++ c) → z ≡ y ++ (d ++ e) → z
    ≡ w ++ (a ++ (b ++ (c ++ (d ++ e))))
in_order w x y z a b c d e p q r = r ∙ ap (λ (l : List Step). l ++ (d ++ e))
    (q ∙ ap (λ (l : List Step). l ++ (b ++ c)) p) ∙ simp append_assoc

-- w is what was made before the `for`; its condition begins at `begin`, its third part at `third`
made_for : (p : Program) (gives : TyTree) (at exit leave again begin third back : ℕ)
    (first next : MaybeTStmt) (test : Option TExprTree) (s : TStmtTree) (w x y z : List Step)
    → begin ≡ at + maybe_len p gives first
    → third ≡ begin + maybe_condition_len p test + stmt_len p gives s
    → back ≡ at + maybe_len p gives first
    → x ≡ w ++ maybe_code p gives at (at + maybe_len p gives first) leave again first
    → y ≡ x ++ (maybe_condition_code p begin exit test
    ++ stmt_code p gives (begin + maybe_condition_len p test)
    (begin + maybe_condition_len p test + stmt_len p gives s) exit
    (begin + maybe_condition_len p test + stmt_len p gives s) s)
    → z ≡ y ++ (maybe_code p gives third (third + maybe_len p gives next) leave again next
    ++ costing 1 (Jump back) ∷ [])
    → z ≡ w ++ stmt_code p gives at exit leave again (SFor first test next s)
made_for p gives at exit leave again begin third back first next test s w x y z begins thirds backs
    one two three =
    let all = in_order w x y z
    (maybe_code p gives at (at + maybe_len p gives first) leave again first)
    (maybe_condition_code p begin exit test)
    (stmt_code p gives (begin + maybe_condition_len p test)
    (begin + maybe_condition_len p test + stmt_len p gives s) exit
    (begin + maybe_condition_len p test + stmt_len p gives s) s)
    (maybe_code p gives third (third + maybe_len p gives next) leave again next)
    (costing 1 (Jump back) ∷ []) one two three in
    cc

pub for_made : {T E : Type 0} (r : Result T E) (p : Program) (gives : TyTree)
    (at exit leave again begin third back : ℕ) (first next : MaybeTStmt) (test : Option TExprTree)
    (s : TStmtTree) (w x y z : List Step)
    → begin ≡ at + maybe_len p gives first
    → third ≡ begin + maybe_condition_len p test + stmt_len p gives s
    → back ≡ at + maybe_len p gives first
    → x ≡ w ++ maybe_code p gives at (at + maybe_len p gives first) leave again first
    → y ≡ x ++ (maybe_condition_code p begin exit test
    ++ stmt_code p gives (begin + maybe_condition_len p test)
    (begin + maybe_condition_len p test + stmt_len p gives s) exit
    (begin + maybe_condition_len p test + stmt_len p gives s) s)
    → OnOk r (z ≡ y ++ (maybe_code p gives third (third + maybe_len p gives next) leave again next
    ++ costing 1 (Jump back) ∷ []))
    → OnOk r (z ≡ w ++ stmt_code p gives at exit leave again (SFor first test next s))
for_made r p gives at exit leave again begin third back first next test s w x y z begins thirds
    backs one two three =
    on_ok_weaker r (made_for p gives at exit leave again begin third back first next test s w x y z
    begins thirds backs one two) three
