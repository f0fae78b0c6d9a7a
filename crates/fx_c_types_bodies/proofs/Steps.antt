-- How a check goes on behind a node.
use Rattle.std.proofs.Common.{◌≡◌, ℕ, Bool, refl, sym, ap, subst, ◌∙◌, List, [], ◌∷◌, ◌++◌, suc, ◌+◌, ◌<◌, length, drop, get_or, drop-cons, add-one, Result, Ok, Err}
use Rattle.fx_c_ast.specs.declared.parsed.Expr.{Expr}
use Rattle.fx_c_ast.specs.declared.parsed.Stmt.{Stmt}
use Rattle.fx_c_ast.specs.declared.checked.TExpr.{TExpr}
use Rattle.fx_c_ast.specs.declared.checked.TStmt.{TStmt}
use Rattle.fx_c_ast.specs.ParsedTrees.{ExprTree, ExprTrees, MoreExprs, CallTree, GateTree, StmtTree, StmtTrees, MoreStmts, BlockTree, expr_tree, expr_trees, stmt_tree, stmt_trees}
use Rattle.fx_c_ast.specs.CheckedTrees.{TExprTree, TExprTrees, NoTExprs, MoreTExprs, TStmtTrees, NoTStmts, MoreTStmts, SBlock, texpr_tree, texpr_trees, tstmt_tree, tstmt_trees}
use Rattle.fx_c_types_rules.specs.declared.fault.Fault.{Fault}
use Rattle.fx_c_types_rules.specs.Checks.{Checked, ◌>>=◌, Gives}
use Rattle.fx_c_types_rules.specs.Values.{value_of}
use Rattle.fx_c_types_rules.specs.Calls.{joined}
use Rattle.fx_c_types_rules.proofs.Rows.{push_joined, none_joined}
use Rattle.fx_c_types_bodies.specs.Bodies.{ScopeTree, BodyTree, then_in, call, gate, callee, typed, typed_all, checked, checked_all, followed, entered, left}

-- a node's answer, with what is there after it
pub then_gives : {A B : Type 0} (shown : A → B) (r : Result A Fault) (b : BodyTree) (m : Checked B) → Gives shown r m → Gives (λ x. (shown x, b)) r (then_in b m)
then_gives shown (Ok x) b m h = ap (then_in b) h
then_gives shown (Err e) b m h = λ n. ap (then_in b) (h n)

push_value : (vs : List TExpr) (v : TExpr) → texpr_trees (vs ++ v ∷ []) ≡ joined (texpr_trees vs) (MoreTExprs (texpr_tree v) NoTExprs)
push_value vs v = sym (none_joined (texpr_trees (vs ++ v ∷ []))) ∙ push_joined vs v NoTExprs

-- one more argument
pub all_next : (s : ScopeTree) (b c : BodyTree) (vs : List TExpr) (e : ExprTree) (t : TExprTree) (v : TExpr) (rest : ExprTrees) (total : Checked (TExprTrees × BodyTree)) → typed s b e ≡ Ok (t, c) → value_of t ≡ texpr_tree v → typed_all s b (texpr_trees vs) (MoreExprs e rest) ≡ total → typed_all s c (texpr_trees (vs ++ v ∷ [])) rest ≡ total
all_next s b c vs e t v rest total here is before =
    ap (λ x. typed_all s c x rest) (push_value vs v)
    ∙ ap (λ x. typed_all s c (joined (texpr_trees vs) (MoreTExprs x NoTExprs)) rest) (sym is)
    ∙ sym (ap (λ r. r >>= (λ x. typed_all s x.1 (joined (texpr_trees vs) (MoreTExprs (value_of x.0) NoTExprs)) rest)) here)
    ∙ before

pub all_stop : (s : ScopeTree) (b : BodyTree) (vs : TExprTrees) (e : ExprTree) (f : Fault) (rest : ExprTrees) (total : Checked (TExprTrees × BodyTree)) → typed s b e ≡ Err f → typed_all s b vs (MoreExprs e rest) ≡ total → total ≡ Err f
all_stop s b vs e f rest total here before =
    sym before ∙ ap (λ r. r >>= (λ x. typed_all s x.1 (joined vs (MoreTExprs (value_of x.0) NoTExprs)) rest)) here

push_followed : (all : List TStmt) (t : TStmt) → tstmt_trees (all ++ t ∷ []) ≡ followed (tstmt_trees all) (tstmt_tree t)
push_followed [] t = refl
push_followed (x ∷ all) t = ap (λ r. MoreTStmts (tstmt_tree x) r) (push_followed all t)

-- one more statement
pub all_followed : (s : ScopeTree) (loop : Bool) (b c : BodyTree) (all : List TStmt) (t : StmtTree) (v : TStmt) (rest : StmtTrees) (total : Checked (TStmtTrees × BodyTree)) → checked s loop b t ≡ Ok (tstmt_tree v, c) → checked_all s loop b (tstmt_trees all) (MoreStmts t rest) ≡ total → checked_all s loop c (tstmt_trees (all ++ v ∷ [])) rest ≡ total
all_followed s loop b c all t v rest total here before =
    ap (λ x. checked_all s loop c x rest) (push_followed all v)
    ∙ sym (ap (λ r. r >>= (λ x. checked_all s loop x.1 (followed (tstmt_trees all) x.0) rest)) here)
    ∙ before

pub all_ended : (s : ScopeTree) (loop : Bool) (b : BodyTree) (all : TStmtTrees) (t : StmtTree) (f : Fault) (rest : StmtTrees) (total : Checked (TStmtTrees × BodyTree)) → checked s loop b t ≡ Err f → checked_all s loop b all (MoreStmts t rest) ≡ total → total ≡ Err f
all_ended s loop b all t f rest total here before =
    sym before ∙ ap (λ r. r >>= (λ x. checked_all s loop x.1 (followed all x.0) rest)) here

-- a call by name, behind its arguments
pub call_go : (s : ScopeTree) (b c : BodyTree) (name : List ℕ) (all : ExprTrees) (es : TExprTrees) (r : Result TExpr Fault) → typed_all s b NoTExprs all ≡ Ok (es, c) → Gives texpr_tree r (call s.library (callee s.heads c name) es) → Gives (λ x. (texpr_tree x, c)) r (typed s b (CallTree name all))
call_go s b c name all es r h g =
    subst (λ (m : Checked (TExprTree × BodyTree)). Gives (λ (x : TExpr). (texpr_tree x, c)) r m) (sym (ap (λ r. r >>= (λ x. then_in x.1 (call s.library (callee s.heads x.1 name) x.0))) h))
    (then_gives texpr_tree r c (call s.library (callee s.heads c name) es) g)

pub gate_go : (s : ScopeTree) (b c : BodyTree) (name : List ℕ) (all : ExprTrees) (es : TExprTrees) (r : Result TExpr Fault) → typed_all s b NoTExprs all ≡ Ok (es, c) → Gives texpr_tree r (gate (callee s.heads c name) es) → Gives (λ x. (texpr_tree x, c)) r (typed s b (GateTree name all))
gate_go s b c name all es r h g =
    subst (λ (m : Checked (TExprTree × BodyTree)). Gives (λ (x : TExpr). (texpr_tree x, c)) r m) (sym (ap (λ r. r >>= (λ x. then_in x.1 (gate (callee s.heads x.1 name) x.0))) h))
    (then_gives texpr_tree r c (gate (callee s.heads c name) es) g)

pub call_stop : (s : ScopeTree) (b : BodyTree) (name : List ℕ) (all : ExprTrees) (e : Fault) → typed_all s b NoTExprs all ≡ Err e → typed s b (CallTree name all) ≡ Err e
call_stop s b name all e h = ap (λ r. r >>= (λ x. then_in x.1 (call s.library (callee s.heads x.1 name) x.0))) h

pub gate_stop : (s : ScopeTree) (b : BodyTree) (name : List ℕ) (all : ExprTrees) (e : Fault) → typed_all s b NoTExprs all ≡ Err e → typed s b (GateTree name all) ≡ Err e
gate_stop s b name all e h = ap (λ r. r >>= (λ x. then_in x.1 (gate (callee s.heads x.1 name) x.0))) h

split : {A : Type 0} (xs : List A) (i : ℕ) (x : A) → i < length xs → x ≡ get_or xs i x → drop i xs ≡ x ∷ drop (i + 1) xs
split xs i x h is = drop-cons xs i x h ∙ ap (λ z. z ∷ drop (suc i) xs) (sym is) ∙ ap (λ n. x ∷ drop n xs) (sym (add-one i))

pub next_expr : (es : List Expr) (i : ℕ) (e : Expr) → i < length es → e ≡ get_or es i e → expr_trees (drop i es) ≡ MoreExprs (expr_tree e) (expr_trees (drop (i + 1) es))
next_expr es i e h is = ap expr_trees (split es i e h is)

pub next_stmt : (ss : List Stmt) (i : ℕ) (s : Stmt) → i < length ss → s ≡ get_or ss i s → stmt_trees (drop i ss) ≡ MoreStmts (stmt_tree s) (stmt_trees (drop (i + 1) ss))
next_stmt ss i s h is = ap stmt_trees (split ss i s h is)

-- a block is entered with no names of its own
pub enters : (b c : BodyTree) (names : List (List ℕ × ℕ)) → names ≡ [] → ◌≡◌ {A = Checked BodyTree} (Ok (entered b names)) (Ok c) → entered b [] ≡ c
enters b c names none h =
    let same : entered b names ≡ c = cc in
    ap (entered b) (sym none) ∙ same

-- a block, from its statements
pub block_go : (s : ScopeTree) (loop : Bool) (b c d f : BodyTree) (all : StmtTrees) (ts : TStmtTrees) → entered b [] ≡ c → checked_all s loop c NoTStmts all ≡ Ok (ts, d) → left d ≡ f → checked s loop b (BlockTree all) ≡ Ok (SBlock ts, f)
block_go s loop b c d f all ts enter here leave =
    ap (λ (x : BodyTree). checked_all s loop x NoTStmts all >>= (λ x. Ok (SBlock x.0, left x.1))) enter
    ∙ ap (λ r. r >>= (λ x. Ok (SBlock x.0, left x.1))) here
    ∙ ap (λ (x : BodyTree). Ok (SBlock ts, x)) leave

pub block_stop : (s : ScopeTree) (loop : Bool) (b c : BodyTree) (all : StmtTrees) (e : Fault) → entered b [] ≡ c → checked_all s loop c NoTStmts all ≡ Err e → checked s loop b (BlockTree all) ≡ Err e
block_stop s loop b c all e enter here =
    ap (λ (x : BodyTree). checked_all s loop x NoTStmts all >>= (λ x. Ok (SBlock x.0, left x.1))) enter
    ∙ ap (λ (r : Checked (TStmtTrees × BodyTree)). r >>= (λ x. Ok (SBlock x.0, left x.1))) here
