use Rattle.std.proofs.Common.{◌≡◌, ◌∙◌, ◌+◌, sym, ap, drop, refl, Ok}
use Rattle.std.proofs.lemmas.Result.{err_from_is_err_and}
use Rattle.fx_c_ast.specs.ParsedTrees.{stmt_tree, stmt_trees}
use Rattle.fx_c_ast.specs.declared.checked.TStmt.{Block}
use Rattle.fx_c_ast.specs.CheckedTrees.{TStmtTree, SBlock, tstmt_trees}
use Rattle.fx_c_ast.proofs.Rows.{block_is, tblock_is}
use Rattle.fx_c_types_bodies.specs.Bodies.{checked, checked_all}
use Rattle.fx_c_types_bodies.specs.Views.{scope_tree, body_tree}
use Rattle.fx_c_types_bodies.proofs.Steps.{all_followed, next_stmt, enters, block_go, block_stop}
use Rattle.fx_c_types_bodies.proofs.statements.+statement.Goals as goal

pub statement-returns-in_err-all-in-Block : goal.statement-returns-in_err-all-in-Block
statement-returns-in_err-all-in-Block t c =
    let p = err_from_is_err_and c.from_residual-in_err-all-in-Block.result c.from_residual-in_err-all-in-Block.ensures.1 in
    let entering = enters (body_tree c.args.body.now) (body_tree c.enter.new.body) c.new.result c.new.ensures c.in_ok-enter-in-Block.ensures in
    rw (p.1, p.2, block_is _ _ _ c.in-Block.is c.deref.ensures.value)
    (λ h. block_stop (scope_tree c.args.scope.now) c.args.looped (body_tree c.args.body.now) (body_tree c.enter.new.body) (stmt_trees c.deref.result.now) c.in_err-all-in-Block.field-0.0 entering (c.in_err-all-in-Block.ensures h))

pub statement-returns-in_ok-all-in-Block : goal.statement-returns-in_ok-all-in-Block
statement-returns-in_ok-all-in-Block t c =
    let entering = enters (body_tree c.args.body.now) (body_tree c.enter.new.body) c.new.result c.new.ensures c.in_ok-enter-in-Block.ensures in
    let s = scope_tree c.args.scope.now in
    let b = body_tree c.args.body.now in
    let v = c.in_ok-all-in-Block.all in
    let after = body_tree c.leave.new.body in
    let whole : checked s c.args.looped b (stmt_tree c.args.s.now) ≡ Ok (SBlock (tstmt_trees v.items), after) =
    rw (block_is _ _ _ c.in-Block.is c.deref.ensures.value)
    (block_go s c.args.looped b (body_tree c.enter.new.body) (body_tree c.statements.new.body) after (stmt_trees c.deref.result.now) (tstmt_trees v.items) entering c.in_ok-all-in-Block.ensures (sym c.leave.ensures)) in
    whole ∙ ap (λ (x : TStmtTree). Ok (x, after)) (sym (tblock_is (Block v) v v.items refl refl))

pub statements-loop-s-preserved : goal.statements-loop-s-preserved
statements-loop-s-preserved t c =
    let before = ap (λ r. checked_all (scope_tree c.args.scope.now) c.args.looped (body_tree c.loop-s.body) (tstmt_trees c.loop-s.checked.items) r) (sym (next_stmt c.args.all.now c.loop-s.s-index c.s-item.result c.loop-s-test.true c.s-item.is)) ∙ c.loop-s.invariant in
    rw c.in_ok-push.ensures.items (all_followed (scope_tree c.args.scope.now) c.args.looped (body_tree c.loop-s.body) (body_tree c.statement.new.body) c.loop-s.checked.items (stmt_tree c.s-item.result) c.in_ok-s.s (stmt_trees (drop (c.loop-s.s-index + 1) c.args.all.now)) _ c.in_ok-s.ensures before)
