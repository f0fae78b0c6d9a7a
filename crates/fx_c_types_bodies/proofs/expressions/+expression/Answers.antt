use Rattle.std.proofs.Common.{◌≡◌, ◌∙◌, ◌+◌, sym, ap, subst, drop, Option}
use Rattle.std.proofs.lemmas.Result.{err_from_is_err_and}
use Rattle.fx_c_ast.specs.ParsedTrees.{expr_tree, expr_trees}
use Rattle.fx_c_ast.specs.CheckedTrees.{texpr_tree, texpr_trees}
use Rattle.fx_c_ast.proofs.Rows.{call_is, gate_is}
use Rattle.fx_c_types_rules.specs.Checks.{Gives}
use Rattle.fx_c_types_rules.specs.Values.{value_of}
use Rattle.fx_c_types_bodies.specs.Bodies.{CalleeTree, callee, call, gate, typed_all}
use Rattle.fx_c_types_bodies.specs.Views.{scope_tree, body_tree}
use Rattle.fx_c_types_bodies.proofs.Steps.{all_next, next_expr, call_go, gate_go, call_stop, gate_stop}
use Rattle.fx_c_types_bodies.proofs.expressions.+expression.Goals as goal

pub expression-returns-in_err-args-in-Call : goal.expression-returns-in_err-args-in-Call
expression-returns-in_err-args-in-Call t c =
    let p = err_from_is_err_and c.from_residual-in_err-args-in-Call.result c.from_residual-in_err-args-in-Call.ensures.1 in
    rw (p.1, p.2, call_is _ _ _ _ c.in-Call.is c.deref-in-Call.ensures.value)
    (λ h. call_stop (scope_tree c.args.scope.now) (body_tree c.args.body.now) c.in-Call.name (expr_trees c.deref-in-Call.result.now) c.in_err-args-in-Call.field-0.0 (c.in_err-args-in-Call.ensures h))

pub expression-returns-in_err-args-in-Gate : goal.expression-returns-in_err-args-in-Gate
expression-returns-in_err-args-in-Gate t c =
    let p = err_from_is_err_and c.from_residual-in_err-args-in-Gate.result c.from_residual-in_err-args-in-Gate.ensures.1 in
    rw (p.1, p.2, gate_is _ _ _ _ c.in-Gate.is c.deref-in-Gate.ensures.value)
    (λ h. gate_stop (scope_tree c.args.scope.now) (body_tree c.args.body.now) c.in-Gate.name (expr_trees c.deref-in-Gate.result.now) c.in_err-args-in-Gate.field-0.0 (c.in_err-args-in-Gate.ensures h))

pub expression-returns-in_ok-args-in-Call : goal.expression-returns-in_ok-args-in-Call
expression-returns-in_ok-args-in-Call t c =
    let s = scope_tree c.args.scope.now in
    let after = body_tree c.values.new.body in
    let es = texpr_trees c.in_ok-args-in-Call.args.items in
    let named = c.callee.ensures ∙ ap (λ n. callee s.heads after n) c.as_slice-in-Call.ensures in
    let node = subst (λ (f : Option CalleeTree). Gives texpr_tree c.call.result (call s.library f es)) named c.call.ensures in
    rw (call_is _ _ _ _ c.in-Call.is c.deref-in-Call.ensures.value)
    (call_go s (body_tree c.args.body.now) after c.in-Call.name (expr_trees c.deref-in-Call.result.now) es c.call.result c.in_ok-args-in-Call.ensures node)

pub expression-returns-in_ok-args-in-Gate : goal.expression-returns-in_ok-args-in-Gate
expression-returns-in_ok-args-in-Gate t c =
    let s = scope_tree c.args.scope.now in
    let after = body_tree c.values-in-Gate.new.body in
    let es = texpr_trees c.in_ok-args-in-Gate.args.items in
    let named = c.callee-in-Gate.ensures ∙ ap (λ n. callee s.heads after n) c.as_slice-in-Gate.ensures in
    let node = subst (λ (f : Option CalleeTree). Gives texpr_tree c.gate.result (gate f es)) named c.gate.ensures in
    rw (gate_is _ _ _ _ c.in-Gate.is c.deref-in-Gate.ensures.value)
    (gate_go s (body_tree c.args.body.now) after c.in-Gate.name (expr_trees c.deref-in-Gate.result.now) es c.gate.result c.in_ok-args-in-Gate.ensures node)

pub values-loop-e-preserved : goal.values-loop-e-preserved
values-loop-e-preserved t c =
    let s = scope_tree c.args.scope.now in
    let b = body_tree c.loop-e.body in
    let i = c.loop-e.e-index in
    let before = ap (λ r. typed_all s b (texpr_trees c.loop-e.values.items) r) (sym (next_expr c.args.all.now i c.e-item.result c.loop-e-test.true c.e-item.is)) ∙ c.loop-e.invariant in
    let is : value_of (texpr_tree c.in_ok-e.e) ≡ texpr_tree c.in_ok-value.field-0 = let h = c.in_ok-value.ensures in cc in
    rw c.in_ok-push.ensures.items
    (all_next s b (body_tree c.expression.new.body) c.loop-e.values.items (expr_tree c.e-item.result) (texpr_tree c.in_ok-e.e) c.in_ok-value.field-0 (expr_trees (drop (i + 1) c.args.all.now)) _ c.in_ok-e.ensures is before)
