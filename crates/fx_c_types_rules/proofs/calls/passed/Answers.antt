use Rattle.std.proofs.Common.{◌≡◌, ◌<◌, ap, sym, ◌∙◌, subst, drop, length, Ok, arith, add-one}
use Rattle.std.specs.Vec.Iter.{into_iter_items}
use Rattle.fx_c_ast.specs.CheckedTrees.{TExprTrees, ty_tree, texpr_tree, texpr_trees}
use Rattle.fx_c_types_rules.specs.Values.{converted}
use Rattle.fx_c_types_rules.specs.Locals.{local_trees}
use Rattle.fx_c_types_rules.specs.Calls.{passed, joined}
use Rattle.fx_c_types_rules.proofs.Rows.{one_passed, all_passed}
use Rattle.fx_c_types_rules.proofs.calls.passed.Goals as goal

pub loop-e-preserved-then-place-params : goal.loop-e-preserved-then-place-params
loop-e-preserved-then-place-params c =
    let ps = c.args.params.now in
    let p = c.index-params-place.result in
    let e = c.in-Some.e in
    let v = c.in_ok-converted.field-0 in
    let ty : ty_tree p.ty ≡ ty_tree c.in_ok-ty.ty = let h = c.in_ok-ty.ensures in cc in
    let conv : converted (ty_tree p.ty) (texpr_tree e) ≡ texpr_tree v = ap (λ t. converted t (texpr_tree e)) ty ∙ (let h = c.in_ok-converted.ensures in cc) in
    let before = ap (λ r. joined (texpr_trees c.loop-e.all.items) (passed (local_trees (drop c.loop-e.place ps)) (texpr_trees r))) (sym c.in-Some.ensures.steps.0) ∙ c.loop-e.invariant in
    rw c.in_ok-push.ensures.items (one_passed ps c.loop-e.place p c.loop-e.all.items e v (into_iter_items c.next.new.self) _ c.if-place-params.true c.index-params-place.is conv before)

pub returns : goal.returns
returns c =
    let it = c.loop-e.e-iterator in
    let none : length (into_iter_items it) ≡ 0 = omega (arith, it.rest.ok.0, c.in-None.ensures.steps.0) in
    ap (λ (t : TExprTrees). Ok t) (all_passed (local_trees (drop c.loop-e.place c.args.params.now)) c.loop-e.all.items (into_iter_items it) _ none c.loop-e.invariant)
