use Rattle.std.proofs.Common.{◌≡◌, ap, [], ◌∷◌}
use Rattle.fx_c_ast.specs.CheckedTrees.{TyTree, ty_tree}
use Rattle.fx_c_ast.specs.ParsedTrees.{type_tree}
use Rattle.fx_c_types_rules.specs.Locals.{LocalTree}
use Rattle.fx_c_types_heads.specs.Written.{ty_of}
use Rattle.fx_c_types_heads.proofs.Fields.{next_param}
use Rattle.fx_c_types_heads.proofs.heads.params_of.Goals as goal

pub loop-param-preserved : goal.loop-param-preserved
loop-param-preserved c =
    let p = c.param-item.result in
    let ty : ty_of c.args.tags.now (type_tree p.ty) ≡ ty_tree c.in_ok-ty.ty = let h = c.in_ok-ty.ensures in cc in
    let same = ap (λ (t : TyTree). let l : LocalTree = record { shared = p.shared; ty = t } in l ∷ []) ty in
    rw c.in_ok-push.ensures.items (next_param c.args.tags.now c.args.params.now c.loop-param.param-index p c.loop-param.all.items (record { shared = p.shared; ty = c.in_ok-ty.ty }) _ c.loop-param-test.true c.param-item.is same c.loop-param.invariant)
