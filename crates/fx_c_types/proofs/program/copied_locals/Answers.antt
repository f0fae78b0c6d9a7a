use Rattle.std.proofs.Common.{◌≡◌, refl}
use Rattle.fx_c_ast.specs.CheckedTrees.{ty_tree}
use Rattle.fx_c_types.proofs.Lists.{next_local}
use Rattle.fx_c_types.proofs.program.copied_locals.Goals as goal

pub loop-local-preserved : goal.loop-local-preserved
loop-local-preserved c =
    let l = c.local-item.result in
    let ty : ty_tree l.ty ≡ ty_tree c.in_ok-ty.ty = let h = c.in_ok-ty.ensures in cc in
    rw c.in_ok-push.ensures.items (next_local c.args.locals.now c.loop-local.local-index l c.loop-local.all.items (record { shared = l.shared; ty = c.in_ok-ty.ty }) _ c.loop-local-test.true c.local-item.is refl ty c.loop-local.invariant)
