use Rattle.std.proofs.Common.{ap, sym, ◌∙◌, subst, Ok, arith}
use Rattle.fx_c_ast.specs.declared.checked.TLocal.{TLocal}
use Rattle.fx_c_ast.specs.CheckedTrees.{TyTree, ty_tree}
use Rattle.fx_c_types_rules.specs.Checks.{Checked, Gives}
use Rattle.fx_c_types_bodies.proofs.Items.{local_at, local_beyond}
use Rattle.fx_c_types_bodies.proofs.nodes.local_type.Goals as goal

pub returns-then-number-locals : goal.returns-then-number-locals
returns-then-number-locals c = ap (λ (t : TyTree). Ok t) (local_beyond c.args.locals.now c.args.number c.if-number-locals.true)

pub returns : goal.returns
returns c =
    let r = c.index-locals-number.result in
    let e = ap (λ (d : TLocal). Ok (ty_tree d.ty)) (sym c.index-locals-number.is) ∙ ap (λ (t : TyTree). Ok t) (sym (local_at c.args.locals.now c.args.number r (omega arith) c.index-locals-number.is)) in
    subst (λ (m : Checked TyTree). Gives ty_tree c.copied.result m) e c.copied.ensures
