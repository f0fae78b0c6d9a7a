use Rattle.std.proofs.Common.{ap, sym, ◌∙◌, subst, Ok, arith}
use Rattle.fx_c_ast.specs.declared.checked.TGlobal.{TGlobal}
use Rattle.fx_c_ast.specs.CheckedTrees.{TyTree, ty_tree}
use Rattle.fx_c_types_rules.specs.Checks.{Checked, Gives}
use Rattle.fx_c_types_bodies.proofs.Items.{global_at, global_beyond}
use Rattle.fx_c_types_bodies.proofs.nodes.global_type.Goals as goal

pub returns-then-number-globals : goal.returns-then-number-globals
returns-then-number-globals c = ap (λ (t : TyTree). Ok t) (global_beyond c.args.globals.now c.args.number c.if-number-globals.true)

pub returns : goal.returns
returns c =
    let r = c.index-globals-number.result in
    let e = ap (λ (d : TGlobal). Ok (ty_tree d.ty)) (sym c.index-globals-number.is) ∙ ap (λ (t : TyTree). Ok t) (sym (global_at c.args.globals.now c.args.number r (omega arith) c.index-globals-number.is)) in
    subst (λ (m : Checked TyTree). Gives ty_tree c.copied.result m) e c.copied.ensures
