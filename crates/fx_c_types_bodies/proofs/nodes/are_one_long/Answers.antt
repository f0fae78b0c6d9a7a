use Rattle.std.proofs.Common.{ap, sym, ◌∙◌, arith}
use Rattle.fx_c_ast.specs.declared.checked.TLocal.{TLocal}
use Rattle.fx_c_ast.specs.CheckedTrees.{ty_tree}
use Rattle.fx_c_types_bodies.specs.Bodies.{is_long}
use Rattle.fx_c_types_bodies.proofs.Items.{one_long, not_one_long}
use Rattle.fx_c_types_bodies.proofs.nodes.are_one_long.Goals as goal

pub returns-then-params-ne1 : goal.returns-then-params-ne1
returns-then-params-ne1 c = sym (not_one_long c.args.params.now c.if-params-ne1.true)

pub returns : goal.returns
returns c =
    c.is_long.ensures ∙ ap (λ (d : TLocal). is_long (ty_tree d.ty)) (sym c.index-params-0.is)
    ∙ sym (one_long c.args.params.now c.index-params-0.result (omega arith) c.index-params-0.is)
