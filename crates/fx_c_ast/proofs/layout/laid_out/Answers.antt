use Rattle.std.proofs.Common.{◌∙◌, length, sym, ap, subst}
use Rattle.fx_c_ast.specs.CheckedTrees.{ty_tree, struct_types}
use Rattle.fx_c_ast.specs.Elements.{IsElement, IsScaled}
use Rattle.fx_c_ast.specs.declared.layout.Layout.{Layout}
use Rattle.fx_c_ast.specs.Layout.{known_layouts, type_layout, IsSized}
use Rattle.fx_c_ast.proofs.Layouts.{member_is, element_sized, element_is, scales}
use Rattle.fx_c_ast.proofs.layout.laid_out.Goals as goal

pub element_layout-requires : goal.element_layout-requires
element_layout-requires c =
    let known = known_layouts (struct_types c.args.structs.now) in
    let n = length c.args.structs.now in
    let of = ty_tree c.args.t.now in
    record { structs = c.requires.structs; sized = subst (λ x. IsSized known n x) (sym c.element.ensures) (element_sized known n of c.requires.sized); element = subst IsElement (sym c.element.ensures) (element_is of) }

pub repeated-requires : goal.repeated-requires
repeated-requires c =
    let known = known_layouts (struct_types c.args.structs.now) in
    let of = ty_tree c.args.t.now in
    subst (λ (l : Layout). IsScaled l of) (sym (c.element_layout.ensures.layout ∙ ap (type_layout known) c.element.ensures)) (scales known (length c.args.structs.now) of c.requires.sized)

pub returns : goal.returns
returns c = c.repeated.ensures ∙ member_is (known_layouts (struct_types c.args.structs.now)) c.element_layout.result (ty_tree c.args.t.now) (ty_tree c.element.result.now) c.element_layout.ensures.layout c.element.ensures
