use Rattle.std.proofs.Common.{◌≡◌, ◌≤◌, List, length, ap, sym, ◌∙◌, refl, arith}
use Rattle.fx_c_ast.specs.declared.checked.TStruct.{TStruct}
use Rattle.fx_c_ast.specs.CheckedTrees.{struct_types}
use Rattle.fx_c_ast.proofs.Layouts.{types_length}
use Rattle.fx_c_lower_tables.specs.Layers.{layer, layers, all_layouts}
use Rattle.fx_c_lower_tables.proofs.Rounds.{no_rounds, one_more, settled}
use Rattle.fx_c_lower_tables.proofs.tables.layouts_of.Goals as goal

pub loop-done-init : goal.loop-done-init
loop-done-init c = no_rounds c.as_slice-structs.result.now c.in_ok-table.table.items (c.in_ok-table.ensures.items_if_clones_equal (λ y h. h))

pub returns-then-is_same : goal.returns-then-is_same
returns-then-is_same c =
    let ss = c.as_slice-structs.result.now in
    let le : c.loop-done._done ≤ length (struct_types ss) = omega (arith, types_length ss) in
    settled (struct_types ss) c.loop-done._done (length (struct_types ss)) c.loop-done.table.items c.in_ok-next.next.items c.loop-done.invariant (c.in_ok-next.ensures ∙ ap (layer (struct_types ss)) c.deref.ensures.value) (sym c.deref-in-loop-done.ensures.value ∙ c.if-is_same.ensures refl ∙ c.deref-in-loop-done-2.ensures.value) le
    ∙ ap (λ (l : List TStruct). all_layouts (struct_types l)) c.as_slice-structs.ensures

pub loop-done-preserved : goal.loop-done-preserved
loop-done-preserved c =
    let ss = c.as_slice-structs.result.now in
    one_more (struct_types ss) c.loop-done._done c.loop-done.table.items c.in_ok-next.next.items c.loop-done.invariant (c.in_ok-next.ensures ∙ ap (layer (struct_types ss)) c.deref.ensures.value)

pub returns : goal.returns
returns c =
    let ss = c.as_slice-structs.result.now in
    let n : c.loop-done._done ≡ length (struct_types ss) = omega (arith, types_length ss) in
    c.loop-done.invariant ∙ ap (layers (struct_types ss)) n ∙ ap (λ (l : List TStruct). all_layouts (struct_types l)) c.as_slice-structs.ensures
