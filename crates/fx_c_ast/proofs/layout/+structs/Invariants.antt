use Rattle.std.proofs.Common.{◌≡◌, ◌+◌, ◌*◌, ◌≤◌, drop}
use Rattle.fx_c_ast.specs.CheckedTrees.{ty_tree, member_types, struct_types}
use Rattle.fx_c_ast.specs.Layout.{known_layouts, members_end, greatest_align, AreSized}
use Rattle.fx_c_ast.proofs.Layouts.{rank}
use Rattle.fx_c_ast.proofs.layout.+structs.Given as goal

abbrev pub decreases-element_layout : goal.decreases-element_layout
decreases-element_layout l = rank (ty_tree l.t.now)

abbrev pub decreases-struct_layout : goal.decreases-struct_layout
decreases-struct_layout l = 2 * l.n + 1

abbrev pub invariant-struct_layout-loop-member : goal.invariant-struct_layout-loop-member
invariant-struct_layout-loop-member l = record {
  end : members_end (known_layouts (struct_types l.structs)) l.end (member_types (drop l.member-index l.member-items)) ≡ members_end (known_layouts (struct_types l.structs)) 0 (member_types l.member-items);
  greatest : greatest_align (known_layouts (struct_types l.structs)) l.align (member_types (drop l.member-index l.member-items)) ≡ greatest_align (known_layouts (struct_types l.structs)) 1 (member_types l.member-items);
  sized : AreSized (known_layouts (struct_types l.structs)) l.n (member_types (drop l.member-index l.member-items));
  small : members_end (known_layouts (struct_types l.structs)) 0 (member_types l.member-items) ≤ 67108864;
  positive : 1 ≤ l.align;
  bounded : l.align ≤ 8;
}
