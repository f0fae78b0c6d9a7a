use Rattle.std.proofs.Common.{◌≡◌, ◌≤◌, drop}
use Rattle.std.specs.Prelude.{IsTrue}
use Rattle.fx_c_ast.specs.CheckedTrees.{member_types}
use Rattle.fx_c_ast.specs.Layout.{members_end, greatest_align}
use Rattle.fx_c_types_heads.specs.Sizes.{known, all_have_elements}
use Rattle.fx_c_types_heads.proofs.sizes.struct_within.Given as goal

abbrev pub invariant-loop-member : goal.invariant-loop-member
invariant-loop-member l = record {
  end : members_end (known l.layouts) l.end (member_types (drop l.member-index l.members)) ≡ members_end (known l.layouts) 0 (member_types l.members);
  greatest : greatest_align (known l.layouts) l.align (member_types (drop l.member-index l.members)) ≡ greatest_align (known l.layouts) 1 (member_types l.members);
  elements : IsTrue (all_have_elements (member_types (drop l.member-index l.members)));
  small : l.end ≤ 67108864;
  positive : 1 ≤ l.align;
  bounded : l.align ≤ 8;
}
