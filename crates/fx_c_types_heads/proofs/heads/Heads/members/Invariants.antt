use Rattle.std.proofs.Common.{◌≡◌, drop, [], true}
use Rattle.fx_c_ast.specs.ParsedTrees.{member_trees}
use Rattle.fx_c_ast.specs.CheckedTrees.{member_types}
use Rattle.fx_c_types_rules.specs.Structs as plain
use Rattle.fx_c_types_heads.specs.Sizes.{all_have_elements}
use Rattle.fx_c_types_heads.specs.Heads.{members_behind}
use Rattle.fx_c_types_heads.specs.HeadsView.{heads_tree}
use Rattle.fx_c_types_heads.proofs.heads.Heads.members.Given as goal

abbrev pub invariant-loop-member : goal.invariant-loop-member
invariant-loop-member l = record {
  behind : members_behind (heads_tree l.self) (plain.member_trees l.all.items) (member_trees (drop l.member-index l.members)) ≡ members_behind (heads_tree l.self) [] (member_trees l.members);
  elements : all_have_elements (member_types l.all.items) ≡ true;
}
