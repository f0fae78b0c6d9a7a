use Rattle.std.proofs.Common.{◌≡◌, drop}
use Rattle.fx_c_ast.specs.CheckedTrees.{member_types}
use Rattle.fx_c_ast.specs.Layout.{members_end}
use Rattle.fx_c_mean_control.specs.Tables.{looked_up}
use Rattle.fx_c_mean_control.proofs.layouts.end_of.Given as goal

abbrev pub invariant-loop-member : goal.invariant-loop-member
invariant-loop-member l = members_end (looked_up l.table) l.end (member_types (drop l.member-index l.members)) ≡ members_end (looked_up l.table) l.at (member_types l.members)
