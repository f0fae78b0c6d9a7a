use Rattle.std.proofs.Common.{◌≡◌, drop}
use Rattle.fx_c_ast.specs.CheckedTrees.{member_types}
use Rattle.fx_c_ast.specs.Layout.{greatest_align}
use Rattle.fx_c_mean_control.specs.Tables.{looked_up}
use Rattle.fx_c_mean_control.proofs.layouts.greatest.Given as goal

abbrev pub invariant-loop-member : goal.invariant-loop-member
invariant-loop-member l = greatest_align (looked_up l.table) l.align (member_types (drop l.member-index l.members)) ≡ greatest_align (looked_up l.table) 1 (member_types l.members)
