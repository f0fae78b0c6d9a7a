use Rattle.std.proofs.Common.{◌≡◌, drop}
use Rattle.fx_c_types_rules.specs.Structs.{member_trees, member_at}
use Rattle.fx_c_types_rules.proofs.members.find.Given as goal

abbrev pub invariant-loop-place : goal.invariant-loop-place
invariant-loop-place l = member_at l.place l.name (member_trees (drop l.place l.members)) ≡ member_at 0 l.name (member_trees l.members)
