use Rattle.std.proofs.Common.{◌≡◌, drop, []}
use Rattle.fx_c_ast.specs.ParsedTrees.{member_trees}
use Rattle.fx_c_types_heads.specs.Heads.{repeats, names_of}
use Rattle.fx_c_types_heads.proofs.heads.members_repeat.Given as goal

abbrev pub invariant-loop-member : goal.invariant-loop-member
invariant-loop-member l = repeats l.seen (names_of (member_trees (drop l.member-index l.members))) ≡ repeats [] (names_of (member_trees l.members))
