use Rattle.std.proofs.Common.{◌<◌, length, Some}
use Rattle.fx_c_ast.specs.ParsedTrees.{member_trees}
use Rattle.fx_c_parse.specs.Words.{rest_of, tail}
use Rattle.fx_c_parse.specs.Declarations.{member_turn, members_of}
use Rattle.fx_c_parse.proofs.Loop.{Continues}
use Rattle.fx_c_parse.proofs.declaration.members.Given as goal

abbrev pub invariant-loop-alloc : goal.invariant-loop-alloc
invariant-loop-alloc l = record {
  shorter : length (rest_of l.rest) < length (rest_of l.fn.at);
  left : Continues member_turn (λ x. Some (x.0, tail x.1)) (member_trees l.all.items) (rest_of l.rest) (members_of (rest_of l.fn.at));
}

abbrev pub decreases-loop-alloc : goal.decreases-loop-alloc
decreases-loop-alloc l = length (rest_of l.rest)
