use Rattle.std.proofs.Common.{◌+◌, ◌*◌, ◌≤◌, length, Some}
use Rattle.fx_c_ast.specs.ParsedTrees.{stmt_trees}
use Rattle.fx_c_parse.specs.Words.{rest_of, tail}
use Rattle.fx_c_parse.specs.Statements.{statement_turn, statement_at, statements_by}
use Rattle.fx_c_parse.proofs.Loop.{Continues}
use Rattle.fx_c_parse.proofs.statement.+statements.Given as goal

abbrev pub decreases-statement : goal.decreases-statement
decreases-statement l = l.budget * 4 + 2

abbrev pub decreases-conditional : goal.decreases-conditional
decreases-conditional l = l.budget * 4 + 1

abbrev pub decreases-repetition : goal.decreases-repetition
decreases-repetition l = l.budget * 4 + 1

abbrev pub decreases-counted : goal.decreases-counted
decreases-counted l = l.budget * 4 + 1

abbrev pub decreases-statements : goal.decreases-statements
decreases-statements l = l.budget * 4 + 3

abbrev pub invariant-statements-loop-alloc : goal.invariant-statements-loop-alloc
invariant-statements-loop-alloc l = record {
  shorter : length (rest_of l.rest) ≤ length (rest_of l.fn.at);
  left : Continues (statement_turn (statement_at l.budget)) (λ x. Some (x.0, tail x.1)) (stmt_trees l.all.items) (rest_of l.rest) (statements_by (statement_at l.budget) (rest_of l.fn.at));
}

abbrev pub decreases-statements-loop-alloc : goal.decreases-statements-loop-alloc
decreases-statements-loop-alloc l = length (rest_of l.rest)
