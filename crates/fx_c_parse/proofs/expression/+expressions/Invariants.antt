use Rattle.std.proofs.Common.{◌+◌, ◌-◌, ◌*◌, ◌<◌, ◌≤◌, length, Some}
use Rattle.fx_c_ast.specs.ParsedTrees.{expr_tree, expr_trees}
use Rattle.fx_c_lex.specs.declared.sign.TheConstants.{CLOSE_PAREN}
use Rattle.fx_c_parse.specs.Words.{rest_of, after_sign}
use Rattle.fx_c_parse.specs.Reading.{◌>>=◌}
use Rattle.fx_c_parse.specs.Expressions.{flat, binary_turn, suffix_turn, argument_turn, binary_at, postfix_by, more_by}
use Rattle.fx_c_parse.proofs.Loop.{Continues}
use Rattle.fx_c_parse.proofs.expression.+expressions.Given as goal

abbrev pub decreases-binary : goal.decreases-binary
decreases-binary l = l.budget * 16 + l.level + 5

abbrev pub decreases-unary : goal.decreases-unary
decreases-unary l = l.budget * 16 + 4

abbrev pub decreases-postfix : goal.decreases-postfix
decreases-postfix l = l.budget * 16 + 3

abbrev pub decreases-suffixed : goal.decreases-suffixed
decreases-suffixed l = l.budget * 16 + 2

abbrev pub decreases-primary : goal.decreases-primary
decreases-primary l = l.budget * 16 + 2

abbrev pub decreases-arguments : goal.decreases-arguments
decreases-arguments l = l.budget * 16 + 1

abbrev pub decreases-more_arguments : goal.decreases-more_arguments
decreases-more_arguments l = l.budget * 16

abbrev pub invariant-binary-loop-op : goal.invariant-binary-loop-op
invariant-binary-loop-op l = record {
  shorter : length (rest_of l.rest) < length (rest_of l.fn.at);
  left : Continues (binary_turn (binary_at (l.budget - 1) (l.level - 1)) l.budget (l.level - 1)) (λ y. Some (flat y)) (expr_tree l.left, l.height) (rest_of l.rest) (binary_at l.budget l.level (rest_of l.fn.at));
}

abbrev pub decreases-binary-loop-op : goal.decreases-binary-loop-op
decreases-binary-loop-op l = length (rest_of l.rest)

abbrev pub invariant-postfix-loop-suffix : goal.invariant-postfix-loop-suffix
invariant-postfix-loop-suffix l = record {
  shorter : length (rest_of l.rest) < length (rest_of l.fn.at);
  left : Continues (suffix_turn (binary_at (l.budget - 1)) l.budget) (λ y. Some (flat y)) (expr_tree l.e, l.height) (rest_of l.rest) (postfix_by (binary_at (l.budget - 1)) l.budget (rest_of l.fn.at));
}

abbrev pub decreases-postfix-loop-suffix : goal.decreases-postfix-loop-suffix
decreases-postfix-loop-suffix l = length (rest_of l.rest)

abbrev pub invariant-more_arguments-loop-alloc : goal.invariant-more_arguments-loop-alloc
invariant-more_arguments-loop-alloc l = record {
  shorter : length (rest_of l.rest) ≤ length (rest_of l.fn.at);
  left : Continues (argument_turn (binary_at (l.budget - 1))) (λ x. after_sign CLOSE_PAREN x.1 >>= λ rest. Some (x.0.0, x.0.1, rest)) (expr_trees l.args.items, l.height) (rest_of l.rest) (more_by (binary_at (l.budget - 1)) (expr_trees l.fn.args.items) l.fn.height (rest_of l.fn.at));
}

abbrev pub decreases-more_arguments-loop-alloc : goal.decreases-more_arguments-loop-alloc
decreases-more_arguments-loop-alloc l = length (rest_of l.rest)
