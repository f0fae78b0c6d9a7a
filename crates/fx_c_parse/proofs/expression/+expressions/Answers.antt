use Rattle.std.proofs.Common.{◌-◌, arith, rules}
use Rattle.fx_c_parse.specs.Words.{rest_of}
use Rattle.fx_c_parse.specs.Expressions.{binary_at}
use Rattle.fx_c_parse.proofs.Levels.{lowest_level, next_level, begins_level, goes_on}
use Rattle.fx_c_parse.proofs.expression.+expressions.Goals as goal

pub binary-returns-then-level-eq0-clause-tree : goal.binary-returns-then-level-eq0-clause-tree
binary-returns-then-level-eq0-clause-tree t c = rw (lowest_level c.args.budget c.args.level (rest_of c.args.at) (omega arith) (omega arith)) c.unary.ensures.tree

pub binary-returns-in_err-left-clause-tree : goal.binary-returns-in_err-left-clause-tree
binary-returns-in_err-left-clause-tree t c = rw (next_level c.args.budget c.args.level (rest_of c.args.at) (omega arith) (omega arith)) (search rules)

pub binary-loop-op-init : goal.binary-loop-op-init
binary-loop-op-init t c = record {
  shorter = c.in_ok-left.ensures.shorter;
  left = begins_level c.args.budget c.args.level (rest_of c.args.at) _ _ _ (omega arith) (omega arith) c.in_ok-left.ensures.tree;
}

pub binary-loop-op-preserved : goal.binary-loop-op-preserved
binary-loop-op-preserved t c =
    let fewer = c.next.ensures.fewer in
    record {
      shorter = omega (arith, c.in_ok-right.ensures.shorter, fewer, c.loop-op.invariant.shorter);
      left = goes_on (binary_at (c.args.budget - 1) (c.args.level - 1)) _ _ _ _ _ _ _ _ _ _ _ _ _ c.loop-op.invariant.left c.in-Some.ensures.value c.next.ensures.rest c.in_ok-right.ensures.tree c.in_ok-height.ensures c.in_ok-left-2.ensures (omega (arith, c.in_ok-right.ensures.shorter, fewer));
    }
