use Rattle.std.proofs.Common.{◌<◌, length, arith}
use Rattle.fx_c_mean.proofs.Starts.{literals_more}
use Rattle.fx_c_mean.proofs.start.add_literals.Goals as goal

pub loop-literal-preserved : goal.loop-literal-preserved
loop-literal-preserved c =
    let i = c.loop-literal in
    let there : i.literal-index < length c.args.literals.now = omega arith in record {
      number = omega arith;
      made = literals_more i.memory c.add_literal.new.memory _ c.args.literals.now i.literal-index i.number c.in_ok-number.number c.literal-item.result i.invariant.number there c.literal-item.is c.in_ok-add_literal.ensures c.in_ok-number.ensures i.invariant.made;
    }
