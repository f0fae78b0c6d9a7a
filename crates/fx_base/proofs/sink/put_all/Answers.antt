use Rattle.std.proofs.Common.{arith, ◌-◌, length, take, drop}
use Rattle.std.proofs.lemmas.Grind.{common_steps}
use Rattle.fx_base.proofs.Telling.{gains_more}
use Rattle.fx_base.proofs.sink.put_all.Goals as goal

pub loop-taken-preserved : goal.loop-taken-preserved
loop-taken-preserved g c = record {
  within = grind (arith, common_steps, c.in-Ok.ensures.count);
  taken = gains_more c.args.bytes.now (take (length c.args.bytes.now - c.loop-taken.taken) (drop c.loop-taken.taken c.args.bytes.now)) c.loop-taken.taken c.in-Ok.count
      (g.S.Sink.taken c.args.sink.now) (g.S.Sink.taken c.loop-taken.sink) (g.S.Sink.taken c.put.new.self) (grind (arith, common_steps)) c.loop-taken.invariant.taken c.in-Ok.ensures.taken;
  later = omega (arith, c.in-Ok.ensures.later);
}
