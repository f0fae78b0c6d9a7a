use Rattle.fx_cpu.proofs.FlatLemmas.{next_rest, next_byte}
use Rattle.std.proofs.Common.{arith, ◌<◌, ◌+◌, length}
use Rattle.fx_machine.proofs.memory.write.Goals as goal

pub loop-i-preserved : goal.loop-i-preserved
loop-i-preserved c =
    let r = c.loop-i in
    let p : c.args.at + r.i < length r.bytes = omega arith in
    (next_rest c.args.value r.i r.rest r.invariant.0, λ k. next_byte r.bytes c.args.bytes.now r.i c.args.at c.args.value r.rest k p r.invariant.0 (r.invariant.1 k))
