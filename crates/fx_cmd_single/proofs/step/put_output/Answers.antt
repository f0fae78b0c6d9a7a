use Rattle.fx_cmd_single.proofs.Stepped.{by_unfilled}
use Rattle.fx_cmd_single.proofs.step.put_output.Goals as goal

pub returns-in-Err-clause-ends : goal.returns-in-Err-clause-ends
returns-in-Err-clause-ends g c =
    by_unfilled c.args.byte c.in-Err.field-0.taken (g.O.Sink.taken c.args.out.now) (g.O.Sink.taken c.put_all.new.sink) (g.O.Sink.faults c.args.out.now) (g.O.Sink.faults c.put_all.new.sink) c.in-Err.ensures.part c.in-Err.ensures.taken c.in-Err.ensures.fault
