use Rattle.fx_machine.specs.Memory.{memory_of}
use Rattle.fx_machine.proofs.Performing.{acts_found}
use Rattle.fx_machine.proofs.act.instruct.Goals as goal

pub returns-in-Some-clause-acts : goal.returns-in-Some-clause-acts
returns-in-Some-clause-acts c =
    let image = c.args.image.now in
    acts_found image c.args.vcpu c.args.r.now (memory_of image c.args.memory.now) c.in-Some.inst.now c.in-Some.length c.perform.result c.perform.new.r (memory_of image c.perform.new.memory)
    (c.in-Some.ensures.value c.args.memory.now) c.perform.ensures.acts
