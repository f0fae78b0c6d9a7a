use Rattle.fx_machine.specs.Memory.{memory_of}
use Rattle.fx_machine.specs.declared.act.Act.TheVariants.{Done}
use Rattle.fx_machine.proofs.Performing.{acts_found}
use Rattle.fx_machine.proofs.act.instruct_whole.Goals as goal

pub returns-in-Some-clause-done : goal.returns-in-Some-clause-done
returns-in-Some-clause-done c =
    let image = c.args.image.now in
    λ t.
    acts_found image c.args.vcpu c.args.r.now (memory_of image c.args.memory.now) c.in-Some.inst.now c.in-Some.length Done c.perform_quick.new.r (memory_of image c.perform_quick.new.memory)
    (c.in-Some.ensures.value c.args.memory.now) (c.perform_quick.ensures.done t)
