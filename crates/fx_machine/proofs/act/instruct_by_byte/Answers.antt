use Rattle.std.proofs.Common.{sym, ◌∙◌, subst}
use Rattle.fx_machine_model.specs.Moves.{move}
use Rattle.fx_machine.specs.Acting.{world, ActsBy}
use Rattle.fx_machine.specs.Memory.{memory_of}
use Rattle.fx_machine.specs.declared.act.Act.TheVariants.{Halts}
use Rattle.fx_machine.proofs.Performing.{acts_found, acts_unfetched, acts_unspelled}
use Rattle.fx_machine.proofs.act.instruct_by_byte.Goals as goal

pub returns-in-Found-clause-acts : goal.returns-in-Found-clause-acts
returns-in-Found-clause-acts c =
    let image = c.args.image.now in
    acts_found image c.args.vcpu c.args.r.now (memory_of image c.args.memory.now) c.in-Found.inst c.in-Found.length c.perform.result c.perform.new.r (memory_of image c.perform.new.memory)
    (sym c.fetch.ensures.value ∙ c.in-Found.is) c.perform.ensures.acts

pub returns-in-RefusedAt-clause-acts : goal.returns-in-RefusedAt-clause-acts
returns-in-RefusedAt-clause-acts c =
    let image = c.args.image.now in
    let old = c.args.r.now in
    let m = memory_of image c.args.memory.now in
    subst (λ s. ActsBy (λ answers. move image c.args.vcpu old (world m answers)) old m (Halts s) old m)
    (sym c.refused.ensures)
    (acts_unfetched image c.args.vcpu old m c.in-RefusedAt.first (sym c.fetch.ensures.value ∙ c.in-RefusedAt.is))

pub returns-in-Unspelled-clause-acts : goal.returns-in-Unspelled-clause-acts
returns-in-Unspelled-clause-acts c =
    let image = c.args.image.now in
    acts_unspelled image c.args.vcpu c.args.r.now (memory_of image c.args.memory.now) (sym c.fetch.ensures.value ∙ c.in-Unspelled.is)
