use Rattle.std.proofs.Common.{sym, ◌∙◌, subst}
use Rattle.fx_machine_model.specs.Moves.{perform}
use Rattle.fx_machine.specs.Acting.{world, ActsBy}
use Rattle.fx_machine.specs.Memory.{memory_of}
use Rattle.fx_machine.specs.declared.act.Act.TheVariants.{Done, Halts}
use Rattle.fx_machine.proofs.Performing.{acts_quiet, acts_trap}
use Rattle.fx_machine.proofs.act.perform.Goals as goal

pub returns-in-Quiet-clause-acts : goal.returns-in-Quiet-clause-acts
returns-in-Quiet-clause-acts c =
    let image = c.args.image.now in
    let old = c.args.r.now in
    let i = c.args.inst.now in
    let m = memory_of image c.args.memory.now in
    subst (λ r. ActsBy (λ answers. perform image c.args.vcpu i c.args.length old (world m answers)) old m Done r m)
    (sym c.finish.ensures)
    (acts_quiet image c.args.vcpu i c.args.length old m (sym c.need_of.ensures ∙ c.in-Quiet.is))

pub returns-in-Stops-clause-acts : goal.returns-in-Stops-clause-acts
returns-in-Stops-clause-acts c =
    let image = c.args.image.now in
    let old = c.args.r.now in
    let i = c.args.inst.now in
    let m = memory_of image c.args.memory.now in
    subst (λ s. ActsBy (λ answers. perform image c.args.vcpu i c.args.length old (world m answers)) old m (Halts s) old m)
    (sym c.trapped.ensures)
    (acts_trap image c.args.vcpu i c.args.length old m c.in-Stops.trap (sym c.need_of.ensures ∙ c.in-Stops.is))
