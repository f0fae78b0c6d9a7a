use Rattle.std.proofs.Common.{sym, ap, ◌∙◌, subst}
use Rattle.fx_vm_pages.specs.declared.access.Access.TheVariants.{Read}
use Rattle.fx_cpu.specs.Registers.{past}
use Rattle.fx_cpu.specs.Does.{finish}
use Rattle.fx_machine_model.specs.Layout.{page_entry}
use Rattle.fx_machine_model.specs.Moves.{perform}
use Rattle.fx_machine.specs.Acting.{world, ActsBy}
use Rattle.fx_machine.specs.Memory.{memory_of}
use Rattle.fx_machine.specs.Reaching.{reach_of}
use Rattle.fx_machine.specs.declared.act.Act.TheVariants.{Done, Operation, Halts}
use Rattle.fx_machine.proofs.Performing.{acts_read, acts_load, acts_unread}
use Rattle.fx_machine.proofs.act.read.Goals as goal

pub returns-in-Memory-clause-acts : goal.returns-in-Memory-clause-acts
returns-in-Memory-clause-acts c =
    let image = c.args.image.now in
    let old = c.args.r.now in
    let i = c.args.inst.now in
    let m = memory_of image c.args.memory.now in
    let at = sym (c.look.ensures.value ∙ ap (reach_of (page_entry image c.args.vcpu) old.pkru Read c.args.address) c.bytes.ensures.value) ∙ c.in-Memory.is in
    subst (λ r. ActsBy (λ answers. perform image c.args.vcpu i c.args.length old (world m answers)) old m Done r m)
    (sym (c.finish.ensures ∙ ap (finish i (past old c.args.length)) c.word_at-value.ensures))
    (acts_read image c.args.vcpu i c.args.length old m c.args.width c.args.address c.requires.asks at)

pub returns-in-Device-clause-acts : goal.returns-in-Device-clause-acts
returns-in-Device-clause-acts c =
    let image = c.args.image.now in
    let old = c.args.r.now in
    let i = c.args.inst.now in
    let m = memory_of image c.args.memory.now in
    let at = sym (c.look.ensures.value ∙ ap (reach_of (page_entry image c.args.vcpu) old.pkru Read c.args.address) c.bytes.ensures.value) ∙ c.in-Device.is in
    subst (λ op. ActsBy (λ answers. perform image c.args.vcpu i c.args.length old (world m answers)) old m (Operation i c.args.length op) old m)
    (sym c.operation.ensures)
    (acts_load image c.args.vcpu i c.args.length old m c.args.width c.args.address c.in-Device.device c.requires.asks at)

pub returns-in-Refused-clause-acts : goal.returns-in-Refused-clause-acts
returns-in-Refused-clause-acts c =
    let image = c.args.image.now in
    let old = c.args.r.now in
    let i = c.args.inst.now in
    let m = memory_of image c.args.memory.now in
    let at = sym (c.look.ensures.value ∙ ap (reach_of (page_entry image c.args.vcpu) old.pkru Read c.args.address) c.bytes.ensures.value) ∙ c.in-Refused.is in
    subst (λ s. ActsBy (λ answers. perform image c.args.vcpu i c.args.length old (world m answers)) old m (Halts s) old m)
    (sym c.refused.ensures)
    (acts_unread image c.args.vcpu i c.args.length old m c.args.width c.args.address c.in-Refused.first c.requires.asks at)
