use Rattle.std.proofs.Common.{sym, ap, ◌∙◌, subst}
use Rattle.fx_x64_forms.specs.Numbers.{width_bytes}
use Rattle.fx_vm_pages.specs.Access.{access_check, page_of}
use Rattle.fx_vm_pages.specs.declared.access.Access.TheVariants.{Write}
use Rattle.fx_machine_model.specs.Layout.{page_entry}
use Rattle.fx_machine_model.specs.Moves.{perform, device_at}
use Rattle.fx_machine.specs.Acting.{world, ActsBy}
use Rattle.fx_machine.specs.Memory.{memory_of}
use Rattle.fx_machine.specs.Reaching.{reach_of}
use Rattle.fx_machine.specs.declared.act.Act.TheVariants.{Done, Operation, Halts}
use Rattle.fx_machine.proofs.Holding.{permitted_held}
use Rattle.fx_machine.proofs.Performing.{memory_free, acts_store, acts_put, acts_unwritten}
use Rattle.fx_machine.proofs.act.write.Goals as goal

pub store-requires : goal.store-requires
store-requires c =
    let image = c.args.image.now in
    let old = c.args.r.now in
    let at = sym (c.look.ensures.value ∙ ap (reach_of (page_entry image c.args.vcpu) old.pkru Write c.args.address) c.bytes.ensures.value) ∙ c.in-Memory.is in
    let free = memory_free (access_check (page_entry image c.args.vcpu) old.pkru Write c.args.address (width_bytes c.args.width)) (device_at (page_entry image c.args.vcpu (page_of c.args.address)) c.args.address) at in
    permitted_held image c.args.vcpu c.args.memory.now old.pkru c.args.width c.args.address c.requires.whole c.requires.laid free.0 free.1

pub returns-in-Memory-clause-acts : goal.returns-in-Memory-clause-acts
returns-in-Memory-clause-acts c =
    let image = c.args.image.now in
    let old = c.args.r.now in
    let i = c.args.inst.now in
    let m = memory_of image c.args.memory.now in
    let new = memory_of image c.store.new.self in
    let at = sym (c.look.ensures.value ∙ ap (reach_of (page_entry image c.args.vcpu) old.pkru Write c.args.address) c.bytes.ensures.value) ∙ c.in-Memory.is in
    subst (λ r. ActsBy (λ answers. perform image c.args.vcpu i c.args.length old (world m answers)) old m Done r new)
    (sym c.finish.ensures)
    (acts_store image c.args.vcpu i c.args.length old m c.args.width c.args.address c.args.value new c.requires.asks at (c.store.ensures.bytes image))

pub returns-in-Device-clause-acts : goal.returns-in-Device-clause-acts
returns-in-Device-clause-acts c =
    let image = c.args.image.now in
    let old = c.args.r.now in
    let i = c.args.inst.now in
    let m = memory_of image c.args.memory.now in
    let at = sym (c.look.ensures.value ∙ ap (reach_of (page_entry image c.args.vcpu) old.pkru Write c.args.address) c.bytes.ensures.value) ∙ c.in-Device.is in
    subst (λ op. ActsBy (λ answers. perform image c.args.vcpu i c.args.length old (world m answers)) old m (Operation i c.args.length op) old m)
    (sym c.operation.ensures)
    (acts_put image c.args.vcpu i c.args.length old m c.args.width c.args.address c.args.value c.in-Device.device c.requires.asks at)

pub returns-in-Refused-clause-acts : goal.returns-in-Refused-clause-acts
returns-in-Refused-clause-acts c =
    let image = c.args.image.now in
    let old = c.args.r.now in
    let i = c.args.inst.now in
    let m = memory_of image c.args.memory.now in
    let at = sym (c.look.ensures.value ∙ ap (reach_of (page_entry image c.args.vcpu) old.pkru Write c.args.address) c.bytes.ensures.value) ∙ c.in-Refused.is in
    subst (λ s. ActsBy (λ answers. perform image c.args.vcpu i c.args.length old (world m answers)) old m (Halts s) old m)
    (sym c.refused.ensures)
    (acts_unwritten image c.args.vcpu i c.args.length old m c.args.width c.args.address c.args.value c.in-Refused.first c.requires.asks at)
