use Rattle.std.proofs.Common.{refl, sym, ap, ◌∙◌}
use Rattle.fx_x64_forms.specs.Numbers.{width_bytes}
use Rattle.fx_vm_pages.specs.Access.{access_check, page_of}
use Rattle.fx_vm_pages.specs.declared.access.Access.TheVariants.{Write}
use Rattle.fx_machine_model.specs.Layout.{page_entry}
use Rattle.fx_machine_model.specs.Moves.{device_at}
use Rattle.fx_machine.specs.Reaching.{reach_of}
use Rattle.fx_machine.proofs.Holding.{permitted_held}
use Rattle.fx_machine.proofs.Performing.{memory_free}
use Rattle.fx_machine.proofs.act.store.Goals as goal

pub store-requires : goal.store-requires
store-requires c =
    let entries = page_entry c.args.image.now c.args.vcpu in
    let w = c.args.width in
    let a = c.args.address in
    let at = ap (reach_of entries c.args.pkru Write a) (sym c.bytes.ensures.value) ∙ c.if-not-is_memory.ensures.memory refl in
    let free = memory_free (access_check entries c.args.pkru Write a (width_bytes w)) (device_at (entries (page_of a)) a) at in
    permitted_held c.args.image.now c.args.vcpu c.args.memory.now c.args.pkru w a c.requires.whole c.requires.laid free.0 free.1
