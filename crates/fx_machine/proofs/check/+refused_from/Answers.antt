use Rattle.std.proofs.Common.{◌≢◌, sym, ap, ◌∙◌, rules}
use Rattle.fx_vm_pages.specs.Access.{byte_refusal}
use Rattle.fx_machine_model.specs.Layout.{page_entry}
use Rattle.fx_machine_model.proofs.Checks.{after_byte}
use Rattle.fx_machine.proofs.check.+refused_from.Goals as goal

pub returns-in-None-clause-value : goal.returns-in-None-clause-value
returns-in-None-clause-value t c =
    let some : c.args.bytes ≢ 0 = search rules in
    let e = ap (λ x. byte_refusal x c.args.p c.args.access c.args.form) (sym c.entry-entry.ensures.value) ∙ sym c.byte_refusal.ensures ∙ c.in-None.is in
    c.refused_from.ensures.value ∙ sym (after_byte (page_entry c.args.image.now c.args.space) c.args.p c.args.access c.args.form c.args.bytes c.args.address some e)
