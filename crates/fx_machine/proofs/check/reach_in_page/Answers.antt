use Rattle.std.proofs.Common.{sym, ap, ◌∙◌, arith}
use Rattle.fx_vm_pages.specs.Access.{byte_refusal, page_of}
use Rattle.fx_machine_model.specs.Layout.{page_entry}
use Rattle.fx_machine_model.specs.Moves.{device_at}
use Rattle.fx_machine.specs.Reaching.{reach_by, unless_device}
use Rattle.fx_machine.proofs.Reach.{page_free, page_refused}
use Rattle.fx_machine.proofs.check.reach_in_page.Goals as goal

pub returns-in-Some-clause-value : goal.returns-in-Some-clause-value
returns-in-Some-clause-value c =
    let entries = page_entry c.args.image.now c.args.space in
    let a = c.args.address in
    let e =
    ap (byte_refusal (entries (page_of a)) c.args.p c.args.access) (sym c.is_register_form-form.ensures)
    ∙ ap (λ x. byte_refusal x c.args.p c.args.access c.is_register_form-form.result) (sym c.entry-entry.ensures.value) ∙ sym c.byte_refusal.ensures ∙ c.in-Some.is in
    ap (λ x. reach_by x (device_at (entries (page_of a)) a)) (sym (page_refused entries c.args.p c.args.access a c.args.bytes c.in-Some.refusal c.requires.some e))

pub returns-in-None-clause-value : goal.returns-in-None-clause-value
returns-in-None-clause-value c =
    let entries = page_entry c.args.image.now c.args.space in
    let a = c.args.address in
    let e =
    ap (byte_refusal (entries (page_of a)) c.args.p c.args.access) (sym c.is_register_form-form.ensures)
    ∙ ap (λ x. byte_refusal x c.args.p c.args.access c.is_register_form-form.result) (sym c.entry-entry.ensures.value) ∙ sym c.byte_refusal.ensures ∙ c.in-None.is in
    c.unrefused.ensures ∙ ap (λ x. unless_device (device_at x a)) c.entry-entry.ensures.value
    ∙ ap (λ x. reach_by x (device_at (entries (page_of a)) a)) (sym (page_free entries c.args.p c.args.access a c.args.bytes (omega arith) c.requires.inside e))
