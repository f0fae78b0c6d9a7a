use Rattle.std.proofs.Common.{sym, ap, ◌∙◌}
use Rattle.fx_vm_pages.specs.Access.{refused_from, page_of}
use Rattle.fx_machine_model.specs.Layout.{page_entry}
use Rattle.fx_machine_model.specs.Moves.{device_at}
use Rattle.fx_machine.specs.Reaching.{reach_by, unless_device}
use Rattle.fx_machine.proofs.Reach.{check_is}
use Rattle.fx_machine.proofs.check.reach_over_pages.Goals as goal

pub returns-in-Some-clause-value : goal.returns-in-Some-clause-value
returns-in-Some-clause-value c =
    let entries = page_entry c.args.image.now c.args.space in
    let a = c.args.address in
    ap (λ x. reach_by x (device_at (entries (page_of a)) a))
    (sym c.in-Some.is ∙ c.refused_from.ensures.value ∙ ap (λ f. refused_from entries c.args.p c.args.access f a c.args.bytes) c.is_register_form-form.ensures ∙ sym (check_is entries c.args.p c.args.access a c.args.bytes))

pub returns-in-None-clause-value : goal.returns-in-None-clause-value
returns-in-None-clause-value c =
    let entries = page_entry c.args.image.now c.args.space in
    let a = c.args.address in
    c.unrefused.ensures ∙ ap (λ x. unless_device (device_at x a)) c.entry-entry.ensures.value
    ∙ ap (λ x. reach_by x (device_at (entries (page_of a)) a))
    (sym c.in-None.is ∙ c.refused_from.ensures.value ∙ ap (λ f. refused_from entries c.args.p c.args.access f a c.args.bytes) c.is_register_form-form.ensures ∙ sym (check_is entries c.args.p c.args.access a c.args.bytes))
