use Rattle.std.proofs.Common.{false, sym, ap, ◌∙◌, lit<, arith}
use Rattle.fx_vm_pages.specs.Access.{byte_refusal}
use Rattle.fx_machine_model.specs.Layout.{page_entry}
use Rattle.fx_machine.proofs.Reach.{page_free, page_refused}
use Rattle.fx_machine.proofs.check.check_byte.Goals as goal

pub returns-in-Some-clause-value : goal.returns-in-Some-clause-value
returns-in-Some-clause-value c =
    let e = ap (λ x. byte_refusal x c.args.p c.args.access false) (sym c.entry-entry.ensures.value) ∙ sym c.byte_refusal.ensures ∙ c.in-Some.is in
    sym (page_refused (page_entry c.args.image.now c.args.space) c.args.p c.args.access c.args.address 1 c.in-Some.refusal (lit< tt) e)

pub returns-in-None-clause-value : goal.returns-in-None-clause-value
returns-in-None-clause-value c =
    let e = ap (λ x. byte_refusal x c.args.p c.args.access false) (sym c.entry-entry.ensures.value) ∙ sym c.byte_refusal.ensures ∙ c.in-None.is in
    sym (page_free (page_entry c.args.image.now c.args.space) c.args.p c.args.access c.args.address 1 (omega arith) (omega arith) e)
