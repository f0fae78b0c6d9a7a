use Rattle.std.proofs.Common.{refl, sym, ap, ◌∙◌, arith}
use Rattle.std.specs.Result.{is_ok}
use Rattle.fx_machine_model.specs.Layout.{page_entry}
use Rattle.fx_machine.proofs.Reach.{plain_memory}
use Rattle.fx_machine.proofs.check.is_memory.Goals as goal

pub returns-then-is_plain-clause-memory : goal.returns-then-is_plain-clause-memory
returns-then-is_plain-clause-memory c =
    let size = c.from.ensures in
    let low = c.if-address-from-gt4096.false in
    λ t.
    plain_memory (page_entry c.args.image.now c.args.space) c.args.p c.args.access c.args.address c.args.bytes c.entry-entry.result c.entry-entry.ensures.value (c.if-is_plain.ensures refl)
    (ap is_ok (sym c.permits.ensures) ∙ sym c.is_ok.ensures.value ∙ t) (omega arith) (omega arith)
