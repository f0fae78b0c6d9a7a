use Rattle.std.proofs.Common.{arith, sym, ◌∙◌, ◌/◌}
use Rattle.fx_machine.proofs.Entries.{device_pages}
use Rattle.fx_machine.proofs.check.device_at.Goals as goal

pub overflow_sub-result : goal.overflow_sub-result
overflow_sub-result c = (device_pages c.args.image.now c.args.space (c.args.address / 4096) c.requires.whole c.in-Some.entry (sym c.requires.is ∙ c.in-Some.is) (sym c.is_device.ensures ∙ c.if-is_device.true)).0

pub overflow_cast-result : goal.overflow_cast-result
overflow_cast-result c =
    let p = device_pages c.args.image.now c.args.space (c.args.address / 4096) c.requires.whole c.in-Some.entry (sym c.requires.is ∙ c.in-Some.is) (sym c.is_device.ensures ∙ c.if-is_device.true) in
    omega arith
