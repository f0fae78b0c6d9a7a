use Rattle.std.proofs.Common.{sym, refl}
use Rattle.fx_image.proofs.Counts.{stub_is}
use Rattle.fx_image.proofs.gates.is_stub.Goals as goal

pub returns : goal.returns
returns c =
    sym (stub_is c.args.comps.now c.args.code.now c.args.entries.now c.args.s.now _ _ (sym c.if-not-is_between.ensures.value)
    (c.requires.counted c.args.s.now.to (c.if-not-is_between.ensures.small refl)) (rw c.from.ensures at c.is_good.ensures))
