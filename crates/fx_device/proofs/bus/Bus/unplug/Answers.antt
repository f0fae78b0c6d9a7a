use Rattle.fx_device.proofs.Law.{law-unplug}
use Rattle.fx_device.proofs.bus.Bus.unplug.Goals as goal

pub returns-clause-law : goal.returns-clause-law
returns-clause-law g c = λ first law. rw (c.take_out.ensures.boxes, c.take_out.ensures.transcript) (law-unplug first _ _ c.args.device law)
