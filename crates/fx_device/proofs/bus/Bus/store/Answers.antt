use Rattle.fx_device.proofs.Law.{law-Carries}
use Rattle.fx_device.proofs.bus.Bus.store.Goals as goal

pub returns-clause-law : goal.returns-clause-law
returns-clause-law g c = λ first law. law-Carries first _ _ _ _ _ c.carry_store.ensures law
