use Rattle.fx_linker_law.proofs.Placed.{stubs}
use Rattle.fx_linker_law.proofs.stubs_are_met.Goals as goal

pub returns : goal.returns
returns c = stubs
