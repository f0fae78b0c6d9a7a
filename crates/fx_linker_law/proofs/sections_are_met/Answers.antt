use Rattle.fx_linker_law.proofs.Placed.{sections}
use Rattle.fx_linker_law.proofs.sections_are_met.Goals as goal

pub returns : goal.returns
returns c = sections
