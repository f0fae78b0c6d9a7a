use Rattle.fx_linker_law.proofs.Whole.{compartments}
use Rattle.fx_linker_law.proofs.compartments_are_met.Goals as goal

pub returns : goal.returns
returns c = compartments
