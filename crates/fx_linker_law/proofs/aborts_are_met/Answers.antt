use Rattle.fx_linker_law.proofs.Whole.{aborts}
use Rattle.fx_linker_law.proofs.aborts_are_met.Goals as goal

pub returns : goal.returns
returns c = aborts
