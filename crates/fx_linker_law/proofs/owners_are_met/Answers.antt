use Rattle.fx_linker_law.proofs.Whole.{owners}
use Rattle.fx_linker_law.proofs.owners_are_met.Goals as goal

pub returns : goal.returns
returns c = owners
