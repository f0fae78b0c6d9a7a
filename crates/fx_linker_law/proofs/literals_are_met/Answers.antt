use Rattle.fx_linker_law.proofs.Placed.{literals}
use Rattle.fx_linker_law.proofs.literals_are_met.Goals as goal

pub returns : goal.returns
returns c = literals
