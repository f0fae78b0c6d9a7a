use Rattle.fx_linker_law.proofs.Whole.{heads}
use Rattle.fx_linker_law.proofs.heads_are_met.Goals as goal

pub returns : goal.returns
returns c = heads
