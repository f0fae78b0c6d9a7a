use Rattle.fx_linker_law.proofs.Whole.{starts}
use Rattle.fx_linker_law.proofs.starts_are_met.Goals as goal

pub returns : goal.returns
returns c = starts
