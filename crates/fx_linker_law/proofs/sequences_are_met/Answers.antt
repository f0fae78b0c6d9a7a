use Rattle.fx_linker_law.proofs.Sequences.{sequences}
use Rattle.fx_linker_law.proofs.sequences_are_met.Goals as goal

pub returns : goal.returns
returns c = sequences
