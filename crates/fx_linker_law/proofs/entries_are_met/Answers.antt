use Rattle.fx_linker_law.proofs.Entries.{entries}
use Rattle.fx_linker_law.proofs.entries_are_met.Goals as goal

pub returns : goal.returns
returns c = entries
