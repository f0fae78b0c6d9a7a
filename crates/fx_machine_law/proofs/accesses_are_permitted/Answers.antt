use Rattle.fx_machine_law.proofs.Kept.{accesses_are_permitted, only_writes_change}
use Rattle.fx_machine_law.proofs.accesses_are_permitted.Goals as goal

pub returns-clause-permitted : goal.returns-clause-permitted
returns-clause-permitted c = accesses_are_permitted

pub returns-clause-changes : goal.returns-clause-changes
returns-clause-changes c = only_writes_change
