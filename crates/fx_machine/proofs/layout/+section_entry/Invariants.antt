use Rattle.std.proofs.Common.{length}
use Rattle.fx_machine.proofs.layout.+section_entry.Given as goal

abbrev pub decreases-section_entry : goal.decreases-section_entry
decreases-section_entry l = length l.sections.now
