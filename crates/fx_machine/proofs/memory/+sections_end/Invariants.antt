use Rattle.std.proofs.Common.{length}
use Rattle.fx_machine.proofs.memory.+sections_end.Given as goal

abbrev pub decreases-sections_end : goal.decreases-sections_end
decreases-sections_end l = length l.sections.now
