use Rattle.std.proofs.Common.{length}
use Rattle.fx_machine.proofs.act.+holder.Given as goal

abbrev pub decreases-holder : goal.decreases-holder
decreases-holder l = length l.compartments.now
