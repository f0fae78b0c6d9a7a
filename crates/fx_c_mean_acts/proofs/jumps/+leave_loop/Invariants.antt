use Rattle.std.proofs.Common.{length}
use Rattle.fx_c_mean_acts.proofs.jumps.+leave_loop.Given as goal

abbrev pub decreases-leave_loop : goal.decreases-leave_loop
decreases-leave_loop l = length l.frames.now
