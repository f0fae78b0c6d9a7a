use Rattle.std.proofs.Common.{length}
use Rattle.fx_c_mean_acts.proofs.jumps.+next_of_loop.Given as goal

abbrev pub decreases-next_of_loop : goal.decreases-next_of_loop
decreases-next_of_loop l = length l.frames.now
