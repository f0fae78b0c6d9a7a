use Rattle.std.proofs.Common.{length}
use Rattle.fx_c_mean_blocks.proofs.cells.+follow.Given as goal

abbrev pub decreases-follow : goal.decreases-follow
decreases-follow l = length l.cells.now
