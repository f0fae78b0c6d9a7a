use Rattle.std.proofs.Common.{◌≡◌}
use Rattle.fx_c_mean_blocks.specs.Blocks.{without}
use Rattle.fx_c_mean_blocks.proofs.memory.Memory.kill.Given as goal

abbrev pub invariant-loop-left : goal.invariant-loop-left
invariant-loop-left l = without l.self l.at l.left ≡ without l.initial.self l.from l.n

abbrev pub decreases-loop-left : goal.decreases-loop-left
decreases-loop-left l = l.left
