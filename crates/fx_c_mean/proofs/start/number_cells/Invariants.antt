use Rattle.std.proofs.Common.{◌≡◌, ◌-◌, ◌++◌}
use Rattle.fx_c_mean_blocks.specs.Blocks.{bytes_of}
use Rattle.fx_c_mean.proofs.start.number_cells.Given as goal

abbrev pub invariant-loop-i : goal.invariant-loop-i
invariant-loop-i l = l.cells.items ++ bytes_of (l.size - l._i) l.above ≡ bytes_of l.size l.n
