use Rattle.std.proofs.Common.{◌≡◌, ◌-◌, ◌++◌, take, length}
use Rattle.fx_c_mean_model.specs.Programs.{byte_cells, zeros}
use Rattle.fx_c_mean.proofs.start.cells_from.Given as goal

abbrev pub invariant-loop-i : goal.invariant-loop-i
invariant-loop-i l = l.cells.items ≡ take l.i (byte_cells l.bytes ++ zeros (l.size - length l.bytes))
