use Rattle.std.proofs.Common.{◌≡◌, map, take}
use Rattle.fx_linker.specs.Data.{placed_stub}
use Rattle.fx_linker.proofs.starts.placed_stubs.Given as goal

abbrev pub invariant-loop-stub : goal.invariant-loop-stub
invariant-loop-stub l = l.found.items ≡ map (placed_stub l.runtime) (take l.stub-index l.stubs)
