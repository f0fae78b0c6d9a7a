use Rattle.std.proofs.Common.{◌≡◌, ◌+◌, ◌++◌, drop}
use Rattle.fx_linker.specs.Places.{range_starts, range_places, ranges_size}
use Rattle.fx_linker.proofs.layout.place_ranges.Given as goal

abbrev pub invariant-loop-range : goal.invariant-loop-range
invariant-loop-range l = record {
  starts : l.starts.items ++ range_starts l.at (drop l.range-index l.ranges) ≡ range_starts 0 l.ranges;
  places : l.places.items ++ range_places l.at (drop l.range-index l.ranges) ≡ range_places 0 l.ranges;
  size : l.at + ranges_size (drop l.range-index l.ranges) ≡ ranges_size l.ranges;
}
