use Rattle.std.proofs.Common.{◌≡◌, ◌++◌, drop}
use Rattle.fx_build_parts.specs.Ranges.{spots_from}
use Rattle.fx_build_parts.proofs.ranges.spots.Given as goal

abbrev pub invariant-loop-f : goal.invariant-loop-f
invariant-loop-f l =
    l.spots.items ++ spots_from l.begins l.f (drop l.f l.unplaced)
    ≡ spots_from l.begins 0 l.unplaced
