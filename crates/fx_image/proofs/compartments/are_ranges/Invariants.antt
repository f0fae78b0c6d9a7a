use Rattle.std.proofs.Common.{◌≡◌, drop}
use Rattle.fx_image.specs.Rules.{are_ranges}
use Rattle.fx_image.proofs.compartments.are_ranges.Given as goal

abbrev pub invariant-loop-c : goal.invariant-loop-c
invariant-loop-c l = are_ranges l.start (drop l.c-index l.comps) ≡ are_ranges 0 l.comps
