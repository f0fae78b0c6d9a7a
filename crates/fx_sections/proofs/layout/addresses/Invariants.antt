use Rattle.std.proofs.Common.{◌≡◌, ◌++◌, drop}
use Rattle.fx_sections.specs.Placement.{addresses}
use Rattle.fx_sections.proofs.layout.addresses.Given as goal

abbrev pub invariant-loop-i : goal.invariant-loop-i
invariant-loop-i l = l.found.items ++ addresses l.sections (drop l.i l.objects) (drop l.i l.offsets) ≡ addresses l.sections l.objects l.offsets
