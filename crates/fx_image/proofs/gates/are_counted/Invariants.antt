use Rattle.std.proofs.Common.{◌≡◌, drop}
use Rattle.fx_image.specs.Rules.{are_counted}
use Rattle.fx_image.proofs.gates.are_counted.Given as goal

abbrev pub invariant-loop-e : goal.invariant-loop-e
invariant-loop-e l = are_counted l.compartment l.number (drop l.e-index l.entries) ≡ are_counted 0 0 l.entries
