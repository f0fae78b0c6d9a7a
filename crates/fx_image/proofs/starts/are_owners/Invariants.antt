use Rattle.std.proofs.Common.{◌≡◌, drop}
use Rattle.fx_image.specs.Rules.{are_owners}
use Rattle.fx_image.proofs.starts.are_owners.Given as goal

abbrev pub invariant-loop-c : goal.invariant-loop-c
invariant-loop-c l = are_owners l.n (drop l.c-index l.owners) ≡ are_owners l.n l.owners
