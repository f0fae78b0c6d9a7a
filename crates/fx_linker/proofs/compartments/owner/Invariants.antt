use Rattle.std.proofs.Common.{◌≡◌, drop}
use Rattle.fx_linker.specs.Data.{owner_from}
use Rattle.fx_linker.proofs.compartments.owner.Given as goal

abbrev pub invariant-loop-c : goal.invariant-loop-c
invariant-loop-c l = owner_from l.device l.c (drop l.c l.compartments) ≡ owner_from l.device 0 l.compartments
