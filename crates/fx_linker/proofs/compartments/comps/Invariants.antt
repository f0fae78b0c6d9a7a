use Rattle.std.proofs.Common.{◌≡◌, ◌++◌, drop}
use Rattle.fx_linker.specs.Data.{comps_from}
use Rattle.fx_linker.proofs.compartments.comps.Given as goal

abbrev pub invariant-loop-c : goal.invariant-loop-c
invariant-loop-c l = l.found.items ++ comps_from l.k l.sections l.starts l.c (drop l.c l.compartment-items) ≡ comps_from l.k l.sections l.starts 0 l.compartment-items
