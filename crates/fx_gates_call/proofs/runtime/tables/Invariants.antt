use Rattle.std.proofs.Common.{◌≡◌, ◌++◌, drop}
use Rattle.fx_gates_call.specs.Runtime.{tables_from}
use Rattle.fx_gates_call.proofs.runtime.tables.Given as goal

abbrev pub invariant-loop-c : goal.invariant-loop-c
invariant-loop-c l = l.found.items ++ tables_from l.scheduler l.c (drop l.c l.compartments) ≡ tables_from l.scheduler 0 l.compartments
