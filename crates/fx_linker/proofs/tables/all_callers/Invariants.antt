use Rattle.std.proofs.Common.{◌≡◌, drop}
use Rattle.fx_linker.specs.Tables.{callers_from}
use Rattle.fx_linker.proofs.tables.all_callers.Given as goal

abbrev pub invariant-loop-c : goal.invariant-loop-c
invariant-loop-c l = callers_from l.name l.set l.c (drop l.c l.x-items) ≡ callers_from l.name 0 0 l.x-items
