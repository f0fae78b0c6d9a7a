use Rattle.std.proofs.Common.{◌≡◌, ◌++◌, drop}
use Rattle.fx_linker.specs.Tables.{records_from}
use Rattle.fx_linker.proofs.tables.put_records.Given as goal

abbrev pub invariant-loop-number : goal.invariant-loop-number
invariant-loop-number l = l.out.items ++ records_from l.p l.k l.compartment l.number (drop l.number l.entries) ≡ l.fn.out.items ++ records_from l.p l.k l.compartment 0 l.entries
