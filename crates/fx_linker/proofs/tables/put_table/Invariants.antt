use Rattle.std.proofs.Common.{◌≡◌, ◌++◌, take}
use Rattle.fx_linker.specs.Tables.{table_pieces}
use Rattle.fx_linker.proofs.tables.put_table.Given as goal

abbrev pub invariant-loop-function : goal.invariant-loop-function
invariant-loop-function l = l.out.items ≡ l.fn.out.items ++ table_pieces (take l.function-index l.entries)
