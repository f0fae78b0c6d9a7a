use Rattle.std.proofs.Common.{◌≡◌, ◌++◌, drop}
use Rattle.fx_linker.specs.Entries.{homes}
use Rattle.fx_linker.specs.Tables.{others_from}
use Rattle.fx_linker.proofs.tables.put_others.Given as goal

abbrev pub invariant-loop-f : goal.invariant-loop-f
invariant-loop-f l = l.out.items ++ others_from l.p.main (homes l.spots) l.compartment l.f (drop l.f l.x-items) ≡ l.fn.out.items ++ others_from l.p.main (homes l.spots) l.compartment 0 l.x-items
