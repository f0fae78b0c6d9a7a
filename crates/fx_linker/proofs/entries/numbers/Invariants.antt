use Rattle.std.proofs.Common.{◌≡◌, ◌++◌, drop}
use Rattle.fx_linker.specs.Entries.{homes, numbers_from}
use Rattle.fx_linker.proofs.entries.numbers.Given as goal

abbrev pub invariant-loop-i : goal.invariant-loop-i
invariant-loop-i l = l.found.items ++ numbers_from l.main l.next (homes l.spots) l.i (drop l.i l.functions) ≡ numbers_from l.main l.fn.next (homes l.spots) 0 l.functions
