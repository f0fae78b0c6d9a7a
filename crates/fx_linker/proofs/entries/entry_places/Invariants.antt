use Rattle.std.proofs.Common.{◌≡◌, ◌++◌, drop}
use Rattle.fx_linker.specs.Entries.{entry_places}
use Rattle.fx_linker.proofs.entries.entry_places.Given as goal

abbrev pub invariant-loop-i : goal.invariant-loop-i
invariant-loop-i l = l.places.items ++ entry_places l.at l.numbers l.i (drop l.i l.spots) ≡ entry_places l.at l.numbers 0 l.spots
