use Rattle.std.proofs.Common.{◌≡◌, take}
use Rattle.fx_linker.proofs.linking.copied_entries.Given as goal

abbrev pub invariant-loop-entry : goal.invariant-loop-entry
invariant-loop-entry l = l.found.items ≡ take l.entry-index l.entries
