use Rattle.std.proofs.Common.{◌≡◌, take}
use Rattle.fx_image.proofs.migration.copy_entries.Given as goal

abbrev pub invariant-loop-e : goal.invariant-loop-e
invariant-loop-e l = l.copies.items ≡ take l.e-index l.entries
