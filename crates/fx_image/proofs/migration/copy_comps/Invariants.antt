use Rattle.std.proofs.Common.{◌≡◌, take}
use Rattle.fx_image.proofs.migration.copy_comps.Given as goal

abbrev pub invariant-loop-c : goal.invariant-loop-c
invariant-loop-c l = l.copies.items ≡ take l.c-index l.comps
