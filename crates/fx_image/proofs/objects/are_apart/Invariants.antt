use Rattle.std.proofs.Common.{◌≡◌, drop}
use Rattle.fx_image.specs.Rules.{are_apart}
use Rattle.fx_image.proofs.objects.are_apart.Given as goal

abbrev pub invariant-loop-o : goal.invariant-loop-o
invariant-loop-o l = are_apart l.least (drop l.o-index l.objects) ≡ are_apart 0 l.objects
