use Rattle.std.proofs.Common.{◌≡◌, drop}
use Rattle.fx_image.specs.Layout.{object_from}
use Rattle.fx_image.proofs.find.object_in.Given as goal

abbrev pub invariant-loop-number : goal.invariant-loop-number
invariant-loop-number l = object_from l.number l.address (drop l.number l.objects) l.other ≡ object_from 0 l.address l.objects l.other
