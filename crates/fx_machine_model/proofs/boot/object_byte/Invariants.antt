use Rattle.std.proofs.Common.{◌≡◌, drop}
use Rattle.fx_machine_model.specs.Boot.{object_byte}
use Rattle.fx_machine_model.proofs.boot.object_byte.Given as goal

abbrev pub invariant-loop-object : goal.invariant-loop-object
invariant-loop-object l = object_byte l.objects l.address ≡ object_byte (drop l.object-index l.objects) l.address
