use Rattle.std.proofs.Common.{◌≡◌, ℕ, ◌<◌, length, drop}
use Rattle.std.specs.Prelude.{slice_index}
use Rattle.fx_machine_model.specs.Boot.{object_byte}
use Rattle.fx_machine.specs.Filling.{over}
use Rattle.fx_machine.proofs.filling.put_objects.Given as goal

abbrev pub invariant-loop-i : goal.invariant-loop-i
invariant-loop-i l = (k : ℕ) → k < length l.bytes → slice_index l.bytes k ≡ over (object_byte (drop l.i l.objects)) l.start l.fn.bytes k
