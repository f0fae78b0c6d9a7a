use Rattle.std.proofs.Common.{◌≡◌, ℕ}
use Rattle.fx_image.specs.declared.forms.Image.{Image}
use Rattle.fx_machine.specs.Memory.{memory_of, is_held, IsLaidOut}
use Rattle.fx_machine_model.proofs.Writing.{partly}
use Rattle.fx_machine.proofs.memory.Memory.store_bytes.Given as goal

abbrev pub invariant-loop-i : goal.invariant-loop-i
invariant-loop-i l = record {
  held : (k : ℕ) → is_held l.self k ≡ is_held l.fn.self k;
  laid : (image : Image) → IsLaidOut image l.fn.self → IsLaidOut image l.self;
  bytes : (image : Image) (k : ℕ) → memory_of image l.self k ≡ partly (memory_of image l.fn.self) l.address l.value l.i k;
}
