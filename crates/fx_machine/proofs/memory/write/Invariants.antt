use Rattle.std.proofs.Common.{◌≡◌, ℕ, ◌/◌, ◌^◌}
use Rattle.std.specs.Prelude.{slice_index}
use Rattle.fx_cpu.specs.Flat.{written, bytes_of}
use Rattle.fx_machine.proofs.memory.write.Given as goal

abbrev pub invariant-loop-i : goal.invariant-loop-i
invariant-loop-i l = (l.rest ≡ l.value / 256 ^ l.i) × ((k : ℕ) → slice_index l.bytes k ≡ written (bytes_of l.fn.bytes) l.i l.at l.value k)
