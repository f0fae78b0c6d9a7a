use Rattle.std.proofs.Common.{◌≡◌, ℕ, ◌-◌, ◌<◌, length}
use Rattle.std.specs.Prelude.{◌&&◌, nat_le, nat_lt, if◌then◌else◌, slice_index}
use Rattle.fx_machine.proofs.filling.copy_to.Given as goal

abbrev pub invariant-loop-i : goal.invariant-loop-i
invariant-loop-i l =
    (k : ℕ) → k < length l.bytes → slice_index l.bytes k ≡ (if nat_le l.at k && nat_lt (k - l.at) l.i then slice_index l.text (k - l.at) else slice_index l.fn.bytes k)
