use Rattle.std.proofs.Common.{◌≡◌, ◌≤◌, length, take}
use Rattle.fx_sections.specs.Initials.{used_bytes}
use Rattle.fx_linker.proofs.objects.used.Given as goal

abbrev pub invariant-loop-count : goal.invariant-loop-count
invariant-loop-count l = record {
  within : l.count ≤ length l.bytes;
  same : used_bytes (take l.count l.bytes) ≡ used_bytes l.bytes;
}

abbrev pub decreases-loop-count : goal.decreases-loop-count
decreases-loop-count l = l.count
