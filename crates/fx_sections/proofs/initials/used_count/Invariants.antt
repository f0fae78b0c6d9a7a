use Rattle.std.proofs.Common.{◌≡◌, ◌≤◌, length, take}
use Rattle.fx_sections.specs.Initials.{used_bytes}
use Rattle.fx_sections.proofs.initials.used_count.Given as goal

abbrev pub invariant-loop-count : goal.invariant-loop-count
invariant-loop-count l = record {
  within : l.count ≤ length l.bytes;
  same : length (used_bytes (take l.count l.bytes)) ≡ length (used_bytes l.bytes);
}

abbrev pub decreases-loop-count : goal.decreases-loop-count
decreases-loop-count l = l.count
