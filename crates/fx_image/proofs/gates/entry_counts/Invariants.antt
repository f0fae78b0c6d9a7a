use Rattle.std.proofs.Common.{◌≡◌, ℕ, ◌<◌, get_or, take}
use Rattle.fx_image.specs.Rules.{entry_count}
use Rattle.fx_image.proofs.gates.entry_counts.Given as goal

abbrev pub invariant-loop-e : goal.invariant-loop-e
invariant-loop-e l = (c : ℕ) → c < 16 → get_or l.counts c 0 ≡ entry_count (take l.e-index l.entries) c
