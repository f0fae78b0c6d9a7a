use Rattle.std.proofs.Common.{length, ◌-◌, ◌≡◌, ◌≤◌}
use Rattle.fx_early_source.specs.Reading.{digits}
use Rattle.fx_early_source.proofs.Fronts.{digits_behind}
use Rattle.fx_early_source.proofs.digit_count.Given as goal

abbrev pub invariant-loop-count : goal.invariant-loop-count
invariant-loop-count l = record { within : l.count ≤ length l.text; found : digits_behind l.count l.text ≡ digits l.text }

abbrev pub decreases-loop-count : goal.decreases-loop-count
decreases-loop-count l = length l.text - l.count
