use Rattle.std.proofs.Common.{◌≡◌, ◌≤◌, ◌-◌, length}
use Rattle.fx_early_source.specs.Reading.{puts}
use Rattle.fx_early_source.proofs.Statements.{behind}
use Rattle.fx_early_source.proofs.puts.Given as goal

-- the constants so far, and those of the rest, are all
abbrev pub invariant-loop-rest : goal.invariant-loop-rest
invariant-loop-rest l = record {
  few : length l.constants.items ≤ 1000;
  read : behind l.constants.items (puts (1000 - length l.constants.items) l.rest) ≡ puts 1000 l.text;
}

abbrev pub decreases-loop-rest : goal.decreases-loop-rest
decreases-loop-rest l = 1000 - length l.constants.items
