use Rattle.std.proofs.Common.{◌≡◌, ◌≤◌, ◌++◌}
use Rattle.fx_templates.specs.Beginnings.{zero_words}
use Rattle.fx_templates.proofs.beginnings.put_zero_words.Given as goal

abbrev pub invariant-loop-n : goal.invariant-loop-n
invariant-loop-n l = record {
  few : l.n ≤ l.count;
  so_far : l.out.items ++ zero_words l.n ≡ l.fn.out.items ++ zero_words l.count;
}

abbrev pub decreases-loop-n : goal.decreases-loop-n
decreases-loop-n l = l.n
