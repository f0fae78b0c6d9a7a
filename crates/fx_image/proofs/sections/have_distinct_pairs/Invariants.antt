use Rattle.std.proofs.Common.{◌≡◌, drop}
use Rattle.fx_image.specs.Rules.{is_distinct_by, same_pair}
use Rattle.fx_image.proofs.sections.have_distinct_pairs.Given as goal

abbrev pub invariant-loop-k : goal.invariant-loop-k
invariant-loop-k l = is_distinct_by same_pair (drop l.k l.sections) ≡ is_distinct_by same_pair l.sections
