use Rattle.std.proofs.Common.{◌≡◌}
use Rattle.fx_sections.specs.Pairs.{private_pairs}
use Rattle.fx_sections.proofs.pairs.private_pairs.Given as goal

abbrev pub invariant-loop-c : goal.invariant-loop-c
invariant-loop-c l = l.pairs.keys ≡ private_pairs l.c
