use Rattle.std.proofs.Common.{◌≡◌, drop}
use Rattle.fx_sections.specs.Pairs.{add_pairs, pairs_of}
use Rattle.fx_sections.proofs.pairs.section_pairs.Given as goal

abbrev pub invariant-loop-pair : goal.invariant-loop-pair
invariant-loop-pair l = add_pairs l.pairs.keys (drop l.pair-index l.globals) ≡ pairs_of l.n l.globals
