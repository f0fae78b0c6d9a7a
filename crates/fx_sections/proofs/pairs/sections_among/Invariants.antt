use Rattle.std.proofs.Common.{◌≡◌, map, take}
use Rattle.fx_sections.specs.Pairs.{section_of}
use Rattle.fx_sections.proofs.pairs.sections_among.Given as goal

abbrev pub invariant-loop-pair : goal.invariant-loop-pair
invariant-loop-pair l = l.found.items ≡ map (section_of l.pairs.keys) (take l.pair-index l.of)
