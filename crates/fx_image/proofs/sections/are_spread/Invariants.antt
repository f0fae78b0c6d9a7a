use Rattle.std.proofs.Common.{◌≡◌, drop}
use Rattle.fx_image.specs.Rules.{are_spread}
use Rattle.fx_image.proofs.sections.are_spread.Given as goal

abbrev pub invariant-loop-s : goal.invariant-loop-s
invariant-loop-s l = are_spread l.page (drop l.s-index l.sections) ≡ are_spread 0x10000 l.sections
