use Rattle.std.proofs.Common.{◌≡◌, drop}
use Rattle.std.specs.List.{list_any}
use Rattle.fx_image.specs.Rules.{same_pair}
use Rattle.fx_image.proofs.sections.is_taken.Given as goal

abbrev pub invariant-loop-s : goal.invariant-loop-s
invariant-loop-s l = list_any (same_pair l.pair) (drop l.s-index l.sections) ≡ list_any (same_pair l.pair) l.sections
