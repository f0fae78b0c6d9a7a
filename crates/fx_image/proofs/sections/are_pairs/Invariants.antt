use Rattle.std.proofs.Common.{◌≡◌, drop}
use Rattle.std.specs.List.{list_all}
use Rattle.fx_image.specs.Rules.{is_pair}
use Rattle.fx_image.proofs.sections.are_pairs.Given as goal

abbrev pub invariant-loop-s : goal.invariant-loop-s
invariant-loop-s l = list_all (is_pair l.version l.n) (drop l.s-index l.sections) ≡ list_all (is_pair l.version l.n) l.sections
