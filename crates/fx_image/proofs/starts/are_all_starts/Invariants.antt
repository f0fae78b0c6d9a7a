use Rattle.std.proofs.Common.{◌≡◌, drop}
use Rattle.std.specs.List.{list_all}
use Rattle.fx_image.specs.Rules.{is_start}
use Rattle.fx_image.proofs.starts.are_all_starts.Given as goal

abbrev pub invariant-loop-s : goal.invariant-loop-s
invariant-loop-s l = list_all (is_start l.i) (drop l.s-index l.starts) ≡ list_all (is_start l.i) l.starts
