use Rattle.std.proofs.Common.{◌≡◌, drop}
use Rattle.std.specs.List.{list_all}
use Rattle.fx_image.specs.Rules.{is_stub}
use Rattle.fx_image.proofs.gates.are_all_stubs.Given as goal

abbrev pub invariant-loop-s : goal.invariant-loop-s
invariant-loop-s l = list_all (is_stub l.comps l.code l.entries) (drop l.s-index l.stubs) ≡ list_all (is_stub l.comps l.code l.entries) l.stubs
