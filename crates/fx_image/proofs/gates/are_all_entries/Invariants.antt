use Rattle.std.proofs.Common.{◌≡◌, drop}
use Rattle.std.specs.List.{list_all}
use Rattle.fx_image.specs.Rules.{is_entry}
use Rattle.fx_image.proofs.gates.are_all_entries.Given as goal

abbrev pub invariant-loop-e : goal.invariant-loop-e
invariant-loop-e l = list_all (is_entry l.comps) (drop l.e-index l.entries) ≡ list_all (is_entry l.comps) l.entries
