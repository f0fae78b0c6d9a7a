use Rattle.std.proofs.Common.{◌≡◌, ◌++◌, drop}
use Rattle.fx_cmd_show.specs.Lists.{each_line}
use Rattle.fx_cmd_show.specs.Lines.{compartment_line}
use Rattle.fx_cmd_show.proofs.tables.put_compartments.Given as goal

abbrev pub invariant-loop-number : goal.invariant-loop-number
invariant-loop-number l = l.text ++ each_line (compartment_line l.mechanism) l.number (drop l.number l.comps) ≡ l.fn.text ++ each_line (compartment_line l.mechanism) 0 l.comps
