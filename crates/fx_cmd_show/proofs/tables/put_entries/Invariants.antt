use Rattle.std.proofs.Common.{◌≡◌, ◌++◌, drop}
use Rattle.fx_cmd_show.specs.Lists.{lines_of}
use Rattle.fx_cmd_show.specs.Lines.{entry_line}
use Rattle.fx_cmd_show.proofs.tables.put_entries.Given as goal

abbrev pub invariant-loop-entry : goal.invariant-loop-entry
invariant-loop-entry l = l.text ++ lines_of (entry_line l.comps) (drop l.entry-index l.entries) ≡ l.fn.text ++ lines_of (entry_line l.comps) l.entries
