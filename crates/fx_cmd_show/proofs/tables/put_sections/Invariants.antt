use Rattle.std.proofs.Common.{◌≡◌, ◌++◌, drop}
use Rattle.fx_cmd_show.specs.Lists.{each_line}
use Rattle.fx_cmd_show.specs.Lines.{section_line}
use Rattle.fx_cmd_show.proofs.tables.put_sections.Given as goal

abbrev pub invariant-loop-number : goal.invariant-loop-number
invariant-loop-number l = l.text ++ each_line (section_line l.comps) l.number (drop l.number l.sections) ≡ l.fn.text ++ each_line (section_line l.comps) 0 l.sections
