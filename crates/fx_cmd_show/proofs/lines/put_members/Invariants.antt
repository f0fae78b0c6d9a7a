use Rattle.std.proofs.Common.{◌≡◌, ◌++◌, drop}
use Rattle.fx_cmd_show.specs.Lists.{each_line}
use Rattle.fx_cmd_show.specs.Words.{member_word}
use Rattle.fx_cmd_show.proofs.lines.put_members.Given as goal

abbrev pub invariant-loop-number : goal.invariant-loop-number
invariant-loop-number l = l.text ++ each_line (member_word l.set) l.number (drop l.number l.comps) ≡ l.fn.text ++ each_line (member_word l.set) 0 l.comps
