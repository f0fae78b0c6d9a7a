use Rattle.std.proofs.Common.{◌≡◌, ◌++◌, drop}
use Rattle.fx_cmd_show.specs.Lists.{each_line}
use Rattle.fx_cmd_show.specs.Lines.{start_line}
use Rattle.fx_cmd_show.proofs.tables.put_starts.Given as goal

abbrev pub invariant-loop-vcpu : goal.invariant-loop-vcpu
invariant-loop-vcpu l = l.text ++ each_line start_line l.vcpu (drop l.vcpu l.starts) ≡ l.fn.text ++ each_line start_line 0 l.starts
