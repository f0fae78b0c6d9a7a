use Rattle.std.proofs.Common.{◌≡◌, ◌++◌, drop}
use Rattle.fx_cmd_show.specs.Lists.{lines_of}
use Rattle.fx_cmd_show.specs.Lines.{stub_line}
use Rattle.fx_cmd_show.proofs.tables.put_stubs.Given as goal

abbrev pub invariant-loop-stub : goal.invariant-loop-stub
invariant-loop-stub l = l.text ++ lines_of (stub_line l.comps) (drop l.stub-index l.stubs) ≡ l.fn.text ++ lines_of (stub_line l.comps) l.stubs
