use Rattle.std.proofs.Common.{◌≡◌, ◌++◌}
use Rattle.fx_cmd_show.specs.Words.{written_keys}
use Rattle.fx_cmd_show.proofs.lines.put_written_keys.Given as goal

abbrev pub invariant-loop-key : goal.invariant-loop-key
invariant-loop-key l = l.text ≡ l.fn.text ++ written_keys l.pkru l.key
