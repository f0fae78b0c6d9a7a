use Rattle.std.proofs.Common.{◌≡◌, ◌++◌}
use Rattle.fx_cmd_show.specs.Words.{read_keys}
use Rattle.fx_cmd_show.proofs.lines.put_read_keys.Given as goal

abbrev pub invariant-loop-key : goal.invariant-loop-key
invariant-loop-key l = l.text ≡ l.fn.text ++ read_keys l.pkru l.key
