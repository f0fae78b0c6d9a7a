use Rattle.std.proofs.Common.{rules, append_assoc}
use Rattle.std.proofs.lemmas.Result.{IfOk-equal}
use Rattle.fx_cmd_show.specs.Lines.{mechanism_line}
use Rattle.fx_cmd_show.proofs.lines.put_mechanism.Goals as goal

pub returns : goal.returns
unfolding mechanism_line
returns c = search (rules, IfOk-equal, append_assoc)
