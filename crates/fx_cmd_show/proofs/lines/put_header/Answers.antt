use Rattle.std.proofs.Common.{rules, append_assoc}
use Rattle.std.proofs.lemmas.Result.{IfOk-equal}
use Rattle.fx_cmd_show.specs.Lines.{header}
use Rattle.fx_cmd_show.proofs.lines.put_header.Goals as goal

pub returns : goal.returns
unfolding header
returns c = search (rules, IfOk-equal, append_assoc)
