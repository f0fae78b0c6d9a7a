use Rattle.std.proofs.Common.{rules, append_assoc}
use Rattle.std.proofs.lemmas.Result.{IfOk-equal}
use Rattle.fx_cmd_show.specs.Lines.{roles_line}
use Rattle.fx_cmd_show.proofs.lines.put_roles.Goals as goal

pub returns : goal.returns
unfolding roles_line
returns c = search (rules, IfOk-equal, append_assoc)
