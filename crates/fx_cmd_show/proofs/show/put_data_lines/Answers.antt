use Rattle.std.proofs.Common.{rules, append_assoc}
use Rattle.std.proofs.lemmas.Result.{IfOk-equal}
use Rattle.fx_cmd_show.specs.Text.{data_lines}
use Rattle.fx_cmd_show.proofs.show.put_data_lines.Goals as goal

pub returns : goal.returns
unfolding data_lines
returns c = search (rules, IfOk-equal, append_assoc)
