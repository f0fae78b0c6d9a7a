use Rattle.std.proofs.Common.{rules, append_assoc}
use Rattle.std.proofs.lemmas.Result.{IfOk-equal}
use Rattle.fx_cmd_show.specs.Lines.{device_line}
use Rattle.fx_cmd_show.proofs.tables.put_device.Goals as goal

pub returns : goal.returns
unfolding device_line
returns c = search (rules, IfOk-equal, append_assoc)
