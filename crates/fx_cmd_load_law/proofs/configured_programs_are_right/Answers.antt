use Rattle.fx_cmd_load_law.proofs.Configured.{configured_right}
use Rattle.fx_cmd_load_law.proofs.configured_programs_are_right.Goals as goal

pub returns : goal.returns
returns c = configured_right
