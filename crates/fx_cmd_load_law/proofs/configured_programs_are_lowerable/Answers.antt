use Rattle.fx_cmd_load_law.proofs.Configured.{configured_lowerable}
use Rattle.fx_cmd_load_law.proofs.configured_programs_are_lowerable.Goals as goal

pub returns : goal.returns
returns c = configured_lowerable
