use Rattle.fx_cmd_load_law.proofs.Configured.{configured_fit}
use Rattle.fx_cmd_load_law.proofs.configured_programs_fit.Goals as goal

pub returns : goal.returns
returns c = configured_fit
