use Rattle.fx_templates_quiet_law.proofs.Beginnings.{beginnings_quiet}
use Rattle.fx_templates_quiet_law.proofs.beginnings_are_quiet.Goals as goal

pub returns : goal.returns
returns c = beginnings_quiet
