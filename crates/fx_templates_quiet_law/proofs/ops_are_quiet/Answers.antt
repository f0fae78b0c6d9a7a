use Rattle.fx_templates_quiet_law.proofs.Ops.{ops_quiet}
use Rattle.fx_templates_quiet_law.proofs.ops_are_quiet.Goals as goal

pub returns : goal.returns
returns c = ops_quiet
