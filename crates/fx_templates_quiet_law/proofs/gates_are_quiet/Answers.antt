use Rattle.fx_templates_quiet_law.proofs.Gates.{gates_quiet}
use Rattle.fx_templates_quiet_law.proofs.gates_are_quiet.Goals as goal

pub returns : goal.returns
returns c = gates_quiet
