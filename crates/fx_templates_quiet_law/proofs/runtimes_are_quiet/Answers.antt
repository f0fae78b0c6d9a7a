use Rattle.fx_templates_quiet_law.proofs.Gates.{runtimes_quiet}
use Rattle.fx_templates_quiet_law.proofs.runtimes_are_quiet.Goals as goal

pub returns : goal.returns
returns c = runtimes_quiet
