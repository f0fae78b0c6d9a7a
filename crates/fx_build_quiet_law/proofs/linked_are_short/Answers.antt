use Rattle.fx_build_quiet_law.proofs.Short.{short}
use Rattle.fx_build_quiet_law.proofs.linked_are_short.Goals as goal

pub returns : goal.returns
returns c = short
