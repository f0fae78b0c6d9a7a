use Rattle.fx_confined_law.proofs.Machines.{obeys_under_ept}
use Rattle.fx_confined_law.proofs.obeys_under_ept.Goals as goal

pub returns : goal.returns
returns c = obeys_under_ept
