use Rattle.fx_confined_law.proofs.Premises.{premises_are_met}
use Rattle.fx_confined_law.proofs.premises_are_met.Goals as goal

pub returns : goal.returns
returns c = premises_are_met
