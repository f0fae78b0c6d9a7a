use Rattle.fx_confined_law.proofs.Obeys.{obeys_under_keys}
use Rattle.fx_confined_law.proofs.obeys_under_keys.Goals as goal

pub returns : goal.returns
returns c = obeys_under_keys
