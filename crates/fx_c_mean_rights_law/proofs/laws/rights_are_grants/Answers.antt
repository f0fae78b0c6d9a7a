use Rattle.fx_c_mean_rights_law.proofs.Granted.{rights_are_grants}
use Rattle.fx_c_mean_rights_law.proofs.laws.rights_are_grants.Goals as goal

pub returns : goal.returns
returns c = rights_are_grants
