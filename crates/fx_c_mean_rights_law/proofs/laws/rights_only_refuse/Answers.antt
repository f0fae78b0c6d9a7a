use Rattle.fx_c_mean_rights_law.proofs.Runs.{only_refuse}
use Rattle.fx_c_mean_rights_law.proofs.laws.rights_only_refuse.Goals as goal

pub returns : goal.returns
returns c = only_refuse
