use Rattle.fx_c_mean_rights_law.proofs.Granted.{merged}
use Rattle.fx_c_mean_rights_law.proofs.laws.merged_rights_are_merged.Goals as goal

pub returns : goal.returns
returns c = merged
