use Rattle.fx_c_mean.proofs.Merged.{same_merged}
use Rattle.fx_c_mean.proofs.laws.merged_rights_are_grants.Goals as goal

pub returns : goal.returns
returns c = same_merged
