use Rattle.fx_c_mean_rights_law.proofs.Alike.{change_little}
use Rattle.fx_c_mean_rights_law.proofs.laws.rights_change_little.Goals as goal

pub returns : goal.returns
returns c = change_little
