use Rattle.fx_c_mean_model.proofs.Accesses.{denies_access}
use Rattle.fx_c_mean_model.proofs.laws.denials_are_accesses.Goals as goal

pub returns : goal.returns
returns c = denies_access
