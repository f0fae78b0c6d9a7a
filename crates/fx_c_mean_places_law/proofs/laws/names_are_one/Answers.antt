use Rattle.fx_c_mean_places_law.proofs.Ends.{names_one}
use Rattle.fx_c_mean_places_law.proofs.laws.names_are_one.Goals as goal

pub returns : goal.returns
returns c = names_one
