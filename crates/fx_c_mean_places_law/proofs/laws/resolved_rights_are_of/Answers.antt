use Rattle.fx_c_mean_places_law.proofs.Resolved.{rights_are_of}
use Rattle.fx_c_mean_places_law.proofs.laws.resolved_rights_are_of.Goals as goal

pub returns : goal.returns
returns c = rights_are_of
