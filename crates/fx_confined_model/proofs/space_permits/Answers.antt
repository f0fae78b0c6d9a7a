use Rattle.fx_confined_model.proofs.Spaces.{space_permits}
use Rattle.fx_confined_model.proofs.space_permits.Goals as goal

pub returns : goal.returns
returns c = space_permits
