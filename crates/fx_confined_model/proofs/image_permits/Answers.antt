use Rattle.fx_confined_model.proofs.Granting.{image_permits}
use Rattle.fx_confined_model.proofs.image_permits.Goals as goal

pub returns : goal.returns
returns c = image_permits
