use Rattle.fx_early_image.proofs.Law.{images_are_faithful}
use Rattle.fx_early_image.proofs.laws.images_are_faithful.Goals as goal

pub returns : goal.returns
returns c = images_are_faithful
