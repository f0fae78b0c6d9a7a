use Rattle.fx_linker_law.proofs.Image.{linked}
use Rattle.fx_linker_law.proofs.linked_are_images.Goals as goal

pub returns : goal.returns
returns c = linked
