use Rattle.fx_sections_law.proofs.Granules.{unshared}
use Rattle.fx_sections_law.proofs.granules_are_unshared.Goals as goal

pub returns : goal.returns
returns c = λ p g k at has is. unshared p g k at has is
