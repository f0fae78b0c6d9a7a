use Rattle.fx_sections_law.proofs.Keeps.{keeps}
use Rattle.fx_sections_law.proofs.placements_keep_the_law.Goals as goal

pub returns : goal.returns
returns c = λ p g k at has is. keeps p g k at has is
