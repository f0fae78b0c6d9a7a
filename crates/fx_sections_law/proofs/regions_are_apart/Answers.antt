use Rattle.fx_sections_law.proofs.Bounds.{section_within, literal_within}
use Rattle.fx_sections_law.proofs.regions_are_apart.Goals as goal

pub returns : goal.returns
returns c = λ p g k at has is. ((λ i less d. section_within p g k at has is i less d), λ i less. literal_within p g k at is i less)
