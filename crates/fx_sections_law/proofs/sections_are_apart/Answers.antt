use Rattle.fx_sections.specs.Placement.{program_pairs, program_rooms}
use Rattle.fx_sections_law.proofs.Sections.{sections_apart}
use Rattle.fx_sections_law.proofs.sections_are_apart.Goals as goal

pub returns : goal.returns
returns c = λ p g k i j less within d e. sections_apart k.mechanism 0 65536 (program_pairs g k) (program_rooms p g k) i j d e less within
