use Rattle.fx_sections_law.proofs.Differ.{pairs_distinct}
use Rattle.fx_sections_law.proofs.pairs_differ.Goals as goal

pub returns : goal.returns
returns c = λ n globals i j less within d e. pairs_distinct n globals i j d e less within
