use Rattle.fx_built_parts_law.proofs.Whole.{whole}
use Rattle.fx_built_parts_law.proofs.parts_are_whole.Goals as goal

pub returns : goal.returns
returns c = whole
