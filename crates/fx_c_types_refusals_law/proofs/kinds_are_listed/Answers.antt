use Rattle.fx_c_types_refusals_law.proofs.Listed.{listed}
use Rattle.fx_c_types_refusals_law.proofs.kinds_are_listed.Goals as goal

pub returns : goal.returns
returns c = listed
