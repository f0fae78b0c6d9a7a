use Rattle.fx_c_lower_law.proofs.Law.{lowering}
use Rattle.fx_c_lower_law.proofs.laws.lowering_is_correct.Goals as goal

pub returns : goal.returns
returns c = lowering
