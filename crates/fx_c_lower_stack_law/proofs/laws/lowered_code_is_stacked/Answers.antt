use Rattle.fx_c_lower_stack_law.proofs.Law.{lowered_is_stacked}
use Rattle.fx_c_lower_stack_law.proofs.laws.lowered_code_is_stacked.Goals as goal

pub returns : goal.returns
returns c = lowered_is_stacked
