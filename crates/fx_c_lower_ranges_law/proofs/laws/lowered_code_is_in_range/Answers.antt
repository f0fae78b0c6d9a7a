use Rattle.fx_c_lower_ranges_law.proofs.Law.{lowered_is_in_range}
use Rattle.fx_c_lower_ranges_law.proofs.laws.lowered_code_is_in_range.Goals as goal

pub returns : goal.returns
returns c = lowered_is_in_range
