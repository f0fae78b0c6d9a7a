use Rattle.fx_c_types_refusals_law.proofs.Refused.{none_meant}
use Rattle.fx_c_types_refusals_law.proofs.refused_where_none_is_meant.Goals as goal

pub returns : goal.returns
returns c = none_meant
