use Rattle.fx_c_types_refusals_law.proofs.Refused.{programs_refused}
use Rattle.fx_c_types_refusals_law.proofs.programs_are_refused.Goals as goal

pub returns : goal.returns
returns c = programs_refused
