use Rattle.fx_c_types_refusals_law.proofs.Nodes.{locals_refused}
use Rattle.fx_c_types_refusals_law.proofs.locals_are_refused.Goals as goal

pub returns : goal.returns
returns c = locals_refused
