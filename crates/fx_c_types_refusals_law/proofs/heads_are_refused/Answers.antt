use Rattle.fx_c_types_refusals_law.proofs.Heads.{head_refused}
use Rattle.fx_c_types_refusals_law.proofs.heads_are_refused.Goals as goal

pub returns : goal.returns
returns c = head_refused
