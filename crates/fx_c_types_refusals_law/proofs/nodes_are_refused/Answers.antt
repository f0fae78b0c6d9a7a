use Rattle.fx_c_types_refusals_law.proofs.Nodes.{nodes_refused}
use Rattle.fx_c_types_refusals_law.proofs.nodes_are_refused.Goals as goal

pub returns : goal.returns
returns c = nodes_refused
