use Rattle.fx_c_types_refusals_law.proofs.Nodes.{expressions_tried}
use Rattle.fx_c_types_refusals_law.proofs.expressions_are_tried.Goals as goal

pub returns : goal.returns
returns c = expressions_tried
