use Rattle.fx_c_types_refusals_law.proofs.Statements.{statements_tried}
use Rattle.fx_c_types_refusals_law.proofs.statements_are_tried.Goals as goal

pub returns : goal.returns
returns c = statements_tried
