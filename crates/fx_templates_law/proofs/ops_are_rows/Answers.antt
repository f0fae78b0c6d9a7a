use Rattle.fx_templates_law.proofs.Rows.{pieces_of_rows}
use Rattle.fx_templates_law.proofs.ops_are_rows.Goals as goal

pub returns : goal.returns
returns c = λ a function here label count o. pieces_of_rows a function here label count o
