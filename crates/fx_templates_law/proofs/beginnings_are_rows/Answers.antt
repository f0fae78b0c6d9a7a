use Rattle.fx_templates_law.proofs.Rows.{pieces_of_enter_rows}
use Rattle.fx_templates_law.proofs.beginnings_are_rows.Goals as goal

pub returns : goal.returns
returns c = λ a compartment function here. pieces_of_enter_rows a compartment function here
