use Rattle.fx_c_types_refusals_law.proofs.Statements.{single_rules}
use Rattle.fx_c_types_refusals_law.proofs.single_rules_are_tried.Goals as goal

pub returns : goal.returns
returns c = single_rules
