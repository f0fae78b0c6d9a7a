use Rattle.fx_c_types_rules_law.proofs.Judged.{statements}
use Rattle.fx_c_types_rules_law.proofs.statements_are_judged.Goals as goal

pub returns : goal.returns
returns c = statements
