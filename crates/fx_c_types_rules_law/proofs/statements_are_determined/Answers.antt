use Rattle.fx_c_types_rules_law.proofs.Judged.{one_statement}
use Rattle.fx_c_types_rules_law.proofs.statements_are_determined.Goals as goal

pub returns : goal.returns
returns c = one_statement
