use Rattle.fx_c_types_rules_law.proofs.Judged.{expressions}
use Rattle.fx_c_types_rules_law.proofs.expressions_are_judged.Goals as goal

pub returns : goal.returns
returns c = expressions
