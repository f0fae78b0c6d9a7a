use Rattle.fx_c_types_rules_law.proofs.Judged.{one_tree}
use Rattle.fx_c_types_rules_law.proofs.expressions_are_determined.Goals as goal

pub returns : goal.returns
returns c = one_tree
