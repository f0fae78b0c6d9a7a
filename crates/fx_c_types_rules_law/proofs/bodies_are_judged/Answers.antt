use Rattle.fx_c_types_rules_law.proofs.Judged.{bodies}
use Rattle.fx_c_types_rules_law.proofs.bodies_are_judged.Goals as goal

pub returns : goal.returns
returns c = bodies
