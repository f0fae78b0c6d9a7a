use Rattle.fx_c_types_rules_law.proofs.JudgedPrograms.{programs}
use Rattle.fx_c_types_rules_law.proofs.programs_are_judged.Goals as goal

pub returns : goal.returns
returns c = programs
