use Rattle.fx_c_types_rules_law.proofs.JudgedPrograms.{one_program}
use Rattle.fx_c_types_rules_law.proofs.programs_are_determined.Goals as goal

pub returns : goal.returns
returns c = one_program
