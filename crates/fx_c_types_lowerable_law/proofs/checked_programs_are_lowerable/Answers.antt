use Rattle.fx_c_types_lowerable_law.proofs.Lowerable.{lowerable}
use Rattle.fx_c_types_lowerable_law.proofs.checked_programs_are_lowerable.Goals as goal

pub returns : goal.returns
returns c = lowerable
