use Rattle.fx_c_lower_fits_law.proofs.Programs.{programs_fit}
use Rattle.fx_c_lower_fits_law.proofs.laws.lowerable_programs_fit.Goals as goal

pub returns : goal.returns
returns c = programs_fit
