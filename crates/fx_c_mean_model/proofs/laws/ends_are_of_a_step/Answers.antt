use Rattle.fx_c_mean_model.proofs.Ending.{of_a_step}
use Rattle.fx_c_mean_model.proofs.laws.ends_are_of_a_step.Goals as goal

pub returns : goal.returns
returns c = of_a_step
