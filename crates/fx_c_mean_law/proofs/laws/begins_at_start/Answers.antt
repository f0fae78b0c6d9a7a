use Rattle.fx_c_mean_law.proofs.Reaching.{begins}
use Rattle.fx_c_mean_law.proofs.laws.begins_at_start.Goals as goal

pub returns : goal.returns
returns c = begins
