use Rattle.fx_c_mean_law.proofs.Reaching.{comes}
use Rattle.fx_c_mean_law.proofs.laws.ends_by_run.Goals as goal

pub returns : goal.returns
returns c = λ p r old new n spent walk h ends. comes p r old n spent h new walk ends
