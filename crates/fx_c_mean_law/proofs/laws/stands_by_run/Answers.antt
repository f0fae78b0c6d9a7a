use Rattle.fx_c_mean_law.proofs.Reaching.{stands}
use Rattle.fx_c_mean_law.proofs.laws.stands_by_run.Goals as goal

pub returns : goal.returns
returns c = λ p r run n spent h. stands p r run n spent h
