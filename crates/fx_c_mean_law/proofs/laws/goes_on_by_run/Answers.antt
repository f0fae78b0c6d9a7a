use Rattle.fx_c_mean_law.proofs.Reaching.{advances}
use Rattle.fx_c_mean_law.proofs.laws.goes_on_by_run.Goals as goal

pub returns : goal.returns
returns c = λ p r old new n spent budget answer walk h went. advances p r old n spent h new answer walk went budget
