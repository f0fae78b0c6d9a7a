use Rattle.fx_c_mean_model.proofs.Writing.{by_access}
use Rattle.fx_c_mean_model.proofs.laws.one_access.Goals as goal

pub returns : goal.returns
returns c = λ p r answer s no. by_access p r answer s s.spot no
