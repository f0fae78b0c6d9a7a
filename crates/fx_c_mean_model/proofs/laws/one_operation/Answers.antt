use Rattle.fx_c_mean_model.specs.Laws.{IsOneOperation}
use Rattle.fx_c_mean_model.proofs.Every.{every_step}
use Rattle.fx_c_mean_model.proofs.Denials.{one_made}
use Rattle.fx_c_mean_model.proofs.laws.one_operation.Goals as goal

pub returns : goal.returns
returns c = λ p r answer s. every_step p r IsOneOperation (one_made p r) answer s
