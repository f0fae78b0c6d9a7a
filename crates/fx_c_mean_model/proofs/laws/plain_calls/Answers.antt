use Rattle.std.proofs.Common.{true, false}
use Rattle.fx_c_mean_model.specs.Laws.{IsNotDenied}
use Rattle.fx_c_mean_model.proofs.Every.{every_step}
use Rattle.fx_c_mean_model.proofs.Denials.{none_denied, plain}
use Rattle.fx_c_mean_model.proofs.laws.plain_calls.Goals as goal

pub returns : goal.returns
returns c = λ p r answer s g. every_step p r IsNotDenied (none_denied p r (λ t place. plain p r _ place false g (λ h. cc)) (λ t place l. plain p r _ place true g (λ h. l))) answer s
