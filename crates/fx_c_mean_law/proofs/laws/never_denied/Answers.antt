use Rattle.fx_c_mean_model.specs.Steps.{extra, first_state}
use Rattle.fx_c_mean_law.proofs.Reaching.{undenied, unguarded_free}
use Rattle.fx_c_mean_law.proofs.laws.never_denied.Goals as goal

pub returns : goal.returns
returns c = λ p r answers k g. undenied p r (unguarded_free p r g) k (extra p (first_state p)) (record { state = first_state p; answers = answers })
