use Rattle.fx_c_mean_model.specs.Steps.{extra, first_state}
use Rattle.fx_c_mean_model.specs.Expected.{run_step}
use Rattle.fx_c_mean_model.proofs.Growing.{grows}
use Rattle.fx_c_mean_model.proofs.laws.more_cost_makes_more.Goals as goal

pub returns : goal.returns
returns c = λ p r answers k j le. grows (run_step p r) (λ x. extra p x.state) k j (extra p (first_state p)) (record { state = first_state p; answers = answers }) le
