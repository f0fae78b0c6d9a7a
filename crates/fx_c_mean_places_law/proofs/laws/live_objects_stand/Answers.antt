use Rattle.fx_c_mean_model.specs.Programs.{program_of}
use Rattle.fx_c_mean_model.specs.Expected.{state_at}
use Rattle.fx_c_mean_places_law.proofs.Standing.{kept_at, all_stand}
use Rattle.fx_c_mean_places_law.proofs.laws.live_objects_stand.Goals as goal

pub returns : goal.returns
returns c = λ p g k at is r answers steps go i o e live. all_stand p g k at is r (state_at (program_of p) r answers steps) (kept_at (program_of p) r answers steps) go i o e live
