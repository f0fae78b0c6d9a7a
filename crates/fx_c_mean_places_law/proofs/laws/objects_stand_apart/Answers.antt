use Rattle.fx_c_mean_model.specs.Programs.{program_of}
use Rattle.fx_c_mean_model.specs.Expected.{state_at}
use Rattle.fx_c_mean_places_law.proofs.Standing.{kept_at, all_apart, one_byte}
use Rattle.fx_c_mean_places_law.proofs.laws.objects_stand_apart.Goals as goal

pub returns-clause-apart : goal.returns-clause-apart
returns-clause-apart c = λ p g k at is r own answers steps i j other o u a b e f h q.
    all_apart p g k at is r own (state_at (program_of p) r answers steps) (kept_at (program_of p) r answers steps) i j other o u a b e f h q

pub returns-clause-bytes : goal.returns-clause-bytes
returns-clause-bytes c = λ p g k at is r own answers steps i j m n o u a b e f h q l w same.
    one_byte p g k at is r own (state_at (program_of p) r answers steps) (kept_at (program_of p) r answers steps) i j m n o u a b e f h q l w same
