use Rattle.fx_early_source.proofs.Whole.{one_reading}
use Rattle.fx_early_source.proofs.one_reading.Goals as goal

pub returns : goal.returns
returns c = one_reading
