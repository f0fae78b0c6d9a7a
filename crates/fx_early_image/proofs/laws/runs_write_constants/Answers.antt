use Rattle.fx_early_image.proofs.Written.{runs_write_constants}
use Rattle.fx_early_image.proofs.laws.runs_write_constants.Goals as goal

pub returns : goal.returns
returns c = runs_write_constants
