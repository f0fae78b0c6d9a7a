use Rattle.fx_early_law.proofs.Played as played
use Rattle.fx_early_law.proofs.laws.early_runs_play.Goals as goal

pub returns : goal.returns
returns c = played.early_runs_play c.runs_write_constants.ensures
