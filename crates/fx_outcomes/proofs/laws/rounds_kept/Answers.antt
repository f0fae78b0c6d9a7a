use Rattle.fx_outcomes.proofs.Follows.{rounds_kept}
use Rattle.fx_outcomes.proofs.laws.rounds_kept.Goals as goal

pub returns : goal.returns
returns c = rounds_kept
