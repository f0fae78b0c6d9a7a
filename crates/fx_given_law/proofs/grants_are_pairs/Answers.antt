use Rattle.fx_given_law.proofs.Pairs.{granted_pairs}
use Rattle.fx_given_law.proofs.grants_are_pairs.Goals as goal

pub returns : goal.returns
returns c = granted_pairs
