use Rattle.fx_faithful.proofs.Denials.{nothing_is_denied}
use Rattle.fx_faithful.proofs.laws.nothing_is_denied.Goals as goal

pub returns : goal.returns
returns c = nothing_is_denied
