use Rattle.fx_confined_law.proofs.Replaced.{confined_under_keys}
use Rattle.fx_confined_law.proofs.confined_under_keys.Goals as goal

pub returns : goal.returns
returns c = confined_under_keys
