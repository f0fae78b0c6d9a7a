use Rattle.fx_x64_code.proofs.Decoding.{unspelled_is_undecoded}
use Rattle.fx_x64_code.proofs.laws.unspelled_is_undecoded.Goals as goal

pub returns : goal.returns
returns c = unspelled_is_undecoded
