use Rattle.fx_x64_code.proofs.Decoding.{undecoded_is_unspelled}
use Rattle.fx_x64_code.proofs.laws.undecoded_is_unspelled.Goals as goal

pub returns : goal.returns
returns c = undecoded_is_unspelled
