use Rattle.fx_x64_code.proofs.Decoding.{prefix_is_undecoded}
use Rattle.fx_x64_code.proofs.laws.prefix_is_undecoded.Goals as goal

pub returns : goal.returns
returns c = prefix_is_undecoded
