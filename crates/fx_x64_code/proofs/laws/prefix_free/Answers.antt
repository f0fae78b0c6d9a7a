use Rattle.fx_x64_code.proofs.Decoding.{prefix_free}
use Rattle.fx_x64_code.proofs.laws.prefix_free.Goals as goal

pub returns : goal.returns
returns c = prefix_free
