use Rattle.fx_x64_code.proofs.Decoding.{decoded_is_spelled}
use Rattle.fx_x64_code.proofs.laws.decoded_is_spelled.Goals as goal

pub returns : goal.returns
returns c = decoded_is_spelled
