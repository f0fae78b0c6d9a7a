use Rattle.fx_x64_code.proofs.Decoding.{one_spelling}
use Rattle.fx_x64_code.proofs.laws.one_spelling.Goals as goal

pub returns : goal.returns
returns c = one_spelling
