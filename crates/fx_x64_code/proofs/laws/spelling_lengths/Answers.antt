use Rattle.fx_x64_code.proofs.Lengths.{spelling_lengths}
use Rattle.fx_x64_code.proofs.laws.spelling_lengths.Goals as goal

pub returns : goal.returns
returns c = spelling_lengths
