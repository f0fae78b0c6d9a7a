use Rattle.fx_x64_code.proofs.Decoding.{one_instruction}
use Rattle.fx_x64_code.proofs.laws.one_instruction.Goals as goal

pub returns : goal.returns
returns c = one_instruction
