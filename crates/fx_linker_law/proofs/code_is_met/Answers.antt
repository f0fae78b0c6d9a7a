use Rattle.fx_linker_law.proofs.Whole.{code}
use Rattle.fx_linker_law.proofs.code_is_met.Goals as goal

pub returns : goal.returns
returns c = code
