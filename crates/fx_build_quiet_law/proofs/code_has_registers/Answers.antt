use Rattle.fx_build_quiet_law.proofs.Registers.{code_has}
use Rattle.fx_build_quiet_law.proofs.code_has_registers.Goals as goal

pub returns : goal.returns
returns c = code_has
