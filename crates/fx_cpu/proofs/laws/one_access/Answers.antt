use Rattle.fx_cpu.proofs.Accesses.{one_access, step_one_access}
use Rattle.fx_cpu.proofs.laws.one_access.Goals as goal

pub returns-clause-instruction : goal.returns-clause-instruction
returns-clause-instruction c = one_access

pub returns-clause-step : goal.returns-clause-step
returns-clause-step c = step_one_access
