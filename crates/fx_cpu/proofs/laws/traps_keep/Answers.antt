use Rattle.fx_cpu.proofs.FreeSteps.{traps_keep, step_traps_keep}
use Rattle.fx_cpu.proofs.laws.traps_keep.Goals as goal

pub returns-clause-instruction : goal.returns-clause-instruction
returns-clause-instruction c = traps_keep

pub returns-clause-step : goal.returns-clause-step
returns-clause-step c = step_traps_keep
