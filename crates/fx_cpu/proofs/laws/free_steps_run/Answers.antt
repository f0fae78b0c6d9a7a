use Rattle.fx_cpu.proofs.FreeSteps.{free_steps_run}
use Rattle.fx_cpu.proofs.laws.free_steps_run.Goals as goal

pub returns : goal.returns
returns c = free_steps_run
