use Rattle.fx_machine_law.proofs.Steps.{move_is_step}
use Rattle.fx_machine_law.proofs.move_is_step.Goals as goal

pub returns : goal.returns
returns c = move_is_step
