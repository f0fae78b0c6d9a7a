use Rattle.fx_machine_law.proofs.Found.{found_is_code}
use Rattle.fx_machine_law.proofs.found_is_code.Goals as goal

pub returns : goal.returns
returns c = found_is_code
