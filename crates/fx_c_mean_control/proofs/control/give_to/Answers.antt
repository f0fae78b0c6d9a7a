use Rattle.fx_c_mean_control.proofs.Calls.{given}
use Rattle.fx_c_mean_control.proofs.control.give_to.Goals as goal

pub returns-in-Arguments : goal.returns-in-Arguments
returns-in-Arguments c = rw c.in-Arguments.is (rw given at c.give_argument.ensures)
