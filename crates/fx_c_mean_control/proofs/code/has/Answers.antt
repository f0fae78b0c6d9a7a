use Rattle.std.proofs.Common.{arith}
use Rattle.fx_c_mean_control.proofs.Finding.{none_past}
use Rattle.fx_c_mean_control.proofs.code.has.Goals as goal

pub returns-else-compartment-lt16 : goal.returns-else-compartment-lt16
returns-else-compartment-lt16 c = none_past c.args.compartment c.args.set (omega arith) (omega arith)
