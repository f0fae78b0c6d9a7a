use Rattle.std.proofs.Common.{ap, Err}
use Rattle.fx_cmd_exec.proofs.inputs.constants_of.Goals as goal

pub returns-in-Err-Form-clause-cause : goal.returns-in-Err-Form-clause-cause
returns-in-Err-Form-clause-cause c = λ constants program. c.in-Err-Form.ensures.refused (ap Err c.in-Err-Form.field-0-is) constants program
