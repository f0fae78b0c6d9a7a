use Rattle.fx_machine.proofs.Frames.{code_is_never_written, frames_are_own}
use Rattle.fx_machine.proofs.laws.frames.Goals as goal

pub returns-clause-code : goal.returns-clause-code
returns-clause-code c = code_is_never_written

pub returns-clause-own : goal.returns-clause-own
returns-clause-own c = frames_are_own
