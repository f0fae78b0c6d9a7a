use Rattle.fx_machine_law.proofs.Kept.{move_keeps_byte}
use Rattle.fx_machine_law.proofs.move_keeps_byte.Goals as goal

pub returns : goal.returns
returns c = move_keeps_byte
