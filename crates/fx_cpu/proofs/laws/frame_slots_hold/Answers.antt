use Rattle.fx_cpu.proofs.Slots.{frame_slots_hold}
use Rattle.fx_cpu.proofs.laws.frame_slots_hold.Goals as goal

pub returns : goal.returns
returns c = frame_slots_hold
