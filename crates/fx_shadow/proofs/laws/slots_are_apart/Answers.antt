use Rattle.std.proofs.Common.{◌+◌, take}
use Rattle.fx_shadow.proofs.Slots.{slots_apart, slot_inside, slots_size-take, slots_multiple}
use Rattle.fx_shadow.proofs.laws.slots_are_apart.Goals as goal

pub returns-clause-apart : goal.returns-clause-apart
returns-clause-apart c = λ ss xs i j less l d. slots_apart ss xs i j less l d

pub returns-clause-inside : goal.returns-clause-inside
returns-clause-inside c = λ ss xs i l. ((λ d. slot_inside ss xs i l d), slots_size-take ss (i + 1) xs, slots_multiple ss (take (i + 1) xs))
