use Rattle.std.proofs.Common.{◌≡◌, ℕ, ◌<◌, length}
use Rattle.std.specs.Prelude.{slice_index}
use Rattle.fx_machine.specs.Filling.{over, idle_below}
use Rattle.fx_machine.proofs.filling.put_idle_words.Given as goal

abbrev pub invariant-loop-stack : goal.invariant-loop-stack
invariant-loop-stack l = (k : ℕ) → k < length l.bytes → slice_index l.bytes k ≡ over (idle_below l.image l.stack) l.start l.fn.bytes k
