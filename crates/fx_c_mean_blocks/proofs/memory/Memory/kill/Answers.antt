use Rattle.std.proofs.Common.{ap, sym, ◌∙◌, ◌≤◌, length, arith}
use Rattle.fx_c_mean_blocks.proofs.Deaths.{without_past}
use Rattle.fx_c_mean_blocks.proofs.memory.Memory.kill.Goals as goal

pub returns-else-at-len : goal.returns-else-at-len
returns-else-at-len c = let h : length c.loop-left.self ≤ c.loop-left.at = let e = ap length c.self.view_is in omega arith in sym (without_past c.loop-left.self c.loop-left.at c.loop-left.left h) ∙ c.loop-left.invariant
