use Rattle.std.proofs.Common.{arith, length, take, drop, ◌-◌, length-take, ◌<◌, ◌*◌, ◌+◌, ◌^◌, length-drop}
use Rattle.fx_c_mean_blocks.proofs.Bounds.{one_more}
use Rattle.fx_c_mean_blocks.proofs.cells.+number.Goals as goal

pub overflow_mul-result : goal.overflow_mul-result
overflow_mul-result t c = let h : 256 * c.in_ok-above-in-Byte.above + 255 < 2 ^ 64 = one_more (length (take (length c.args.cells.now - 1) (drop 1 c.args.cells.now))) c.in_ok-above-in-Byte.above (omega (arith, length-take (length c.args.cells.now - 1) (drop 1 c.args.cells.now), length-drop 1 c.args.cells.now)) c.in_ok-above-in-Byte.ensures.small in omega arith

pub overflow_add-result : goal.overflow_add-result
overflow_add-result t c = let h : 256 * c.in_ok-above-in-Byte.above + 255 < 2 ^ 64 = one_more (length (take (length c.args.cells.now - 1) (drop 1 c.args.cells.now))) c.in_ok-above-in-Byte.above (omega (arith, length-take (length c.args.cells.now - 1) (drop 1 c.args.cells.now), length-drop 1 c.args.cells.now)) c.in_ok-above-in-Byte.ensures.small in omega arith
