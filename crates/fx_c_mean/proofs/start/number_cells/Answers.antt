use Rattle.std.proofs.Common.{◌+◌, ◌-◌, ◌/◌, ◌++◌, List, ap, ◌∙◌, arith}
use Rattle.fx_c_mean_blocks.specs.declared.value.Cell.{Cell}
use Rattle.fx_c_mean_blocks.specs.Blocks.{bytes_of}
use Rattle.fx_c_mean.proofs.Starts.{number_more}
use Rattle.fx_c_mean.proofs.start.number_cells.Goals as goal

pub loop-i-preserved : goal.loop-i-preserved
loop-i-preserved c =
    ap (λ (l : List Cell). l ++ bytes_of (c.args.size - (c.loop-i._i + 1)) (c.loop-i.above / 256)) c.in_ok-push.ensures.items
    ∙ number_more c.loop-i.cells.items c.args.size c.loop-i._i c.loop-i.above _ (omega arith) c.loop-i.invariant
