use Rattle.std.proofs.Common.{◌++◌, [], ◌∷◌, List, ap, ◌∙◌, sym, arith}
use Rattle.fx_c_mean_blocks.specs.declared.value.Cell.{Cell}
use Rattle.fx_c_mean_blocks.specs.declared.value.Cell.TheVariants.{Byte}
use Rattle.fx_c_mean.proofs.Starts.{bytes_more}
use Rattle.fx_c_mean.proofs.start.cells_from.Goals as goal

pub loop-i-preserved : goal.loop-i-preserved
loop-i-preserved c =
    let more = bytes_more c.args.bytes.now c.args.size c.loop-i.i c.byte_at.result (omega arith) c.byte_at.ensures in
    c.in_ok-push.ensures.items ∙ ap (λ (l : List Cell). l ++ Byte c.byte_at.result ∷ []) c.loop-i.invariant ∙ sym more
