use Rattle.fx_word_ops.proofs.Masks.{cut_wrapped}
use Rattle.fx_word_ops.proofs.Carries.{add_carry, add_over}
use Rattle.fx_word_ops.proofs.sums.add.Goals as goal

pub returns : goal.returns
returns c =
    let w = c.args.w in
    rw (c.zero_extend-r.ensures, c.zero_extend-x.ensures, c.zero_extend-y.ensures, c.top-h.ensures, cut_wrapped w _, add_carry w c.args.a c.args.b, add_over w c.args.a c.args.b)
