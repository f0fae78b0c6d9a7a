use Rattle.fx_word_ops.proofs.Masks.{cut_lent, cut_below}
use Rattle.fx_word_ops.proofs.Carries.{sub_over}
use Rattle.fx_word_ops.proofs.sums.sub.Goals as goal

pub returns : goal.returns
returns c =
    let w = c.args.w in
    rw (c.zero_extend-r.ensures, c.zero_extend-x.ensures, c.zero_extend-y.ensures, c.top-h.ensures, cut_lent w _ _ (cut_below w c.args.a) (cut_below w c.args.b), sub_over w c.args.a c.args.b)
