use Rattle.std.proofs.Common.{arith, le-leb, ◌≤◌}
use Rattle.fx_word_ops.specs.Words.{half, cut}
use Rattle.fx_word_ops.proofs.Masks.{or_high, cut_below}
use Rattle.fx_word_ops.proofs.words.sign_extend.Goals as goal

pub returns-then-x-top : goal.returns-then-x-top
returns-then-x-top c =
    let w = c.args.from in
    let h : half w ≤ cut w c.args.a = omega arith in
    rw (c.mask.ensures, c.zero_extend-x.ensures, le-leb _ _ h) (or_high w _ (cut_below w c.args.a))
