use Rattle.std.proofs.Common.{ap, ◌∙◌, bit_and}
use Rattle.fx_word_ops.proofs.Masks.{mask_cut}
use Rattle.fx_word_ops.proofs.words.zero_extend.Goals as goal

pub returns : goal.returns
returns c = ap (bit_and c.args.a) c.mask.ensures ∙ mask_cut c.args.from c.args.a
