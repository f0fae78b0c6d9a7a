use Rattle.std.proofs.Common.{rules, FitsSigned, w64}
use Rattle.std.proofs.lemmas.Int.{to_z-of_z}
use Rattle.fx_word_ops.proofs.Masks.{cut_product}
use Rattle.std.specs.Int.{w128}
use Rattle.fx_word_ops.proofs.products.mul.Goals as goal

pub returns : goal.returns
returns c =
    let w = c.args.w in
    let f : FitsSigned w64 c.to_signed.result = search rules in
    let g : FitsSigned w64 c.to_signed-2.result = search rules in
    let k : FitsSigned w128 c.signed_product.result = search rules in
    let e = simp to_z-of_z at c.signed_product.ensures in
    let o = simp to_z-of_z at c.is_over-over.ensures in
    rw (o, e, c.to_signed.ensures, c.to_signed-2.ensures, c.zero_extend-r.ensures, c.top.ensures, c.top-2.ensures, cut_product w c.args.a c.args.b)
