use Rattle.std.proofs.Common.{rules, FitsSigned, ap, ◌∙◌, sym}
use Rattle.std.proofs.lemmas.Int.{to_z-of_z}
use Rattle.std.specs.Int.{w128}
use Rattle.fx_word_ops.specs.Words.{half}
use Rattle.fx_word_ops.proofs.Remainders.{rem_fits, quotient_some, quotient_none, not_zero}
use Rattle.fx_word_ops.proofs.quotients.divide_signed.Goals as goal

pub to_unsigned-requires-else-is_over : goal.to_unsigned-requires-else-is_over
to_unsigned-requires-else-is_over c =
    let f : FitsSigned w128 c.args.n = c.ranges.n in
    let g : FitsSigned w128 c.args.d = c.ranges.d in
    let k : FitsSigned w128 c.div_rem-q.result.1 = search rules in
    let e = simp to_z-of_z at c.div_rem-q.ensures in
    simp to_z-of_z (rw (ap (λ p. p.1) e) (rem_fits (half c.args.w) c.args.n c.args.d (not_zero c.args.d c.requires.by) c.requires.small))

pub returns-then-is_over : goal.returns-then-is_over
returns-then-is_over c =
    let f : FitsSigned w128 c.args.n = c.ranges.n in
    let g : FitsSigned w128 c.args.d = c.ranges.d in
    let k : FitsSigned w128 c.div_rem-q.result.0 = search rules in
    let e = simp to_z-of_z at c.div_rem-q.ensures in
    let o = simp to_z-of_z at c.is_over.ensures in
    quotient_none c.args.w c.args.n c.args.d (sym c.if-is_over.true ∙ rw (ap (λ p. p.0) e, c.top.ensures) at o)

pub returns-else-is_over : goal.returns-else-is_over
returns-else-is_over c =
    let f : FitsSigned w128 c.args.n = c.ranges.n in
    let g : FitsSigned w128 c.args.d = c.ranges.d in
    let j : FitsSigned w128 c.div_rem-q.result.0 = search rules in
    let k : FitsSigned w128 c.div_rem-q.result.1 = search rules in
    let e = simp to_z-of_z at c.div_rem-q.ensures in
    let o = simp to_z-of_z at c.is_over.ensures in
    let q = simp to_z-of_z at c.to_unsigned.ensures in
    let r = simp to_z-of_z at c.to_unsigned-else-is_over.ensures in
    rw (q, r, ap (λ p. p.0) e, ap (λ p. p.1) e) (quotient_some c.args.w c.args.n c.args.d (sym c.if-is_over.false ∙ rw (ap (λ p. p.0) e, c.top.ensures) at o))
