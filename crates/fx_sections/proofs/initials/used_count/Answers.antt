use Rattle.std.proofs.Common.{◌∙◌, ◌<◌, length, sym, ap, arith}
use Rattle.fx_sections.proofs.Used.{last_used, zero_unused}
use Rattle.fx_sections.proofs.initials.used_count.Goals as goal

pub returns-then-bytes-count-ne0 : goal.returns-then-bytes-count-ne0
returns-then-bytes-count-ne0 c =
    let some : 0 < c.loop-count.count = omega arith in
    sym (last_used c.args.bytes.now c.loop-count.count some c.loop-count.invariant.within c.if-bytes-count-ne0.true) ∙ c.loop-count.invariant.same

pub loop-count-preserved : goal.loop-count-preserved
loop-count-preserved c =
    let some : 0 < c.loop-count.count = omega arith in
    record {
      within = omega (arith, c.loop-count.invariant.within);
      same = ap length (sym (zero_unused c.args.bytes.now c.loop-count.count some c.loop-count.invariant.within c.if-bytes-count-ne0.false)) ∙ c.loop-count.invariant.same;
    }
