use Rattle.std.proofs.Common.{◌∙◌, ◌<◌, sym, arith}
use Rattle.fx_sections.proofs.Used.{zero_unused}
use Rattle.fx_linker.proofs.Used.{last_kept}
use Rattle.fx_linker.proofs.objects.used.Goals as goal

pub returns-then-bytes-count-ne0 : goal.returns-then-bytes-count-ne0
returns-then-bytes-count-ne0 c =
    let some : 0 < c.loop-count.count = omega arith in
    sym (last_kept c.args.bytes.now c.loop-count.count some c.loop-count.invariant.within c.if-bytes-count-ne0.true) ∙ c.loop-count.invariant.same

pub loop-count-preserved : goal.loop-count-preserved
loop-count-preserved c =
    let some : 0 < c.loop-count.count = omega arith in
    record {
      within = omega (arith, c.loop-count.invariant.within);
      same = sym (zero_unused c.args.bytes.now c.loop-count.count some c.loop-count.invariant.within c.if-bytes-count-ne0.false) ∙ c.loop-count.invariant.same;
    }
