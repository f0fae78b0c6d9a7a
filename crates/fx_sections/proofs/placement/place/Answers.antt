use Rattle.std.proofs.Common.{rules, ◌<◌, ◌^◌, length, ap, arith}
use Rattle.fx_sections.proofs.Counts.{pairs_few}
use Rattle.fx_sections.proofs.placement.place.Goals as goal

pub overflow_cast-result : goal.overflow_cast-result
overflow_cast-result c =
    let fits : c.len-then-is_keyed-len.result < 2 ^ 32 = omega (arith, c.len-then-is_keyed-len.ensures.len, ap length c.in_ok-pairs.ensures, pairs_few (length c.as_slice-count.result.now) c.as_slice.result.now, ap length c.as_slice.ensures, ap length c.as_slice-count.ensures, c.requires.same, c.requires.compartments, c.requires.objects) in
    search (rules, fits)
