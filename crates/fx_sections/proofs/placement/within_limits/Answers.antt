use Rattle.std.proofs.Common.{◌∙◌, ◌<◌, [], length, sym, ap, subst, arith}
use Rattle.fx_sections.proofs.Counts.{pairs_some, pairs_few}
use Rattle.fx_sections.proofs.Offsets.{length-offsets}
use Rattle.fx_sections.proofs.Rooms.{length-rooms_from}
use Rattle.fx_sections.proofs.placement.within_limits.Goals as goal

pub global_sizes-requires-clause-some : goal.global_sizes-requires-clause-some
global_sizes-requires-clause-some c = subst (λ ps. 0 < length ps) (sym c.requires.pairs) (pairs_some (length c.args.c.now.compartments) c.args.g.now.globals)

pub total_pages-pages-requires-clause-few : goal.total_pages-pages-requires-clause-few
total_pages-pages-requires-clause-few c =
    let rooms = ap length (c.deref-2.ensures.value ∙ c.in_ok-filled.ensures.rooms) ∙ length-rooms_from (length c.as_slice-2.result.now) c.deref.result.now 0 c.len.result in
    omega (arith, rooms, c.len.ensures.len, ap length c.requires.pairs, pairs_few (length c.args.c.now.compartments) c.args.g.now.globals, c.requires.program.same, c.requires.program.compartments, c.requires.objects)

pub laid_out-requires-clause-same : goal.laid_out-requires-clause-same
laid_out-requires-clause-same c =
    let rooms = ap length (c.deref-3.ensures.value ∙ c.in_ok-filled.ensures.rooms) ∙ length-rooms_from (length c.as_slice-2.result.now) c.deref.result.now 0 c.len.result in
    omega (arith, rooms, ap length c.as_slice-4.ensures.keys, c.len.ensures.len)

pub laid_out-requires-clause-few : goal.laid_out-requires-clause-few
laid_out-requires-clause-few c = omega (arith, ap length c.as_slice-4.ensures.keys, ap length c.requires.pairs, pairs_few (length c.args.c.now.compartments) c.args.g.now.globals, c.requires.program.same, c.requires.program.compartments, c.requires.objects)

pub addresses-requires-clause-same : goal.addresses-requires-clause-same
addresses-requires-clause-same c =
    ap length (c.deref-6.ensures.value ∙ c.in_ok-filled.ensures.offsets)
    ∙ length-offsets (length c.as_slice-2.result.now) [] c.deref.result.now
    ∙ ap length (c.deref.ensures.value ∙ sym c.deref-5.ensures.value)
