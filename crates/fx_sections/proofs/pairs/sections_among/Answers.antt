use Rattle.std.proofs.Common.{◌∙◌, ◌∷◌, ◌++◌, [], map, take, ap}
use Rattle.fx_sections.specs.Pairs.{section_of}
use Rattle.fx_sections.proofs.Offsets.{map_step}
use Rattle.fx_sections.proofs.pairs.sections_among.Goals as goal

pub loop-pair-preserved : goal.loop-pair-preserved
loop-pair-preserved c =
    let f = section_of c.args.pairs.now.keys in
    let i = c.loop-pair.pair-index in
    c.in_ok-push.ensures.items
    ∙ ap (λ l. l ++ c.section_of.result ∷ []) c.loop-pair.invariant
    ∙ ap (λ n. map f (take i c.args.of.now) ++ n ∷ []) c.section_of.ensures
    ∙ map_step f c.args.of.now i (record { readers = 0; writers = 0 }) c.loop-pair-test.true
