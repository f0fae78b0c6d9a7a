use Rattle.std.proofs.Common.{◌≡◌, get_or, ap, ◌∙◌}
use Rattle.fx_early_source.specs.Reading.{digits}
use Rattle.fx_early_source.proofs.Fronts.{digits-all, digit-bounds}
use Rattle.fx_early_source.proofs.number.Goals as goal

pub value-requires : goal.value-requires
value-requires c = λ i h.
    let same : c.split_at.result.0.now ≡ (digits c.skip-text.result.now).0 = c.split_at.ensures.front ∙ ap (λ p. p.0) c.digit_count.ensures.digits in
    digit-bounds (get_or c.split_at.result.0.now i 0) (rw same (digits-all c.skip-text.result.now i (rw (← same) h)))
