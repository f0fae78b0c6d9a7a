use Rattle.std.proofs.Common.{◌≡◌, ap, ◌∙◌}
use Rattle.fx_build_parts.specs.Ranges.{spots_from}
use Rattle.fx_build_parts.proofs.Whole.{is_whole}
use Rattle.fx_build_parts.proofs.making.parts_with.Goals as goal

pub returns : goal.returns
returns c =
    let begins : c.as_slice.result.now ≡ c.in_ok-made.made.begins = c.as_slice.ensures in
    let spots : c.as_slice-2.result.now ≡ c.args.plan.now.spots = c.as_slice-2.ensures in
    is_whole c.args.p.now c.args.plan.now _ c.args.at.now c.args.k.now
    c.in_ok-made.made.ranges c.in_ok-made.made.begins c.in_ok-spots.spots
    c.in_ok-behind.behind.pieces c.in_ok-behind.behind.map c.in_ok-made.made.entries
    c.in_ok-made.ensures.ranges c.in_ok-made.ensures.begins
    (c.in_ok-spots.ensures ∙ ap (λ x. spots_from x 0 c.as_slice-2.result.now) begins
    ∙ ap (λ x. spots_from c.in_ok-made.made.begins 0 x) spots)
    c.in_ok-behind.ensures.pieces c.in_ok-behind.ensures.map c.in_ok-made.ensures.entries
