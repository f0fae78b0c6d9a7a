use Rattle.std.proofs.lemmas.Result.{err_from_is_err_and}
use Rattle.fx_buildable_law.proofs.Buildable.{configured_buildable}
use Rattle.fx_cmd_place.proofs.Granted.{placeable}
use Rattle.fx_cmd_place.proofs.Ready.{ready}
use Rattle.fx_cmd_build.proofs.Ways.{ungranted, unplaced, unlinked}
use Rattle.fx_cmd_build.proofs.building.image_of.Goals as goal

pub grants-requires : goal.grants-requires
grants-requires c =
    let has = c.requires in
    ready has.0 has.1 c.args.k.now c.args.p.now has.2 has.3

pub placement-requires : goal.placement-requires
placement-requires c =
    let has = c.requires in
    let p = c.args.p.now in
    let k = c.args.k.now in
    placeable p k c.in_ok-g.g (ready has.0 has.1 k p has.2 has.3) c.in_ok-g.ensures.granted

pub linked-requires : goal.linked-requires
linked-requires c =
    let has = c.requires in
    configured_buildable has.0 has.1 c.args.p.now c.in_ok-g.g c.in_ok-at.at c.args.k.now has.2
    has.3 c.in_ok-g.ensures.granted c.in_ok-at.ensures.placed has.4

pub returns-in_err-g-clause-cause : goal.returns-in_err-g-clause-cause
returns-in_err-g-clause-cause c =
    let p = err_from_is_err_and c.from_residual.result c.from_residual.ensures.1 in
    rw (p.1, p.2) (ungranted c.args.p.now c.args.k.now c.in_err-g.field-0.0
    c.in_err-g.ensures.cause)

pub returns-in_err-at-clause-cause : goal.returns-in_err-at-clause-cause
returns-in_err-at-clause-cause c =
    let p = err_from_is_err_and c.from_residual-in_err-at.result
    c.from_residual-in_err-at.ensures.1 in
    rw (p.1, p.2) (unplaced c.args.p.now c.args.k.now c.in_ok-g.g c.in_err-at.field-0.0
    c.in_ok-g.ensures.granted c.in_err-at.ensures.cause)

pub returns-in_err-image-clause-cause : goal.returns-in_err-image-clause-cause
returns-in_err-image-clause-cause c =
    let p = err_from_is_err_and c.from_residual-in_err-image.result
    c.from_residual-in_err-image.ensures.1 in
    rw (p.1, p.2) (unlinked c.args.p.now c.args.k.now c.in_ok-g.g c.in_ok-at.at
    c.in_err-image.field-0.0 c.in_ok-g.ensures.granted c.in_ok-at.ensures.placed
    c.in_err-image.ensures.cause)

pub returns-clause-image : goal.returns-clause-image
returns-clause-image c = (
  c.in_ok-g.g,
  c.in_ok-at.at,
  c.in_ok-g.ensures.granted,
  c.in_ok-at.ensures.placed,
  c.in_ok-image.ensures.built,
)

pub returns-clause-rules : goal.returns-clause-rules
returns-clause-rules c =
    let has = c.requires in
    let p = c.args.p.now in
    let k = c.args.k.now in
    let g = c.in_ok-g.g in
    let at = c.in_ok-at.at in
    let granted = c.in_ok-g.ensures.granted in
    let is = c.in_ok-at.ensures.placed in
    let plain = configured_buildable has.0 has.1 p g at k has.2 has.3 granted is has.4 in
    c.built_is_image.ensures has.0 has.1 p g at k c.in_ok-image.image has.2 has.3 granted
    (placeable p k g (ready has.0 has.1 k p has.2 has.3) granted) is plain
    c.in_ok-image.ensures.built
