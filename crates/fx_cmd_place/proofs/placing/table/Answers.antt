use Rattle.fx_sections_law.proofs.Keeps.{keeps}
use Rattle.fx_cmd_place.proofs.Granted.{placeable, address_each}
use Rattle.fx_cmd_place.proofs.placing.table.Goals as goal

pub placement-requires : goal.placement-requires
placement-requires c = placeable c.args.p.now c.args.c.now c.in_ok-g.g c.requires c.in_ok-g.ensures.granted

pub place_table-requires-clause-addresses : goal.place_table-requires-clause-addresses
place_table-requires-clause-addresses c =
    address_each c.args.p.now c.in_ok-g.g c.args.c.now c.in_ok-at.at (placeable c.args.p.now c.args.c.now c.in_ok-g.g c.requires c.in_ok-g.ensures.granted) c.in_ok-at.ensures.placed

pub returns-clause-table : goal.returns-clause-table
returns-clause-table c =
    let p = c.args.p.now in
    let k = c.args.c.now in
    let g = c.in_ok-g.g in
    let at = c.in_ok-at.at in
    let granted = c.in_ok-g.ensures.granted in
    let placed = c.in_ok-at.ensures.placed in
    let has = placeable p k g c.requires granted in
    (g, at, granted, placed, keeps p g k at has placed, c.in_ok-text.ensures)
