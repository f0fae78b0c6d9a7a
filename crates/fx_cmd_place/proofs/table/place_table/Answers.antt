use Rattle.std.proofs.Common.{◌≡◌, ◌∙◌, arith}
use Rattle.std.proofs.lemmas.Grind.{common_steps}
use Rattle.fx_cmd_place.specs.Table.{lines_of}
use Rattle.fx_cmd_place.proofs.Rows.{table_is}
use Rattle.fx_cmd_place.proofs.table.place_table.Goals as goal

pub returns : goal.returns
returns c =
    let p = c.args.p.now in
    let g = c.args.g.now in
    let k = c.args.c.now in
    let at = c.args.at.now in
    let done : c.loop-number.out.items ≡ lines_of p g k at = grind (arith, common_steps) in
    done ∙ table_is p g k at
