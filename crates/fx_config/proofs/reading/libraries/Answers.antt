use Rattle.std.proofs.Common.{◌<◌, ◌≤◌, length, arith, ◌∙◌}
use Rattle.std.proofs.lemmas.Result.{err_from_is_err_and}
use Rattle.fx_config.specs.Reading.{library_of}
use Rattle.fx_config.proofs.Loops.{ReadTo-next, ReadTo-stop, ReadTo-end, read_each-map}
use Rattle.fx_config.proofs.reading.libraries.Goals as goal

pub returns-in_err-next : goal.returns-in_err-next
returns-in_err-next c =
    let p = err_from_is_err_and c.from_residual.result c.from_residual.ensures.1 in
    let within : c.loop-table.table-index < length c.args.tables.now = omega arith in
    rw (p.1, p.2) (λ h. read_each-map _ library_of c.args.tables.now ∙ ReadTo-stop _ _ _ c.table-item.result _ _ within c.table-item.is (c.in_err-next.ensures h) c.loop-table.invariant)

pub loop-table-preserved : goal.loop-table-preserved
loop-table-preserved c =
    let within : c.loop-table.table-index < length c.args.tables.now = omega arith in
    rw c.in_ok-push.ensures.items (ReadTo-next _ _ _ c.table-item.result _ _ within c.table-item.is c.in_ok-next.ensures c.loop-table.invariant)

pub returns : goal.returns
returns c =
    let past : length c.args.tables.now ≤ c.loop-table.table-index = omega arith in
    read_each-map _ library_of c.args.tables.now ∙ ReadTo-end _ _ _ _ past c.loop-table.invariant
