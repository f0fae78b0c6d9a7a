use Rattle.std.proofs.Common.{◌<◌, ◌≤◌, length, arith, ◌∙◌}
use Rattle.std.proofs.lemmas.Result.{err_from_is_err_and}
use Rattle.toml.specs.View.{view}
use Rattle.fx_config.specs.Document.{table_of}
use Rattle.fx_config.proofs.Loops.{ReadTo-stop, ReadTo-end, array_each}
use Rattle.fx_config.proofs.fields.tables.Goals as goal

pub returns-in_err-next : goal.returns-in_err-next
returns-in_err-next c =
    let p = err_from_is_err_and c.from_residual-in_err-next.result c.from_residual-in_err-next.ensures.1 in
    let within : c.loop-element.element-index < length c.in_ok-values.values.now = omega arith in
    rw (p.1, p.2) (λ h. array_each view table_of _ c.in_ok-values.values.now c.in_ok-values.ensures ∙ ReadTo-stop _ _ _ c.element-item.result _ _ within c.element-item.is (c.in_err-next.ensures h) c.loop-element.invariant)

pub returns : goal.returns
returns c =
    let past : length c.in_ok-values.values.now ≤ c.loop-element.element-index = omega arith in
    array_each view table_of _ c.in_ok-values.values.now c.in_ok-values.ensures ∙ ReadTo-end _ _ _ _ past c.loop-element.invariant
