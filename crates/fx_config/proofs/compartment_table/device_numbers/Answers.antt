use Rattle.std.proofs.Common.{rules, w64, ◌<◌, pos, length, get_or, arith}
use Rattle.std.proofs.lemmas.Int.{to_z-of_z}
use Rattle.std.proofs.lemmas.Result.{err_from_is_err_and}
use mir.Val.{SFits}
use Rattle.fx_config.specs.Reading.{device_of}
use Rattle.fx_config.proofs.Loops.{ReadTo-next_at, ReadTo-stop_at}
use Rattle.fx_config.proofs.compartment_table.device_numbers.Goals as goal

pub returns-in_err-next : goal.returns-in_err-next
returns-in_err-next c =
    let p = err_from_is_err_and c.from_residual.result c.from_residual.ensures.1 in
    let number = get_or c.args.numbers.now c.loop-number.number-index (pos 0) in
    let fits : SFits w64 (get_or c.args.numbers.now c.loop-number.number-index (pos 0)) = search rules in
    let within : c.loop-number.number-index < length c.args.numbers.now = omega arith in
    rw (p.1, p.2) (λ h. ReadTo-stop_at device_of c.args.numbers.now c.loop-number.number-index (pos 0) _ _ within (simp (to_z-of_z w64 number fits) at (c.in_err-next.ensures h)) c.loop-number.invariant)

pub loop-number-preserved : goal.loop-number-preserved
loop-number-preserved c =
    let number = get_or c.args.numbers.now c.loop-number.number-index (pos 0) in
    let fits : SFits w64 (get_or c.args.numbers.now c.loop-number.number-index (pos 0)) = search rules in
    let within : c.loop-number.number-index < length c.args.numbers.now = omega arith in
    rw c.in_ok-push.ensures.items (ReadTo-next_at device_of c.args.numbers.now c.loop-number.number-index (pos 0) _ _ within (simp (to_z-of_z w64 number fits) at c.in_ok-next.ensures) c.loop-number.invariant)
