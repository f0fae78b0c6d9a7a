use Rattle.std.proofs.Common.{◌∙◌, ◌-◌, ◌/◌, ◌%◌, ◌<◌, ◌∷◌, ◌++◌, [], sym, ap, append_assoc, arith}
use Rattle.fx_cmd_base.specs.Hex.{hex_digit, hex_digits}
use Rattle.fx_cmd_base.proofs.Digits.{hex_step}
use Rattle.fx_cmd_base.proofs.hex.+put_digits.Goals as goal

pub returns : goal.returns
returns t c =
    let some : 0 < c.args.count = omega arith in
    let high = hex_digits (c.args.count - 1) (c.args.number / 16) in
    c.in_ok-push.ensures.items
    ∙ ap (λ l. l ++ c.hex_digit.result ∷ []) c.in_ok-put_digits.ensures
    ∙ ap (λ d. (c.args.line.now.items ++ high) ++ d ∷ []) c.hex_digit.ensures
    ∙ append_assoc c.args.line.now.items high (hex_digit (c.args.number % 16) ∷ [])
    ∙ ap (λ l. c.args.line.now.items ++ l) (sym (hex_step c.args.count c.args.number some))
