-- A number's hexadecimal digits, from the last.
use Rattle.std.proofs.Common.{◌≡◌, ℕ, zero, suc, ◌-◌, ◌/◌, ◌%◌, ◌<◌, ◌∷◌, ◌++◌, [], ap, arith}
use Rattle.fx_cmd_base.specs.Hex.{hex_digit, hex_digits}

pub hex_step : (count n : ℕ) → 0 < count → hex_digits count n ≡ hex_digits (count - 1) (n / 16) ++ hex_digit (n % 16) ∷ []
hex_step zero n some = absurd (omega arith)
hex_step (suc count) n some =
    let same : count ≡ suc count - 1 = omega arith in
    ap (λ (c : ℕ). hex_digits c (n / 16) ++ hex_digit (n % 16) ∷ []) same
