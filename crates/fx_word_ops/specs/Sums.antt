use Rattle.std.specs.Prelude.{ℕ, ◌+◌, ◌-◌, nat_le, nat_lt, not, ◌+ℤ◌, ◌-ℤ◌, bit_and, bit_or, bit_xor, false}
use Rattle.fx_word_ops.specs.Words.{size, half, cut, signed, fits, flags_of}
use Rattle.fx_x64_forms.specs.declared.operand.Width.{Width}
use Rattle.fx_word_ops.specs.declared.flags.Flags.{Flags}
use Rattle.fx_word_ops.specs.declared.flags.LogicOp.{LogicOp}
use Rattle.fx_word_ops.specs.declared.flags.LogicOp.TheVariants.{And, Or, Xor}

-- The sum: carry where the unsigned sum doesn't fit, overflow where the signed one doesn't.
abbrev pub sum_of : Width → ℕ → ℕ → ℕ × Flags
sum_of w a b =
    let x = cut w a in
    let y = cut w b in
    let r = cut w (x + y) in
    (r, flags_of w (nat_le (size w) (x + y)) (not (fits (half w) (signed (half w) x +ℤ signed (half w) y))) r)

-- The difference: carry where the unsigned difference is below 0, overflow where the signed one
-- doesn't fit.
abbrev pub difference_of : Width → ℕ → ℕ → ℕ × Flags
difference_of w a b =
    let x = cut w a in
    let y = cut w b in
    let r = cut w (x + (size w - y)) in
    (r, flags_of w (nat_lt x y) (not (fits (half w) (signed (half w) x -ℤ signed (half w) y))) r)

abbrev pub bitwise : LogicOp → ℕ → ℕ → ℕ
bitwise And x y = bit_and x y
bitwise Or x y = bit_or x y
bitwise Xor x y = bit_xor x y

-- A bitwise operation: carry and overflow are clear.
abbrev pub combination_of : Width → LogicOp → ℕ → ℕ → ℕ × Flags
combination_of w op a b = let r = bitwise op (cut w a) (cut w b) in (r, flags_of w false false r)
