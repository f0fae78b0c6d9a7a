use Rattle.std.specs.Prelude.{ℕ, ◌*◌, false, nat_le, not, ◌*ℤ◌}
use Rattle.fx_word_ops.specs.Words.{half, cut, signed, fits}
use Rattle.fx_x64_forms.specs.declared.operand.Width.{Width}
use Rattle.fx_word_ops.specs.declared.flags.Flags.{Flags}

-- The low part of the product: carry and overflow where the signed product doesn't fit, sign by the
-- result, zero clear.
abbrev pub product_of : Width → ℕ → ℕ → ℕ × Flags
product_of w a b =
    let x = cut w a in
    let y = cut w b in
    let r = cut w (x * y) in
    let over = not (fits (half w) (signed (half w) x *ℤ signed (half w) y)) in
    (r, record { cf = over; zf = false; sf = nat_le (half w) r; of = over })
