use Rattle.std.specs.Prelude.{ℕ, ◌+◌, ◌*◌, ◌/◌, ◌%◌, Bool, true, false, ◌==◌, nat_le, ℤ, if◌then◌else◌, ◌||◌, Option, Some, None}
use Rattle.std.specs.Int.Signed.{quot_z, rem_z}
use Rattle.fx_word_ops.specs.Words.{size, half, cut, signed, unsigned, fits}
use Rattle.fx_x64_forms.specs.declared.operand.Width.{Width}

-- The quotient and the remainder, unless the divisor is 0 or the quotient doesn't fit.
abbrev pub unsigned_division : Width → ℕ → ℕ → Option (ℕ × ℕ)
unsigned_division w n by = if (by == 0) || nat_le (size w) (n / by) then None else Some (n / by, n % by)

-- The signed quotient, cut towards zero, and its remainder, unless the quotient doesn't fit.
abbrev pub signed_division : Width → ℤ → ℤ → Option (ℕ × ℕ)
signed_division w n by =
    if fits (half w) (quot_z n by) then Some (unsigned (half w) (quot_z n by), unsigned (half w) (rem_z n by)) else None

-- The dividend has twice the width; `high` and `low` are its halves.
abbrev pub division_of : Width → Bool → ℕ → ℕ → ℕ → Option (ℕ × ℕ)
division_of w false high low by = unsigned_division w (cut w high * size w + cut w low) (cut w by)
division_of w true high low by =
    if cut w by == 0 then None
    else signed_division w (signed (half w * size w) (cut w high * size w + cut w low)) (signed (half w) (cut w by))
