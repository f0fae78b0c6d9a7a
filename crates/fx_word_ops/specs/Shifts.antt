use Rattle.std.specs.Prelude.{ℕ, ◌-◌, ◌*◌, ◌/◌, ◌%◌, ◌^◌, false, ◌==◌, nat_le, not, if◌then◌else◌, ◌&&◌}
use Rattle.std.specs.Int.Signed.{shr_z}
use mathlib.Core.Bool.{beq}
use Rattle.fx_word_ops.specs.Words.{bit_count, half, cut, bit, signed, unsigned, flags_of}
use Rattle.fx_x64_forms.specs.declared.operand.Width.{Width}
use Rattle.fx_x64_forms.specs.declared.operand.Width.TheVariants.{W8, W16, W32, W64}
use Rattle.fx_x64_forms.specs.declared.inst.ShiftOp.{ShiftOp}
use Rattle.fx_x64_forms.specs.declared.inst.ShiftOp.TheVariants.{Shl, Shr, Sar}
use Rattle.fx_word_ops.specs.declared.flags.Flags.{Flags}

-- Shifts take 32 and 64 bits alone.
abbrev pub IsWide : Width → Type 0
IsWide W64 = Unit {0}
IsWide W32 = Unit {0}
IsWide W16 = ⊥
IsWide W8 = ⊥

-- Left by n, from 1 up to the width less 1: the product by 2 ^ n. Carry is the last bit shifted out;
-- overflow is told after a shift by 1 alone, where the result's top bit isn't the carry.
abbrev pub left_by : Width → ℕ → ℕ → ℕ × Flags
left_by w x n =
    let r = cut w (x * 2 ^ n) in
    let carry = bit x (bit_count w - n) in
    (r, flags_of w carry ((n == 1) && not (beq (nat_le (half w) r) carry)) r)

-- Right by n: the unsigned quotient by 2 ^ n. Overflow after a shift by 1 is the old top bit.
abbrev pub right_by : Width → ℕ → ℕ → ℕ × Flags
right_by w x n =
    let r = x / 2 ^ n in
    (r, flags_of w (bit x (n - 1)) ((n == 1) && nat_le (half w) x) r)

-- The signed quotient of a word by 2 ^ n, rounded down.
abbrev pub signed_quotient : Width → ℕ → ℕ → ℕ
signed_quotient w x n = unsigned (half w) (shr_z (signed (half w) x) (2 ^ n))

abbrev pub signed_right_by : Width → ℕ → ℕ → ℕ × Flags
signed_right_by w x n =
    let r = signed_quotient w x n in
    (r, flags_of w (bit x (n - 1)) false r)

abbrev pub shift_by : Width → ShiftOp → ℕ → ℕ → ℕ × Flags
shift_by w Shl x n = left_by w x n
shift_by w Shr x n = right_by w x n
shift_by w Sar x n = signed_right_by w x n

-- The count is masked to 5 or 6 bits; a masked count of 0 leaves the flags.
abbrev pub shift_of : Width → ShiftOp → ℕ → ℕ → Flags → ℕ × Flags
shift_of w op a count before =
    let n = count % bit_count w in
    if n == 0 then (cut w a, before) else shift_by w op (cut w a) n
