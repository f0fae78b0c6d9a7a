use Rattle.std.specs.Prelude.{ℕ, ◌+◌, ◌-◌, ◌*◌, ◌/◌, ◌%◌, ◌^◌, Bool, ◌==◌, nat_le, not, ℤ, pos, negsuc, ◌-ℤ◌, if◌then◌else◌, ◌&&◌, int_lt}
use Rattle.fx_x64_forms.specs.declared.operand.Width.{Width}
use Rattle.fx_x64_forms.specs.declared.operand.Width.TheVariants.{W8, W16, W32, W64}
use Rattle.fx_word_ops.specs.declared.flags.Flags.{Flags}

-- The bits of a word.
abbrev pub bit_count : Width → ℕ
bit_count W8 = 8
bit_count W16 = 16
bit_count W32 = 32
bit_count W64 = 64

-- The word whose top bit alone is set: words from this on have the sign bit.
abbrev pub half : Width → ℕ
half W8 = 2 ^ 7
half W16 = 2 ^ 15
half W32 = 2 ^ 31
half W64 = 2 ^ 63

-- Words lie below this.
abbrev pub size : Width → ℕ
size w = 2 * half w

-- The low bits of a number.
abbrev pub cut : Width → ℕ → ℕ
cut w a = a % size w

-- Bit i of a number.
abbrev pub bit : ℕ → ℕ → Bool
bit a i = a / 2 ^ i % 2 == 1

-- The signed number that a word below 2 * h stands for in two's complement.
abbrev pub signed : ℕ → ℕ → ℤ
signed h a = if nat_le h a then pos a -ℤ pos (2 * h) else pos a

-- A signed number has a two's complement below 2 * h: it is at least -h and below h.
abbrev pub fits : ℕ → ℤ → Bool
fits h z = not (int_lt z (pos 0 -ℤ pos h)) && int_lt z (pos h)

-- The two's complement below 2 * h of a signed number that fits.
abbrev pub unsigned : ℕ → ℤ → ℕ
unsigned h (pos n) = n
unsigned h (negsuc n) = 2 * h - (n + 1)

-- The word of 64 bits that stands for the same signed number as the low bits of a.
abbrev pub sign_extension_of : Width → ℕ → ℕ
sign_extension_of w a = if nat_le (half w) (cut w a) then cut w a + (size W64 - size w) else cut w a

-- The flags of a result: carry and overflow as told, zero and sign by the result.
abbrev pub flags_of : Width → Bool → Bool → ℕ → Flags
flags_of w carry over r = record { cf = carry; zf = r == 0; sf = nat_le (half w) r; of = over }
