-- Integer types and their arithmetic (C11 6.2.5, 6.3.1.3, 6.5.3.3, 6.5.5 to 6.5.14). An integer is the
-- word that stands for it in two's complement. Where C leaves a choice: sums, differences, products,
-- shifts and conversions wrap, a shift count is masked, and a signed right shift keeps the sign.
use Rattle.std.specs.Prelude.{ℕ, ◌+◌, ◌-◌, ◌*◌, ◌/◌, ◌%◌, ◌^◌, Bool, true, false, not, ◌&&◌, nat_eq, int_lt, int_div, int_rem, bit_and, bit_or, bit_xor, ℤ, pos, negsuc, if◌then◌else◌, Result, Ok, Err}
use Rattle.std.specs.Int.Signed.{shr_z}
use Rattle.fx_x64_forms.specs.declared.operand.Width.{Width}
use Rattle.fx_x64_forms.specs.declared.operand.Width.TheVariants.{W8, W16, W32, W64}
use Rattle.fx_word_ops.specs.Words.{bit_count, half, size, cut, signed, fits, sign_extension_of}
use Rattle.fx_c_ast.specs.declared.operator.IntType.{IntType}
use Rattle.fx_c_ast.specs.declared.operator.IntType.TheVariants.{Char, Uchar, Short, Ushort, Int, Uint, Long, Ulong}
use Rattle.fx_c_ast.specs.declared.operator.Binop.{Binop}
use Rattle.fx_c_ast.specs.declared.operator.Binop.TheVariants.{Add, Sub, Mul, Div, Rem, Shl, Shr, Lt, Gt, Le, Ge, Eq, Ne, And, Xor, Or, Land, Lor}
use Rattle.fx_c_mean_blocks.specs.declared.fault.Fault.{Fault}
use Rattle.fx_c_mean_blocks.specs.declared.fault.Fault.TheVariants.{Divide, Undefined}

-- 8, 16, 32 or 64 bits
abbrev pub width_of : IntType → Width
width_of Char = W8
width_of Uchar = W8
width_of Short = W16
width_of Ushort = W16
width_of Int = W32
width_of Uint = W32
width_of Long = W64
width_of Ulong = W64

-- `char` is signed
abbrev pub is_signed : IntType → Bool
is_signed Char = true
is_signed Uchar = false
is_signed Short = true
is_signed Ushort = false
is_signed Int = true
is_signed Uint = false
is_signed Long = true
is_signed Ulong = false

-- a number wrapped into a type, modulo 2 ^ 8, 2 ^ 16, 2 ^ 32 or 2 ^ 64
abbrev pub wrapped : IntType → ℕ → ℕ
wrapped i n = cut (width_of i) n

-- the number that a word of a type stands for
abbrev pub number : IntType → ℕ → ℤ
number i w = if is_signed i then signed (half (width_of i)) (wrapped i w) else pos (wrapped i w)

-- the word of a width for a number, which wraps
abbrev pub word : Width → ℤ → ℕ
word w (pos n) = cut w n
word w (negsuc n) = size w - 1 - cut w n

-- the word of 64 bits for the number that a word of a type stands for
abbrev pub extended : IntType → ℕ → ℕ
extended i w = if is_signed i then sign_extension_of (width_of i) w else wrapped i w

-- conversion to another type (6.3.1.3)
abbrev pub converted : IntType → IntType → ℕ → ℕ
converted from to w = wrapped to (extended from w)

abbrev pub truth : Bool → ℕ
truth true = 1
truth false = 0

-- whether a quotient has no word of a type: an unsigned one always has
abbrev pub overflows : IntType → ℤ → Bool
overflows i quotient = if is_signed i then not (fits (half (width_of i)) quotient) else false

-- a division by b is not defined where b is 0 or the quotient does not fit (6.5.5; a remainder too)
abbrev pub has_quotient : IntType → ℕ → ℤ → Bool
has_quotient i b quotient = not (nat_eq (wrapped i b) 0) && not (overflows i quotient)

abbrev pub divided : IntType → ℕ → ℤ → ℤ → Result ℕ Fault
divided i b quotient answer = if has_quotient i b quotient then Ok (word (width_of i) answer) else Err Divide

-- the bits of a shift count that count: 5 where the shifted operand has 32 bits, 6 where it has 64
abbrev pub shift_count : IntType → ℕ → ℕ
shift_count i w = w % bit_count (width_of i)

abbrev pub shifted_right : IntType → ℕ → ℕ → ℕ
shifted_right i a n = if is_signed i then word (width_of i) (shr_z (number i a) (2 ^ n)) else wrapped i a / 2 ^ n

-- An operator at two words of a type; the second of a shift may have another type. `&&` and `||` are no
-- operators at two values.
abbrev pub integer_result : Binop → IntType → ℕ → ℕ → Result ℕ Fault
integer_result Add i a b = Ok (wrapped i (wrapped i a + wrapped i b))
integer_result Sub i a b = Ok (wrapped i (wrapped i a + (size (width_of i) - wrapped i b)))
integer_result Mul i a b = Ok (wrapped i (wrapped i a * wrapped i b))
integer_result Div i a b = divided i b (int_div (number i a) (number i b)) (int_div (number i a) (number i b))
integer_result Rem i a b = divided i b (int_div (number i a) (number i b)) (int_rem (number i a) (number i b))
integer_result Shl i a b = Ok (wrapped i (wrapped i a * 2 ^ shift_count i b))
integer_result Shr i a b = Ok (shifted_right i a (shift_count i b))
integer_result Lt i a b = Ok (truth (int_lt (number i a) (number i b)))
integer_result Gt i a b = Ok (truth (int_lt (number i b) (number i a)))
integer_result Le i a b = Ok (truth (not (int_lt (number i b) (number i a))))
integer_result Ge i a b = Ok (truth (not (int_lt (number i a) (number i b))))
integer_result Eq i a b = Ok (truth (nat_eq a b))
integer_result Ne i a b = Ok (truth (not (nat_eq a b)))
integer_result And i a b = Ok (bit_and a b)
integer_result Xor i a b = Ok (bit_xor a b)
integer_result Or i a b = Ok (bit_or a b)
integer_result Land i a b = Err Undefined
integer_result Lor i a b = Err Undefined
