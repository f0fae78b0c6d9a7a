-- Numbers: their digits, their suffix and the list of types that the suffix and the base give.
use Rattle.std.specs.Prelude.{ℕ, Bool, true, false, List, [], ◌∷◌, Option, Some, None, ◌==◌, ◌||◌, ◌&&◌, ◌+◌, ◌*◌, ◌-◌, ◌^◌, if◌then◌else◌, nat_le, nat_lt, drop}
use Rattle.std.specs.List.{prefix_len, take_while}
use Rattle.std.specs.Char.{is_ascii_digit, is_ascii_hexdigit}
use Rattle.fx_c_lex.specs.declared.token.TokenKind.{TokenKind}
use Rattle.fx_c_lex.specs.declared.token.TokenKind.TheVariants.{Number}
use Rattle.fx_c_lex.specs.declared.numbers.NumberType.{NumberType}
use Rattle.fx_c_lex.specs.declared.numbers.NumberType.TheVariants.{Int, UnsignedInt, Long, UnsignedLong}
use Rattle.fx_c_lex.specs.declared.numbers.Suffix.{Suffix}
use Rattle.fx_c_lex.specs.declared.numbers.Suffix.TheVariants.{NoSuffix, U, L, UL}
use Rattle.fx_c_lex.specs.declared.numbers.Base.{Base}
use Rattle.fx_c_lex.specs.declared.numbers.Base.TheVariants.{Decimal, Hexadecimal}
use Rattle.fx_c_lex.specs.Bytes.{byte_at}

-- A type holds the numbers below its limit.
abbrev pub limit : NumberType → ℕ
limit Int = 2 ^ 31
limit UnsignedInt = 2 ^ 32
limit Long = 2 ^ 63
limit UnsignedLong = 2 ^ 64

abbrev pub is_unsigned : NumberType → Bool
is_unsigned Int = false
is_unsigned UnsignedInt = true
is_unsigned Long = false
is_unsigned UnsignedLong = true

abbrev pub is_long : NumberType → Bool
is_long Int = false
is_long UnsignedInt = false
is_long Long = true
is_long UnsignedLong = true

abbrev pub is_u : ℕ → Bool
is_u b = b == 117 || b == 85

abbrev pub is_l : ℕ → Bool
is_l b = b == 108 || b == 76

-- The suffix that these bytes, all of them, are, in either case.
abbrev pub suffix_of : List ℕ → Option Suffix
suffix_of [] = Some NoSuffix
suffix_of (a ∷ []) = if is_u a then Some U else (if is_l a then Some L else None)
suffix_of (a ∷ b ∷ []) = if is_u a && is_l b then Some UL else None
suffix_of (a ∷ b ∷ c ∷ bytes) = None

-- The types that a number may have; it has the first that holds its value.
abbrev pub types_of : Base → Suffix → List NumberType
types_of Decimal NoSuffix = Int ∷ Long ∷ []
types_of Hexadecimal NoSuffix = Int ∷ UnsignedInt ∷ Long ∷ UnsignedLong ∷ []
types_of base U = UnsignedInt ∷ UnsignedLong ∷ []
types_of Decimal L = Long ∷ []
types_of Hexadecimal L = Long ∷ UnsignedLong ∷ []
types_of base UL = UnsignedLong ∷ []

abbrev pub first_holding : ℕ → List NumberType → Option TokenKind
first_holding value [] = None
first_holding value (ty ∷ tys) = if nat_lt value (limit ty) then Some (Number value (is_unsigned ty) (is_long ty)) else first_holding value tys

abbrev pub radix : Base → ℕ
radix Decimal = 10
radix Hexadecimal = 16

abbrev pub is_digit_of : Base → ℕ → Bool
is_digit_of Decimal b = is_ascii_digit b
is_digit_of Hexadecimal b = is_ascii_hexdigit b

-- `0` to `9`, `A` to `F`, `a` to `f`
abbrev pub digit_value : ℕ → ℕ
digit_value b = if nat_le 97 b then b - 87 else (if nat_le 65 b then b - 55 else b - 48)

-- The value of digits behind digits of the value given.
abbrev pub value_after : Base → ℕ → List ℕ → ℕ
value_after base value [] = value
value_after base value (b ∷ bytes) = value_after base (radix base * value + digit_value b) bytes

abbrev pub with_suffix : Base → ℕ → Option Suffix → Option TokenKind
with_suffix base value None = None
with_suffix base value (Some suffix) = first_holding value (types_of base suffix)

-- Digits, and behind them the suffix.
abbrev pub typed : Base → List ℕ → Option TokenKind
typed base bytes = with_suffix base (value_after base 0 (take_while (is_digit_of base) bytes)) (suffix_of (drop (prefix_len (is_digit_of base) bytes) bytes))

-- `0`, or digits that don't begin with 0
abbrev pub decimal : List ℕ → Option TokenKind
decimal bytes = if byte_at bytes 0 == 48 && nat_le 2 (prefix_len is_ascii_digit bytes) then None else typed Decimal bytes

-- at least one digit behind `0x`
abbrev pub hexadecimal : List ℕ → Option TokenKind
hexadecimal bytes = if nat_le 1 (prefix_len is_ascii_hexdigit bytes) then typed Hexadecimal bytes else None

-- The number that these bytes, all of them, are; the first is a digit.
abbrev pub number : List ℕ → Option TokenKind
number bytes = if byte_at bytes 0 == 48 && byte_at bytes 1 == 120 then hexadecimal (drop 2 bytes) else decimal bytes
