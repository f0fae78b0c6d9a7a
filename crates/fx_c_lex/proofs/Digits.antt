-- The value of digits only grows.
use Rattle.std.proofs.Common.{◌≡◌, ℕ, List, [], ◌∷◌, ◌+◌, ◌*◌, ◌≤◌, ◌<◌, sym, ap, ◌∙◌, arith, drop, length, get_or, subst, add-one}
use Rattle.std.specs.Prelude.{true, All, take}
use Rattle.std.specs.List.{prefix_len}
use Rattle.std.specs.Char.{is_ascii_digit, is_ascii_hexdigit}
use Rattle.std.proofs.Math.Seq.{drop-cons}
use Rattle.std.proofs.lemmas.List.{get_or-take, length-take-le}
use Rattle.std.proofs.lemmas.List.Elements.{All-from_get_or}
use Rattle.std.proofs.lemmas.List.Sums.{prefix_len_passes, prefix_len-le-length}
use Rattle.std.proofs.lemmas.Bool.Decides.{nat_tests}
use Rattle.fx_c_lex.specs.declared.numbers.Base.{Base}
use Rattle.fx_c_lex.specs.declared.numbers.Base.TheVariants.{Decimal, Hexadecimal}
use Rattle.fx_c_lex.specs.Numbers.{is_digit_of, radix, digit_value, value_after}

times_radix : (base : Base) (value d : ℕ) → value ≤ radix base * value + d
times_radix Decimal value d = omega arith
times_radix Hexadecimal value d = omega arith

pub value_after-ge : (base : Base) (value : ℕ) (digits : List ℕ) → value ≤ value_after base value digits
value_after-ge base value [] = omega arith
value_after-ge base value (b ∷ digits) =
    let here = times_radix base value (digit_value b) in
    let later = value_after-ge base (radix base * value + digit_value b) digits in
    omega arith

-- one digit
pub value_step : (base : Base) (value i n : ℕ) (digits : List ℕ) → i < length digits → value_after base value (drop i digits) ≡ n → value_after base (radix base * value + digit_value (get_or digits i 0)) (drop (i + 1) digits) ≡ n
value_step base value i n digits h e =
    let split : drop i digits ≡ get_or digits i 0 ∷ drop (i + 1) digits = rw add-one (drop-cons digits i 0 h) in
    ap (value_after base value) (sym split) ∙ e

pub value_stop : (base : Base) (value i n bound : ℕ) (digits : List ℕ) → i < length digits → value_after base value (drop i digits) ≡ n → bound ≤ radix base * value + digit_value (get_or digits i 0) → bound ≤ n
value_stop base value i n bound digits h e large =
    let more = value_after-ge base (radix base * value + digit_value (get_or digits i 0)) (drop (i + 1) digits) in
    let same = value_step base value i n digits h e in
    omega arith

pub ruleset value_steps = (value_step, value_stop)

digit_from_48 : (base : Base) (b : ℕ) → is_digit_of base b ≡ true → 48 ≤ b
digit_from_48 Decimal b digit = decimal_digit b digit
  where
    decimal_digit : (b : ℕ) → is_ascii_digit b ≡ true → 48 ≤ b
    decimal_digit b digit = grind (arith, nat_tests)
digit_from_48 Hexadecimal b digit = hexadecimal_digit b digit
  where
    hexadecimal_digit : (b : ℕ) → is_ascii_hexdigit b ≡ true → 48 ≤ b
    hexadecimal_digit b digit = grind (arith, nat_tests)

pub all_digits : (base : Base) (bytes : List ℕ) (n : ℕ) → n ≡ prefix_len (is_digit_of base) bytes → All (λ b. 48 ≤ b) (take n bytes)
all_digits base bytes n at =
    let within : n ≤ length bytes = omega (arith, prefix_len-le-length (is_digit_of base) bytes) in
    let long : length (take n bytes) ≡ n = length-take-le n bytes within in
    All-from_get_or (λ b. 48 ≤ b) (take n bytes) 0 (λ i lt.
    let below : i < n = omega arith in
    let passes : is_digit_of base (get_or bytes i 0) ≡ true = prefix_len_passes (is_digit_of base) bytes i 0 (omega arith) in
    subst (λ b. 48 ≤ b) (sym (get_or-take n bytes i 0 below)) (digit_from_48 base (get_or bytes i 0) passes))
