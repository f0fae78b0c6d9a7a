-- What bytes are that mean a name: a C name.
use Rattle.std.proofs.Common.{◌≡◌, ℕ, suc, Bool, true, false, ◌&&◌, ◌||◌, List, [], ◌∷◌, length}
use Rattle.std.proofs.Common.{Option, Some, None, if◌then◌else◌, refl, sym, subst, arith}
use Rattle.std.specs.Prelude.{nat_le, nat_lt, ◌==◌, drop}
use Rattle.std.specs.List.{list_all, prefix_len, take_while}
use Rattle.std.specs.Int.{is_in_range}
use Rattle.std.specs.Char.{is_ascii_digit, is_ascii_hexdigit, is_ascii_alphabetic}
use Rattle.std.specs.Char.{is_ascii_alphanumeric}
use Rattle.std.proofs.lemmas.Bool.{and_from, and_parts, leb-true, le-leb}
use Rattle.fx_c_lex.specs.declared.token.TokenKind.{TokenKind}
use Rattle.fx_c_lex.specs.declared.token.TokenKind.TheVariants as kind
use Rattle.fx_c_lex.specs.declared.numbers.NumberType.{NumberType}
use Rattle.fx_c_lex.specs.declared.numbers.Suffix.{Suffix}
use Rattle.fx_c_lex.specs.declared.numbers.Base.{Base}
use Rattle.fx_c_lex.specs.declared.numbers.Base.TheVariants.{Decimal, Hexadecimal}
use Rattle.fx_c_lex.specs.Bytes.{is_word_byte, byte_at}
use Rattle.fx_c_lex.specs.Numbers.{limit, is_unsigned, is_long, suffix_of, types_of, first_holding}
use Rattle.fx_c_lex.specs.Numbers.{value_after, is_digit_of, with_suffix, typed, decimal}
use Rattle.fx_c_lex.specs.Numbers.{hexadecimal, number}
use Rattle.fx_c_lex.specs.Quoted.{contents, character_by, string_by, character, string}
use Rattle.fx_c_lex.specs.Words.{keywords, signs, place_of, keyword_or_name, sign_by, sign}
use Rattle.fx_c_lex.specs.Lexis.{word, meaning}
use Rattle.fx_image.specs.Rules as image

-- if these bytes are a name, it is a C name
abbrev Fits : List ℕ → Option TokenKind → Type 0
Fits bytes None = Unit {0}
Fits bytes (Some kind.Name) = image.is_c_name bytes ≡ true
Fits bytes (Some (kind.Keyword keyword)) = Unit {0}
Fits bytes (Some (kind.Number value unsigned long)) = Unit {0}
Fits bytes (Some (kind.Char byte)) = Unit {0}
Fits bytes (Some (kind.Text text)) = Unit {0}
Fits bytes (Some (kind.Sign punctuation)) = Unit {0}

either : (bytes : List ℕ) (test : Bool) (x y : Option TokenKind)
    → (test ≡ true → Fits bytes x) → (test ≡ false → Fits bytes y)
    → Fits bytes (if test then x else y)
either bytes true x y first second = first refl
either bytes false x y first second = second refl

-- ---- numbers, characters, strings and signs are no names

holding_fits : (bytes : List ℕ) (value : ℕ) (tys : List NumberType)
    → Fits bytes (first_holding value tys)
holding_fits bytes value [] = tt
holding_fits bytes value (ty ∷ tys) =
    either bytes (nat_lt value (limit ty)) (Some (kind.Number value (is_unsigned ty) (is_long ty)))
    (first_holding value tys) (λ _. tt) (λ _. holding_fits bytes value tys)

suffix_fits : (bytes : List ℕ) (base : Base) (value : ℕ) (suffix : Option Suffix)
    → Fits bytes (with_suffix base value suffix)
suffix_fits bytes base value None = tt
suffix_fits bytes base value (Some suffix) = holding_fits bytes value (types_of base suffix)

typed_fits : (bytes : List ℕ) (base : Base) (digits : List ℕ) → Fits bytes (typed base digits)
typed_fits bytes base digits =
    suffix_fits bytes base (value_after base 0 (take_while (is_digit_of base) digits))
    (suffix_of (drop (prefix_len (is_digit_of base) digits) digits))

number_fits : (bytes digits : List ℕ) → Fits bytes (number digits)
number_fits bytes digits =
    either bytes (byte_at digits 0 == 48 && byte_at digits 1 == 120) (hexadecimal (drop 2 digits))
    (decimal digits)
    (λ _. either bytes (nat_le 1 (prefix_len is_ascii_hexdigit (drop 2 digits)))
    (typed Hexadecimal (drop 2 digits)) None (λ _. typed_fits bytes Hexadecimal (drop 2 digits))
    (λ _. tt))
    (λ _. either bytes (byte_at digits 0 == 48 && nat_le 2 (prefix_len is_ascii_digit digits)) None
    (typed Decimal digits) (λ _. tt) (λ _. typed_fits bytes Decimal digits))

character_fits : (bytes : List ℕ) (found : Option (List ℕ)) → Fits bytes (character_by found)
character_fits bytes None = tt
character_fits bytes (Some []) = tt
character_fits bytes (Some (b ∷ [])) = tt
character_fits bytes (Some (b ∷ c ∷ more)) = tt

string_fits : (bytes : List ℕ) (found : Option (List ℕ)) → Fits bytes (string_by found)
string_fits bytes None = tt
string_fits bytes (Some text) = tt

sign_fits : (bytes : List ℕ) (found : Option ℕ) → Fits bytes (sign_by found)
sign_fits bytes None = tt
sign_fits bytes (Some punctuation) = tt

-- ---- words

-- a byte of a word, in an image's words
word_byte : (upper lower bar digit : Bool) → (((upper || lower) || bar) || digit) ≡ true
    → (((digit || upper) || lower) || bar) ≡ true
word_byte upper lower bar true h = refl
word_byte true lower bar false h = refl
word_byte false true bar false h = refl
word_byte false false true false h = refl
word_byte false false false false h = h

first_byte : (letter digit : Bool) → (letter || digit) ≡ true → digit ≡ false → letter ≡ true
first_byte true digit h none = refl
first_byte false true h none = sym none
first_byte false false h none = h

word_bytes : (bytes : List ℕ) → list_all is_word_byte bytes ≡ true
    → list_all (λ d. is_ascii_alphanumeric d || d == 95) bytes ≡ true
word_bytes [] all = refl
word_bytes (b ∷ bytes) all =
    let parts = and_parts (is_word_byte b) (list_all is_word_byte bytes) all in
    and_from (is_ascii_alphanumeric b || b == 95)
    (list_all (λ d. is_ascii_alphanumeric d || d == 95) bytes)
    (word_byte (is_in_range 65 90 b) (is_in_range 97 122 b) (b == 95) (is_ascii_digit b) parts.0)
    (word_bytes bytes parts.1)

short_rest : (n : ℕ) → nat_le (suc n) 63 ≡ true → nat_le n 62 ≡ true
short_rest n short = le-leb n 62 (omega (arith, leb-true (suc n) 63 short))

named : (b : ℕ) (bytes : List ℕ) → list_all is_word_byte (b ∷ bytes) ≡ true
    → is_ascii_digit b ≡ false → nat_le (suc (length bytes)) 63 ≡ true
    → image.is_c_name (b ∷ bytes) ≡ true
named b bytes all none short =
    let parts = and_parts (is_word_byte b) (list_all is_word_byte bytes) all in
    let rest : Bool = list_all (λ d. is_ascii_alphanumeric d || d == 95) bytes in
    and_from ((is_ascii_alphabetic b || b == 95) && rest) (nat_le (length bytes) 62)
    (and_from (is_ascii_alphabetic b || b == 95) rest
    (first_byte (is_ascii_alphabetic b || b == 95) (is_ascii_digit b) parts.0 none)
    (word_bytes bytes parts.1))
    (short_rest (length bytes) short)

name_fits : (b : ℕ) (bytes : List ℕ) (found : Option ℕ)
    → list_all is_word_byte (b ∷ bytes) ≡ true → is_ascii_digit b ≡ false
    → Fits (b ∷ bytes) (keyword_or_name (b ∷ bytes) found)
name_fits b bytes (Some keyword) all none = tt
name_fits b bytes None all none =
    either (b ∷ bytes) (nat_le (length (b ∷ bytes)) 63) (Some kind.Name) None
    (λ short. named b bytes all none short) (λ _. tt)

word_fits : (b : ℕ) (bytes : List ℕ) → Fits (b ∷ bytes) (word (b ∷ bytes))
word_fits b bytes =
    let spelled : Option TokenKind =
    keyword_or_name (b ∷ bytes) (place_of keywords (b ∷ bytes)) in
    either (b ∷ bytes) (list_all is_word_byte (b ∷ bytes))
    (if is_ascii_digit (byte_at (b ∷ bytes) 0) then number (b ∷ bytes) else spelled) None
    (λ all. either (b ∷ bytes) (is_ascii_digit b) (number (b ∷ bytes)) spelled
    (λ _. number_fits (b ∷ bytes) (b ∷ bytes))
    (λ none. name_fits b bytes (place_of keywords (b ∷ bytes)) all none)) (λ _. tt)

meaning_fits : (bytes : List ℕ) → Fits bytes (meaning bytes)
meaning_fits [] = tt
meaning_fits (b ∷ bytes) =
    let all : List ℕ = b ∷ bytes in
    either all (is_word_byte b) (word all)
    (if b == 39 then character bytes else if b == 34 then string bytes else sign all)
    (λ _. word_fits b bytes) (λ _.
    either all (b == 39) (character bytes) (if b == 34 then string bytes else sign all)
    (λ _. character_fits all (contents 39 false bytes)) (λ _.
    either all (b == 34) (string bytes) (sign all)
    (λ _. string_fits all (contents 34 false bytes)) (λ _.
    sign_fits all (place_of signs all))))

pub name_spelled : (bytes : List ℕ) → meaning bytes ≡ Some kind.Name → image.is_c_name bytes ≡ true
name_spelled bytes is = subst (Fits bytes) is (meaning_fits bytes)
