-- Each keyword and sign by its spelling: what the bytes of a token mean tells its spelling.
use Rattle.std.proofs.Common.{◌≡◌, ℕ, Bool, true, false, List, [], ◌∷◌, ◌<◌, Option, Some, None, refl, sym, ap, ◌∙◌, subst, cond, length, get_or}
use Rattle.std.specs.Prelude.{◌↔◌, ◌==◌, ◌&&◌, codes, nat_le, nat_lt, drop}
use Rattle.std.specs.List.{list_all, prefix_len, take_while}
use Rattle.std.specs.Char.{is_ascii_digit, is_ascii_hexdigit}
use Rattle.std.specs.Str.{bytes_eq}
use Rattle.std.proofs.lemmas.List.Quantifiers.{position-Some}
use Rattle.std.proofs.lemmas.Slice.Eq.{bytes_eq-Decides}
use Rattle.fx_c_lex.specs.declared.token.TokenKind.{TokenKind}
use Rattle.fx_c_lex.specs.declared.token.TokenKind.TheVariants.{Name, Keyword, Number, Sign}
use Rattle.fx_c_lex.specs.declared.numbers.NumberType.{NumberType}
use Rattle.fx_c_lex.specs.declared.numbers.Suffix.{Suffix}
use Rattle.fx_c_lex.specs.declared.numbers.Base.{Base}
use Rattle.fx_c_lex.specs.declared.numbers.Base.TheVariants.{Decimal, Hexadecimal}
use Rattle.fx_c_lex.specs.Bytes.{is_word_byte, byte_at}
use Rattle.fx_c_lex.specs.Words.{keywords, signs, place_of, keyword_or_name, sign_by, sign}
use Rattle.fx_c_lex.specs.Numbers.{limit, is_unsigned, is_long, first_holding, types_of, suffix_of, is_digit_of, value_after, with_suffix, typed, number, decimal, hexadecimal}
use Rattle.fx_c_lex.specs.Quoted.{contents, character_by, string_by, character, string}
use Rattle.fx_c_lex.specs.Lexis.{word, meaning}
use Rattle.fx_c_lex.specs.Terminals.{IsKeyword, IsSign, KeywordsAreSpelled, SignsAreSpelled}

-- neither a keyword nor punctuation
abbrev IsOther : Option TokenKind → Type 0
IsOther None = Unit {0}
IsOther (Some (Keyword n)) = ⊥
IsOther (Some (Sign n)) = ⊥
IsOther (Some _) = Unit {0}

other_either : (t : Bool) (x y : Option TokenKind) → IsOther x → IsOther y → IsOther (cond t x y)
other_either true x y h g = h
other_either false x y h g = g

other_holding : (value : ℕ) (tys : List NumberType) → IsOther (first_holding value tys)
other_holding value [] = tt
other_holding value (ty ∷ tys) = other_either (nat_lt value (limit ty)) (Some (Number value (is_unsigned ty) (is_long ty))) (first_holding value tys) tt (other_holding value tys)

other_suffix : (base : Base) (value : ℕ) (s : Option Suffix) → IsOther (with_suffix base value s)
other_suffix base value None = tt
other_suffix base value (Some s) = other_holding value (types_of base s)

other_typed : (base : Base) (bytes : List ℕ) → IsOther (typed base bytes)
other_typed base bytes = other_suffix base (value_after base 0 (take_while (is_digit_of base) bytes)) (suffix_of (drop (prefix_len (is_digit_of base) bytes) bytes))

other_hexadecimal : (bytes : List ℕ) → IsOther (hexadecimal bytes)
other_hexadecimal bytes = other_either (nat_le 1 (prefix_len is_ascii_hexdigit bytes)) (typed Hexadecimal bytes) None (other_typed Hexadecimal bytes) tt

other_decimal : (bytes : List ℕ) → IsOther (decimal bytes)
other_decimal bytes = other_either (byte_at bytes 0 == 48 && nat_le 2 (prefix_len is_ascii_digit bytes)) None (typed Decimal bytes) tt (other_typed Decimal bytes)

other_number : (bytes : List ℕ) → IsOther (number bytes)
other_number bytes = other_either (byte_at bytes 0 == 48 && byte_at bytes 1 == 120) (hexadecimal (drop 2 bytes)) (decimal bytes) (other_hexadecimal (drop 2 bytes)) (other_decimal bytes)

other_character : (found : Option (List ℕ)) → IsOther (character_by found)
other_character None = tt
other_character (Some []) = tt
other_character (Some (b ∷ [])) = tt
other_character (Some (b ∷ c ∷ bytes)) = tt

other_string : (found : Option (List ℕ)) → IsOther (string_by found)
other_string None = tt
other_string (Some bytes) = tt

-- what two choices say is said by the one taken
chosen : {P : Type 0} (t : Bool) (x y : Option TokenKind) (k : TokenKind) → (x ≡ Some k → P) → (y ≡ Some k → P) → cond t x y ≡ Some k → P
chosen true x y k f g e = f e
chosen false x y k f g e = g e

no_keyword : {P : Type 0} (x : Option TokenKind) (n : ℕ) → IsOther x → x ≡ Some (Keyword n) → P
no_keyword x n h e = absurd (subst IsOther e h)

no_sign : {P : Type 0} (x : Option TokenKind) (n : ℕ) → IsOther x → x ≡ Some (Sign n) → P
no_sign x n h e = absurd (subst IsOther e h)

keyword_place : (bytes : List ℕ) (n : ℕ) (o : Option ℕ) → keyword_or_name bytes o ≡ Some (Keyword n) → o ≡ Some n
keyword_place bytes n None e = no_keyword (keyword_or_name bytes None) n (other_either (nat_le (length bytes) 63) (Some Name) None tt tt) e
keyword_place bytes n (Some m) e = cc

sign_place : (n : ℕ) (o : Option ℕ) → sign_by o ≡ Some (Sign n) → o ≡ Some n
sign_place n None e = cc
sign_place n (Some m) e = cc

word_no_sign : {P : Type 0} (bytes : List ℕ) (n : ℕ) (o : Option ℕ) → keyword_or_name bytes o ≡ Some (Sign n) → P
word_no_sign bytes n None e = no_sign (keyword_or_name bytes None) n (other_either (nat_le (length bytes) 63) (Some Name) None tt tt) e
word_no_sign bytes n (Some m) e = absurd cc

sign_no_keyword : {P : Type 0} (n : ℕ) (o : Option ℕ) → sign_by o ≡ Some (Keyword n) → P
sign_no_keyword n None e = absurd cc
sign_no_keyword n (Some m) e = absurd cc

-- what stands behind a quote, or is punctuation
quoted : ℕ → List ℕ → Option TokenKind
quoted b bytes = cond (b == 39) (character bytes) (cond (b == 34) (string bytes) (sign (b ∷ bytes)))

lettered : List ℕ → Option TokenKind
lettered bytes = cond (is_ascii_digit (byte_at bytes 0)) (number bytes) (keyword_or_name bytes (place_of keywords bytes))

keyword_quoted : {P : Type 0} (b : ℕ) (bytes : List ℕ) (n : ℕ) → quoted b bytes ≡ Some (Keyword n) → P
unfolding quoted
keyword_quoted b bytes n =
    chosen (b == 39) (character bytes) (cond (b == 34) (string bytes) (sign (b ∷ bytes))) (Keyword n) (no_keyword (character bytes) n (other_character (contents 39 false bytes)))
    (chosen (b == 34) (string bytes) (sign (b ∷ bytes)) (Keyword n) (no_keyword (string bytes) n (other_string (contents 34 false bytes)))
    (sign_no_keyword n (place_of signs (b ∷ bytes))))

keyword_lettered : (bytes : List ℕ) (n : ℕ) → lettered bytes ≡ Some (Keyword n) → place_of keywords bytes ≡ Some n
unfolding lettered
keyword_lettered bytes n =
    chosen (is_ascii_digit (byte_at bytes 0)) (number bytes) (keyword_or_name bytes (place_of keywords bytes)) (Keyword n) (no_keyword (number bytes) n (other_number bytes)) (keyword_place bytes n (place_of keywords bytes))

keyword_means : (bytes : List ℕ) (n : ℕ) → meaning bytes ≡ Some (Keyword n) → place_of keywords bytes ≡ Some n
unfolding quoted lettered
keyword_means [] n e = absurd cc
keyword_means (b ∷ bytes) n e =
    chosen (is_word_byte b) (word (b ∷ bytes)) (quoted b bytes) (Keyword n)
    (chosen (list_all is_word_byte (b ∷ bytes)) (lettered (b ∷ bytes)) None (Keyword n) (keyword_lettered (b ∷ bytes) n) (no_keyword None n tt))
    (keyword_quoted b bytes n) e

sign_quoted : (b : ℕ) (bytes : List ℕ) (n : ℕ) → quoted b bytes ≡ Some (Sign n) → place_of signs (b ∷ bytes) ≡ Some n
unfolding quoted
sign_quoted b bytes n =
    chosen (b == 39) (character bytes) (cond (b == 34) (string bytes) (sign (b ∷ bytes))) (Sign n) (no_sign (character bytes) n (other_character (contents 39 false bytes)))
    (chosen (b == 34) (string bytes) (sign (b ∷ bytes)) (Sign n) (no_sign (string bytes) n (other_string (contents 34 false bytes)))
    (sign_place n (place_of signs (b ∷ bytes))))

sign_lettered : {P : Type 0} (bytes : List ℕ) (n : ℕ) → lettered bytes ≡ Some (Sign n) → P
unfolding lettered
sign_lettered bytes n =
    chosen (is_ascii_digit (byte_at bytes 0)) (number bytes) (keyword_or_name bytes (place_of keywords bytes)) (Sign n) (no_sign (number bytes) n (other_number bytes)) (word_no_sign bytes n (place_of keywords bytes))

sign_means : (bytes : List ℕ) (n : ℕ) → meaning bytes ≡ Some (Sign n) → place_of signs bytes ≡ Some n
unfolding quoted lettered
sign_means [] n e = absurd cc
sign_means (b ∷ bytes) n e =
    chosen (is_word_byte b) (word (b ∷ bytes)) (quoted b bytes) (Sign n)
    (chosen (list_all is_word_byte (b ∷ bytes)) (lettered (b ∷ bytes)) None (Sign n) (sign_lettered (b ∷ bytes) n) (no_sign None n tt))
    (sign_quoted b bytes n) e

spelled_at : (spellings : List (List ℕ)) (bytes : List ℕ) (n : ℕ) → place_of spellings bytes ≡ Some n → bytes ≡ get_or spellings n []
spelled_at spellings bytes n e = sym ((bytes_eq-Decides (get_or spellings n []) bytes).0 (position-Some (λ spelling. bytes_eq spelling bytes) spellings n [] e).1)

keyword : (n : ℕ) (spelling : List ℕ) → get_or keywords n [] ≡ spelling → meaning spelling ≡ Some (Keyword n) → IsKeyword n spelling
keyword n spelling at means bytes = ((λ e. spelled_at keywords bytes n (keyword_means bytes n e) ∙ at), (λ e. ap meaning e ∙ means))

punctuation : (n : ℕ) (spelling : List ℕ) → get_or signs n [] ≡ spelling → meaning spelling ≡ Some (Sign n) → IsSign n spelling
punctuation n spelling at means bytes = ((λ e. spelled_at signs bytes n (sign_means bytes n e) ∙ at), (λ e. ap meaning e ∙ means))

pub keywords_are_spelled : KeywordsAreSpelled
keywords_are_spelled = record {
  is_char = keyword 0 (codes "char") refl refl;
  is_short = keyword 1 (codes "short") refl refl;
  is_int = keyword 2 (codes "int") refl refl;
  is_long = keyword 3 (codes "long") refl refl;
  is_unsigned = keyword 4 (codes "unsigned") refl refl;
  is_void = keyword 5 (codes "void") refl refl;
  is_struct = keyword 6 (codes "struct") refl refl;
  is_if = keyword 7 (codes "if") refl refl;
  is_else = keyword 8 (codes "else") refl refl;
  is_while = keyword 9 (codes "while") refl refl;
  is_for = keyword 10 (codes "for") refl refl;
  is_break = keyword 11 (codes "break") refl refl;
  is_continue = keyword 12 (codes "continue") refl refl;
  is_return = keyword 13 (codes "return") refl refl;
  is_sizeof = keyword 14 (codes "sizeof") refl refl;
  is_shared = keyword 15 (codes "__shared") refl refl;
  is_entry = keyword 16 (codes "__entry") refl refl;
  is_gate = keyword 17 (codes "__gate") refl refl;
  is_putc = keyword 18 (codes "__putc") refl refl;
  is_getc = keyword 19 (codes "__getc") refl refl;
  is_in = keyword 20 (codes "__in") refl refl;
  is_out = keyword 21 (codes "__out") refl refl;
  is_spawn = keyword 22 (codes "__spawn") refl refl;
  is_switch = keyword 23 (codes "__switch") refl refl;
  is_self = keyword 24 (codes "__self") refl refl;
  is_read = keyword 25 (codes "__read") refl refl;
}

pub signs_are_spelled : SignsAreSpelled
signs_are_spelled = record {
  is_open_paren = punctuation 0 (codes "(") refl refl;
  is_close_paren = punctuation 1 (codes ")") refl refl;
  is_open_brace = punctuation 2 (codes "{") refl refl;
  is_close_brace = punctuation 3 (codes "}") refl refl;
  is_open_bracket = punctuation 4 (codes "[") refl refl;
  is_close_bracket = punctuation 5 (codes "]") refl refl;
  is_semicolon = punctuation 6 (codes ";") refl refl;
  is_comma = punctuation 7 (codes ",") refl refl;
  is_dot = punctuation 8 (codes ".") refl refl;
  is_arrow = punctuation 9 (codes "->") refl refl;
  is_assign = punctuation 10 (codes "=") refl refl;
  is_equal = punctuation 11 (codes "==") refl refl;
  is_not_equal = punctuation 12 (codes "!=") refl refl;
  is_less = punctuation 13 (codes "<") refl refl;
  is_greater = punctuation 14 (codes ">") refl refl;
  is_less_equal = punctuation 15 (codes "<=") refl refl;
  is_greater_equal = punctuation 16 (codes ">=") refl refl;
  is_shift_left = punctuation 17 (codes "<<") refl refl;
  is_shift_right = punctuation 18 (codes ">>") refl refl;
  is_plus = punctuation 19 (codes "+") refl refl;
  is_minus = punctuation 20 (codes "-") refl refl;
  is_star = punctuation 21 (codes "*") refl refl;
  is_slash = punctuation 22 (codes "/") refl refl;
  is_percent = punctuation 23 (codes "%") refl refl;
  is_ampersand = punctuation 24 (codes "&") refl refl;
  is_bar = punctuation 25 (codes "|") refl refl;
  is_caret = punctuation 26 (codes "^") refl refl;
  is_tilde = punctuation 27 (codes "~") refl refl;
  is_bang = punctuation 28 (codes "!") refl refl;
  is_and_and = punctuation 29 (codes "&&") refl refl;
  is_bar_bar = punctuation 30 (codes "||") refl refl;
}
