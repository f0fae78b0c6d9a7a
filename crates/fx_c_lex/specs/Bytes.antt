-- Classes of bytes (this project's C profile; ASCII codes).
use Rattle.std.specs.Prelude.{ℕ, Bool, List, ◌==◌, ◌||◌, slice_index_or}
use Rattle.std.specs.Char.{is_ascii_digit, is_ascii_alphabetic}

-- space, tab, carriage return, line feed
abbrev pub is_white_space : ℕ → Bool
is_white_space b = ((b == 32 || b == 9) || b == 13) || b == 10

-- a letter or `_`: what a name begins with
abbrev pub is_letter : ℕ → Bool
is_letter b = is_ascii_alphabetic b || b == 95

-- a letter, digit or `_`: what names, keywords and numbers are made of
abbrev pub is_word_byte : ℕ → Bool
is_word_byte b = is_letter b || is_ascii_digit b

-- The byte at a place, or 0, which is in no class, past the end.
abbrev pub byte_at : List ℕ → ℕ → ℕ
byte_at text n = slice_index_or text n 0
