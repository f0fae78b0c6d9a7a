-- Tokens as the grammar sees them: with the bytes of a name, and without places.
use Rattle.std.specs.Prelude.{ℕ, Bool, true, false, List, [], ◌∷◌, Option, Some, None, ◌==◌, ◌&&◌, if◌then◌else◌, nat_le, length, slice_range}
use Rattle.fx_c_ast.specs.declared.operator.IntType.{IntType}
use Rattle.fx_c_ast.specs.declared.operator.IntType.TheVariants.{Int, Uint, Long, Ulong}
use Rattle.fx_c_lex.specs.declared.token.Token.{Token}
use Rattle.fx_c_lex.specs.declared.token.TokenKind.{TokenKind}
use Rattle.fx_c_lex.specs.declared.token.TokenKind.TheVariants.{Name, Keyword, Number, Char, Text, Sign}
use Rattle.fx_c_parse.specs.declared.cursor.Cursor.{Cursor}

pub data Word : Type 0 where
  NameWord : (bytes : List ℕ) → Word
  KeywordWord : (number : ℕ) → Word
  NumberWord : (value : ℕ) (ty : IntType) → Word
  CharWord : (byte : ℕ) → Word
  TextWord : (bytes : List ℕ) → Word
  SignWord : (number : ℕ) → Word

-- the type that a number token tells by two marks
abbrev pub number_type : (unsigned long : Bool) → IntType
number_type false false = Int
number_type true false = Uint
number_type false true = Long
number_type true true = Ulong

-- the bytes of a text from a place to another
abbrev pub name_bytes : List ℕ → ℕ → ℕ → List ℕ
name_bytes text start end = if nat_le start end && nat_le end (length text) then slice_range text start end else []

-- the word of a token whose bytes are these
abbrev pub kind_word : List ℕ → TokenKind → Word
kind_word bytes Name = NameWord bytes
kind_word bytes (Keyword number) = KeywordWord number
kind_word bytes (Number value unsigned long) = NumberWord value (number_type unsigned long)
kind_word bytes (Char byte) = CharWord byte
kind_word bytes (Text contents) = TextWord contents
kind_word bytes (Sign number) = SignWord number

abbrev pub word_of : List ℕ → Token → Word
word_of text t = kind_word (name_bytes text t.start t.end) t.kind

abbrev pub words : List ℕ → List Token → List Word
words text [] = []
words text (t ∷ ts) = word_of text t ∷ words text ts

-- the words that are still to be read
abbrev pub rest_of : Cursor → List Word
rest_of at = words at.text.now at.tokens.now

abbrev pub first_sign : List Word → Option ℕ
first_sign [] = None
first_sign (SignWord number ∷ ws) = Some number
first_sign (NameWord bytes ∷ ws) = None
first_sign (KeywordWord number ∷ ws) = None
first_sign (NumberWord value ty ∷ ws) = None
first_sign (CharWord byte ∷ ws) = None
first_sign (TextWord bytes ∷ ws) = None

abbrev pub first_keyword : List Word → Option ℕ
first_keyword [] = None
first_keyword (KeywordWord number ∷ ws) = Some number
first_keyword (NameWord bytes ∷ ws) = None
first_keyword (SignWord number ∷ ws) = None
first_keyword (NumberWord value ty ∷ ws) = None
first_keyword (CharWord byte ∷ ws) = None
first_keyword (TextWord bytes ∷ ws) = None

abbrev pub first_name : List Word → Option (List ℕ)
first_name [] = None
first_name (NameWord bytes ∷ ws) = Some bytes
first_name (KeywordWord number ∷ ws) = None
first_name (SignWord number ∷ ws) = None
first_name (NumberWord value ty ∷ ws) = None
first_name (CharWord byte ∷ ws) = None
first_name (TextWord bytes ∷ ws) = None

abbrev pub first_number : List Word → Option ℕ
first_number [] = None
first_number (NumberWord value ty ∷ ws) = Some value
first_number (NameWord bytes ∷ ws) = None
first_number (KeywordWord number ∷ ws) = None
first_number (SignWord number ∷ ws) = None
first_number (CharWord byte ∷ ws) = None
first_number (TextWord bytes ∷ ws) = None

abbrev pub tail : List Word → List Word
tail [] = []
tail (w ∷ ws) = ws

abbrev pub is_number : ℕ → Option ℕ → Bool
is_number n None = false
is_number n (Some m) = m == n

abbrev pub has_sign : ℕ → List Word → Bool
has_sign number ws = is_number number (first_sign ws)

abbrev pub has_keyword : ℕ → List Word → Bool
has_keyword number ws = is_number number (first_keyword ws)

-- the words behind a sign
abbrev pub after_sign : ℕ → List Word → Option (List Word)
after_sign number ws = if has_sign number ws then Some (tail ws) else None
