-- Characters and strings.
use Rattle.std.specs.Prelude.{ℕ, Bool, true, false, List, [], ◌∷◌, Option, Some, None, ◌==◌, ◌&&◌, if◌then◌else◌, nat_le, option_map}
use Rattle.fx_c_lex.specs.declared.token.TokenKind.{TokenKind}
use Rattle.fx_c_lex.specs.declared.token.TokenKind.TheVariants.{Char, Text}
use Rattle.fx_c_lex.specs.declared.quoted.Piece.{Piece}
use Rattle.fx_c_lex.specs.declared.quoted.Piece.TheVariants.{Close, Backslash, Byte, Bad}

-- What stands behind a backslash, and the byte that it is: `n t r 0 \ ' "`.
abbrev pub escape : ℕ → Option ℕ
escape b =
    if b == 110 then Some 10
    else (if b == 116 then Some 9
    else (if b == 114 then Some 13
    else (if b == 48 then Some 0
    else (if b == 92 then Some 92
    else (if b == 39 then Some 39
    else (if b == 34 then Some 34
    else None))))))

abbrev pub escaped_piece : Option ℕ → Piece
escaped_piece None = Bad
escaped_piece (Some b) = Byte b

-- What a byte is between quotes: the closing quote, a backslash that begins an escape, a byte that
-- stands for itself or ends an escape, or nothing that may stand there.
abbrev pub piece : (quote : ℕ) (escaped : Bool) → ℕ → Piece
piece quote true b = escaped_piece (escape b)
piece quote false b =
    if b == quote then Close
    else (if b == 92 then Backslash
    else (if nat_le 32 b && nat_le b 126 then Byte b
    else Bad))

abbrev pub is_backslash : Piece → Bool
is_backslash Close = false
is_backslash Backslash = true
is_backslash (Byte b) = false
is_backslash Bad = false

abbrev pub only_at_end : List ℕ → Option (List ℕ)
only_at_end [] = Some []
only_at_end (b ∷ bytes) = None

abbrev pub with_piece : Piece → List ℕ → Option (List ℕ) → Option (List ℕ)
with_piece Close bytes rest = only_at_end bytes
with_piece Backslash bytes rest = rest
with_piece (Byte b) bytes rest = option_map (λ found. b ∷ found) rest
with_piece Bad bytes rest = None

-- The bytes that stand between the quotes, where these are all that follows the opening quote, the
-- closing one included. `escaped` says that an escape's backslash stands directly before.
abbrev pub contents : (quote : ℕ) (escaped : Bool) → List ℕ → Option (List ℕ)
contents quote escaped [] = None
contents quote escaped (b ∷ bytes) = with_piece (piece quote escaped b) bytes (contents quote (is_backslash (piece quote escaped b)) bytes)

-- exactly one byte
abbrev pub character_by : Option (List ℕ) → Option TokenKind
character_by None = None
character_by (Some []) = None
character_by (Some (b ∷ [])) = Some (Char b)
character_by (Some (b ∷ c ∷ bytes)) = None

abbrev pub string_by : Option (List ℕ) → Option TokenKind
string_by None = None
string_by (Some bytes) = Some (Text bytes)

-- The character that a quote `'` and these bytes are.
abbrev pub character : List ℕ → Option TokenKind
character bytes = character_by (contents 39 false bytes)

-- The string that a quote `"` and these bytes are.
abbrev pub string : List ℕ → Option TokenKind
string bytes = string_by (contents 34 false bytes)
