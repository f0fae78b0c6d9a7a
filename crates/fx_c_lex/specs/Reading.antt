-- What the functions below `tokens` find at the front of a text.
use Rattle.std.specs.Prelude.{◌≡◌, ◌≢◌, ℕ, Bool, false, List, [], ◌∷◌, ◌++◌, Option, Some, None, Result, Ok, Err, ◌+◌, ◌<◌, ◌≤◌, length, drop}
use Rattle.fx_c_lex.specs.declared.quoted.Piece.{Piece}
use Rattle.fx_c_lex.specs.declared.quoted.Piece.TheVariants.{Close, Backslash, Byte, Bad}
use Rattle.fx_c_lex.specs.declared.token.Token.{Token}
use Rattle.fx_c_lex.specs.declared.token.LexError.{LexError}
use Rattle.fx_c_lex.specs.declared.token.LexError.TheVariants as errors
use Rattle.fx_c_lex.specs.declared.lexer.Front.{Front}
use Rattle.fx_c_lex.specs.declared.lexer.Front.TheVariants.{NoToken, Blank, Lexeme}
use Rattle.fx_c_lex.specs.Bytes.{is_word_byte}
use Rattle.fx_c_lex.specs.Quoted.{piece, is_backslash}
use Rattle.fx_c_lex.specs.Lexis.{tokens_from}

-- What is found behind n bytes of a text that stand for some bytes.
abbrev pub behind : List ℕ → ℕ → Option (List ℕ × ℕ) → Option (List ℕ × ℕ)
behind bytes n None = None
behind bytes n (Some found) = Some (bytes ++ found.0, n + found.1)

abbrev pub after_piece : Piece → Option (List ℕ × ℕ) → Option (List ℕ × ℕ)
after_piece Close rest = Some ([], 1)
after_piece Backslash rest = behind [] 1 rest
after_piece (Byte b) rest = behind (b ∷ []) 1 rest
after_piece Bad rest = None

-- The bytes to the closing quote, and how many bytes of the text they are, with the quote.
abbrev pub contents_at : (quote : ℕ) (escaped : Bool) → List ℕ → Option (List ℕ × ℕ)
contents_at quote escaped [] = None
contents_at quote escaped (b ∷ bytes) = after_piece (piece quote escaped b) (contents_at quote (is_backslash (piece quote escaped b)) bytes)

-- Tokens, and those that follow.
abbrev pub follow : List Token → Result (List Token) ℕ → Result (List Token) ℕ
follow tokens (Ok more) = Ok (tokens ++ more)
follow tokens (Err place) = Err place

-- What stands at the front stands in n bytes.
abbrev pub IsWithin : ℕ → Front → Type 0
IsWithin n NoToken = Unit {0}
IsWithin n (Blank length) = (0 < length) × (length ≤ n)
IsWithin n (Lexeme kind length) = (0 < length) × (length ≤ n)

-- One step at a place goes on to what follows, or there is no token.
abbrev pub Advances : ℕ → List ℕ → List Token → List Token → Result ℕ LexError → Type 0
Advances at text old new (Ok n) = (0 < n) × (n ≤ length text) × (follow new (tokens_from (at + n) 0 (drop n text)) ≡ follow old (tokens_from at 0 text))
Advances at text old new (Err (errors.Byte place)) = (place ≡ at) × (follow old (tokens_from at 0 text) ≡ Err place)
Advances at text old new (Err errors.OutOfMemory) = Unit {0}

-- A byte that begins no word and no quoted token.
pub record IsOther (b : ℕ) : Type 0 where
  pub no_word : is_word_byte b ≡ false
  pub no_character : b ≢ 39
  pub no_string : b ≢ 34
