-- What a token is, what stands at the front of a text, and the tokens of a text.
use Rattle.std.specs.Prelude.{◌≡◌, ℕ, zero, suc, List, [], ◌∷◌, Option, Some, None, Result, Ok, Err, codes, ◌==◌, ◌&&◌, ◌+◌, ◌-◌, if◌then◌else◌, nat_eq, take, drop, length, option_map}
use Rattle.std.specs.List.{list_all, position_or_len, starts_with}
use Rattle.std.specs.Char.{is_ascii_digit}
use Rattle.fx_c_lex.specs.declared.token.Token.{Token}
use Rattle.fx_c_lex.specs.declared.token.TokenKind.{TokenKind}
use Rattle.fx_c_lex.specs.declared.token.LexError.{LexError}
use Rattle.fx_c_lex.specs.declared.token.LexError.TheVariants.{Byte, OutOfMemory}
use Rattle.fx_c_lex.specs.declared.lexer.Front.{Front}
use Rattle.fx_c_lex.specs.declared.lexer.Front.TheVariants.{NoToken, Blank, Lexeme}
use Rattle.fx_c_lex.specs.Bytes.{is_white_space, is_word_byte, byte_at}
use Rattle.fx_c_lex.specs.Words.{keywords, place_of, keyword_or_name, sign}
use Rattle.fx_c_lex.specs.Numbers.{number}
use Rattle.fx_c_lex.specs.Quoted.{character, string}

-- The name, keyword or number that these bytes, all of them, are: letters, digits and `_` alone.
abbrev pub word : List ℕ → Option TokenKind
word bytes = if list_all is_word_byte bytes then (if is_ascii_digit (byte_at bytes 0) then number bytes else keyword_or_name bytes (place_of keywords bytes)) else None

-- The token that these bytes, all of them, are.
abbrev pub meaning : List ℕ → Option TokenKind
meaning [] = None
meaning (b ∷ bytes) =
    if is_word_byte b then word (b ∷ bytes)
    else (if b == 39 then character bytes
    else (if b == 34 then string bytes
    else sign (b ∷ bytes)))

-- The token that the first n bytes of a text are. A name, keyword or number isn't followed directly
-- by a letter, digit or `_`.
abbrev pub token_of_length : List ℕ → ℕ → Option TokenKind
token_of_length text n = if is_word_byte (byte_at text 0) && is_word_byte (byte_at text n) then None else meaning (take n text)

abbrev pub or_shorter : ℕ → Option TokenKind → Option (TokenKind × ℕ) → Option (TokenKind × ℕ)
or_shorter n None shorter = shorter
or_shorter n (Some kind) shorter = Some (kind, n)

-- The longest token of at most n bytes at the front of a text, and its length.
abbrev pub longest : List ℕ → ℕ → Option (TokenKind × ℕ)
longest text zero = None
longest text (suc n) = or_shorter (suc n) (token_of_length text (suc n)) (longest text n)

-- How many bytes a text has to the first `*/`, with it.
abbrev pub to_comment_end : List ℕ → Option ℕ
to_comment_end [] = None
to_comment_end (b ∷ bytes) = if b == 42 && byte_at bytes 0 == 47 then Some 2 else option_map (λ n. n + 1) (to_comment_end bytes)

abbrev pub block_comment : Option ℕ → Front
block_comment None = NoToken
block_comment (Some n) = Blank (n + 2)

abbrev pub longest_token : Option (TokenKind × ℕ) → Front
longest_token None = NoToken
longest_token (Some found) = Lexeme found.0 found.1

-- A comment `/*` ends at the first `*/` behind it, a comment `//` before a line feed or at the end.
abbrev pub front : List ℕ → Front
front text =
    if is_white_space (byte_at text 0) then Blank 1
    else (if starts_with nat_eq text (codes "/*") then block_comment (to_comment_end (drop 2 text))
    else (if starts_with nat_eq text (codes "//") then Blank (position_or_len (λ b. b == 10) text)
    else longest_token (longest text (length text))))

abbrev pub front_length : Front → ℕ
front_length NoToken = 0
front_length (Blank n) = n
front_length (Lexeme kind n) = n

-- What stands at a place, before the tokens that follow it.
abbrev pub joined : ℕ → Front → Result (List Token) ℕ → Result (List Token) ℕ
joined at NoToken rest = Err at
joined at (Blank n) rest = rest
joined at (Lexeme kind n) (Ok tokens) = Ok (record { kind = kind; start = at; end = at + n } ∷ tokens)
joined at (Lexeme kind n) (Err place) = Err place

-- The tokens of the text that begins at a place, behind `skip` bytes that belong to what stands
-- before them; or the first place where there is no token.
abbrev pub tokens_from : (at skip : ℕ) (text : List ℕ) → Result (List Token) ℕ
tokens_from at skip [] = Ok []
tokens_from at (suc skip) (b ∷ bytes) = tokens_from (at + 1) skip bytes
tokens_from at zero (b ∷ bytes) = joined at (front (b ∷ bytes)) (tokens_from (at + 1) (front_length (front (b ∷ bytes)) - 1) bytes)

-- The tokens of a text, or the first place where there is no token.
unfoldable pub tokens_of : List ℕ → Result (List Token) ℕ
tokens_of text = tokens_from 0 0 text

-- What `tokens` returned is what the definition gives, unless memory ran out.
abbrev pub Gives : Result (List Token) LexError → Result (List Token) ℕ → Type 0
Gives (Ok tokens) read = read ≡ Ok tokens
Gives (Err (Byte at)) read = read ≡ Err at
Gives (Err OutOfMemory) read = Unit {0}
