-- Names, keywords and punctuation.
use Rattle.std.specs.Prelude.{ℕ, List, [], ◌∷◌, Option, Some, None, codes, length, if◌then◌else◌, nat_le}
use Rattle.std.specs.List.{position}
use Rattle.std.specs.Str.{bytes_eq}
use Rattle.fx_c_lex.specs.declared.token.TokenKind.{TokenKind}
use Rattle.fx_c_lex.specs.declared.token.TokenKind.TheVariants.{Name, Keyword, Sign}

-- The keywords, by their numbers from 0.
abbrev pub keywords : List (List ℕ)
keywords =
    codes "char" ∷ codes "short" ∷ codes "int" ∷ codes "long" ∷ codes "unsigned" ∷ codes "void"
    ∷ codes "struct" ∷ codes "if" ∷ codes "else" ∷ codes "while" ∷ codes "for" ∷ codes "break"
    ∷ codes "continue" ∷ codes "return" ∷ codes "sizeof" ∷ codes "__shared" ∷ codes "__entry"
    ∷ codes "__gate" ∷ codes "__putc" ∷ codes "__getc" ∷ codes "__in" ∷ codes "__out"
    ∷ codes "__spawn" ∷ codes "__switch" ∷ codes "__self" ∷ codes "__read" ∷ []

-- The punctuation, by its numbers from 0.
abbrev pub signs : List (List ℕ)
signs =
    codes "(" ∷ codes ")" ∷ codes "{" ∷ codes "}" ∷ codes "[" ∷ codes "]" ∷ codes ";" ∷ codes ","
    ∷ codes "." ∷ codes "->" ∷ codes "=" ∷ codes "==" ∷ codes "!=" ∷ codes "<" ∷ codes ">"
    ∷ codes "<=" ∷ codes ">=" ∷ codes "<<" ∷ codes ">>" ∷ codes "+" ∷ codes "-" ∷ codes "*"
    ∷ codes "/" ∷ codes "%" ∷ codes "&" ∷ codes "|" ∷ codes "^" ∷ codes "~" ∷ codes "!" ∷ codes "&&"
    ∷ codes "||" ∷ []

-- The place of a spelling in a list of spellings, from 0.
abbrev pub place_of : List (List ℕ) → List ℕ → Option ℕ
place_of spellings bytes = position (λ spelling. bytes_eq spelling bytes) spellings

-- A keyword is spelled as in the list; a name is any other word of at most 63 bytes.
abbrev pub keyword_or_name : List ℕ → Option ℕ → Option TokenKind
keyword_or_name bytes (Some number) = Some (Keyword number)
keyword_or_name bytes None = if nat_le (length bytes) 63 then Some Name else None

abbrev pub sign_by : Option ℕ → Option TokenKind
sign_by None = None
sign_by (Some number) = Some (Sign number)

-- The punctuation that these bytes, all of them, are.
abbrev pub sign : List ℕ → Option TokenKind
sign bytes = sign_by (place_of signs bytes)
