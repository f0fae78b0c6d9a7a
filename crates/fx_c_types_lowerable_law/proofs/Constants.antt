-- Each number and each character of a text fits its type.
use Rattle.std.proofs.Common.{◌≡◌, ℕ, ◌-◌, ◌<◌, Bool, true, false, ◌&&◌, nat_le, nat_lt, if◌then◌else◌, ◌==◌, List, [], ◌∷◌, Option, Some, None, refl, arith, subst}
use Rattle.std.proofs.lemmas.Bool.{and_parts, ltb-true, leb-true}
use Rattle.std.specs.List.{list_all, prefix_len, take_while}
use Rattle.std.specs.Char.{is_ascii_digit, is_ascii_hexdigit}
use Rattle.std.specs.Prelude.{drop, take, length, option_map}
use Rattle.fx_c_lex.specs.declared.token.Token.{Token}
use Rattle.fx_c_lex.specs.declared.token.TokenKind.{TokenKind}
use Rattle.fx_c_lex.specs.declared.token.TokenKind.TheVariants.{Name, Keyword, Number, Char, Text, Sign}
use Rattle.fx_c_lex.specs.declared.numbers.NumberType.{NumberType}
use Rattle.fx_c_lex.specs.declared.numbers.NumberType.TheVariants.{Int, UnsignedInt, Long, UnsignedLong}
use Rattle.fx_c_lex.specs.declared.numbers.Suffix.{Suffix}
use Rattle.fx_c_lex.specs.declared.numbers.Base.{Base}
use Rattle.fx_c_lex.specs.declared.numbers.Base.TheVariants.{Decimal, Hexadecimal}
use Rattle.fx_c_lex.specs.declared.quoted.Piece.{Piece}
use Rattle.fx_c_lex.specs.declared.quoted.Piece.TheVariants.{Close, Backslash, Byte, Bad}
use Rattle.fx_c_lex.specs.Bytes.{is_word_byte, byte_at}
use Rattle.fx_c_lex.specs.Numbers.{limit, is_unsigned, is_long, types_of, first_holding, is_digit_of, value_after, with_suffix, suffix_of, typed, decimal, hexadecimal, number}
use Rattle.fx_c_lex.specs.Quoted.{escape, escaped_piece, piece, is_backslash, only_at_end, with_piece, contents, character_by, string_by, character, string}
use Rattle.fx_c_lex.specs.Words.{keywords, signs, place_of, keyword_or_name, sign_by, sign}
use Rattle.fx_c_lex.specs.Lexis.{word, meaning}
use Rattle.fx_c_lex.specs.Laws.{InOrder}
use Rattle.fx_c_ast.specs.declared.operator.IntType.TheVariants as int
use Rattle.fx_c_parse.specs.Words.{Word, NameWord, KeywordWord, NumberWord, CharWord, TextWord, SignWord, number_type, name_bytes, kind_word, words}
use Rattle.fx_c_types_model.specs.Values.{IsConstant}

-- ---- kinds of tokens

abbrev Fits : TokenKind → Type 0
Fits Name = Unit {0}
Fits (Keyword number) = Unit {0}
Fits (Number value unsigned long) = IsConstant (number_type unsigned long) value
Fits (Char byte) = IsConstant int.Int byte
Fits (Text contents) = Unit {0}
Fits (Sign number) = Unit {0}

abbrev MaybeFits : Option TokenKind → Type 0
MaybeFits None = Unit {0}
MaybeFits (Some kind) = Fits kind

either_fits : (c : Bool) (x y : Option TokenKind) → MaybeFits x → MaybeFits y → MaybeFits (if c then x else y)
either_fits true x y h k = h
either_fits false x y h k = k

-- ---- numbers

holds_fits : (ty : NumberType) (value : ℕ) → value < limit ty → Fits (Number value (is_unsigned ty) (is_long ty))
holds_fits Int value less = less
holds_fits UnsignedInt value less = less
holds_fits Long value less = less
holds_fits UnsignedLong value less = less

first_fits : (value : ℕ) (tys : List NumberType) → MaybeFits (first_holding value tys)
first_fits value [] = tt
first_fits value (ty ∷ tys) = pick (nat_lt value (limit ty)) refl (first_fits value tys)
  where
    pick : (b : Bool) → nat_lt value (limit ty) ≡ b → MaybeFits (first_holding value tys) → MaybeFits (if b then Some (Number value (is_unsigned ty) (is_long ty)) else first_holding value tys)
    pick true less more = holds_fits ty value (ltb-true value (limit ty) less)
    pick false less more = more

suffix_fits : (base : Base) (value : ℕ) (suffix : Option Suffix) → MaybeFits (with_suffix base value suffix)
suffix_fits base value None = tt
suffix_fits base value (Some suffix) = first_fits value (types_of base suffix)

typed_fits : (base : Base) (bytes : List ℕ) → MaybeFits (typed base bytes)
typed_fits base bytes = suffix_fits base (value_after base 0 (take_while (is_digit_of base) bytes)) (suffix_of (drop (prefix_len (is_digit_of base) bytes) bytes))

number_fits : (bytes : List ℕ) → MaybeFits (number bytes)
number_fits bytes =
    let hex : List ℕ = drop 2 bytes in
    either_fits (byte_at bytes 0 == 48 && byte_at bytes 1 == 120) (hexadecimal hex) (decimal bytes)
    (either_fits (nat_le 1 (prefix_len is_ascii_hexdigit hex)) (typed Hexadecimal hex) None (typed_fits Hexadecimal hex) tt)
    (either_fits (byte_at bytes 0 == 48 && nat_le 2 (prefix_len is_ascii_digit bytes)) None (typed Decimal bytes) tt (typed_fits Decimal bytes))

-- ---- characters: what stands between quotes are bytes below 128

abbrev IsShort : ℕ → Type 0
IsShort b = b < 128

abbrev AreShort : List ℕ → Type 0
AreShort [] = Unit {0}
AreShort (b ∷ bytes) = IsShort b × AreShort bytes

abbrev MaybeShort : Option (List ℕ) → Type 0
MaybeShort None = Unit {0}
MaybeShort (Some bytes) = AreShort bytes

abbrev PieceShort : Piece → Type 0
PieceShort Close = Unit {0}
PieceShort Backslash = Unit {0}
PieceShort (Byte b) = IsShort b
PieceShort Bad = Unit {0}

abbrev EscapeShort : Option ℕ → Type 0
EscapeShort None = Unit {0}
EscapeShort (Some b) = IsShort b

either_escape : (c : Bool) (x y : Option ℕ) → EscapeShort x → EscapeShort y → EscapeShort (if c then x else y)
either_escape true x y h k = h
either_escape false x y h k = k

escape_short : (b : ℕ) → EscapeShort (escape b)
escape_short b =
    either_escape (b == 110) (Some 10) _ (omega arith)
    (either_escape (b == 116) (Some 9) _ (omega arith)
    (either_escape (b == 114) (Some 13) _ (omega arith)
    (either_escape (b == 48) (Some 0) _ (omega arith)
    (either_escape (b == 92) (Some 92) _ (omega arith)
    (either_escape (b == 39) (Some 39) _ (omega arith)
    (either_escape (b == 34) (Some 34) None (omega arith) tt))))))

escaped_short : (b : Option ℕ) → EscapeShort b → PieceShort (escaped_piece b)
escaped_short None h = tt
escaped_short (Some b) h = h

either_piece : (c : Bool) (x y : Piece) → (c ≡ true → PieceShort x) → PieceShort y → PieceShort (if c then x else y)
either_piece true x y h k = h refl
either_piece false x y h k = k

piece_short : (quote : ℕ) (escaped : Bool) (b : ℕ) → PieceShort (piece quote escaped b)
piece_short quote true b = escaped_short (escape b) (escape_short b)
piece_short quote false b =
    either_piece (b == quote) Close _ (λ _. tt)
    (either_piece (b == 92) Backslash _ (λ _. tt)
    (either_piece (nat_le 32 b && nat_le b 126) (Byte b) Bad (λ h. omega (arith, leb-true b 126 (and_parts (nat_le 32 b) (nat_le b 126) h).1)) tt))

end_short : (bytes : List ℕ) → MaybeShort (only_at_end bytes)
end_short [] = tt
end_short (b ∷ bytes) = tt

prefixed_short : (b : ℕ) (rest : Option (List ℕ)) → IsShort b → MaybeShort rest → MaybeShort (option_map (λ found. b ∷ found) rest)
prefixed_short b None h k = tt
prefixed_short b (Some bytes) h k = (h, k)

with_short : (p : Piece) (bytes : List ℕ) (rest : Option (List ℕ)) → PieceShort p → MaybeShort rest → MaybeShort (with_piece p bytes rest)
with_short Close bytes rest h k = end_short bytes
with_short Backslash bytes rest h k = k
with_short (Byte b) bytes rest h k = prefixed_short b rest h k
with_short Bad bytes rest h k = tt

contents_short : (quote : ℕ) (escaped : Bool) (bytes : List ℕ) → MaybeShort (contents quote escaped bytes)
contents_short quote escaped [] = tt
contents_short quote escaped (b ∷ bytes) =
    with_short (piece quote escaped b) bytes (contents quote (is_backslash (piece quote escaped b)) bytes)
    (piece_short quote escaped b) (contents_short quote (is_backslash (piece quote escaped b)) bytes)

character_fits : (bytes : Option (List ℕ)) → MaybeShort bytes → MaybeFits (character_by bytes)
character_fits None h = tt
character_fits (Some []) h = tt
character_fits (Some (b ∷ [])) h = omega (arith, h.0)
character_fits (Some (b ∷ c ∷ bytes)) h = tt

string_fits : (bytes : Option (List ℕ)) → MaybeFits (string_by bytes)
string_fits None = tt
string_fits (Some bytes) = tt

-- ---- all tokens

keyword_fits : (bytes : List ℕ) (place : Option ℕ) → MaybeFits (keyword_or_name bytes place)
keyword_fits bytes None = either_fits (nat_le (length bytes) 63) (Some Name) None tt tt
keyword_fits bytes (Some number) = tt

sign_fits : (place : Option ℕ) → MaybeFits (sign_by place)
sign_fits None = tt
sign_fits (Some number) = tt

word_fits : (bytes : List ℕ) → MaybeFits (word bytes)
word_fits bytes =
    let named : Option TokenKind = keyword_or_name bytes (place_of keywords bytes) in
    let first : Bool = is_ascii_digit (byte_at bytes 0) in
    either_fits (list_all is_word_byte bytes) (if first then number bytes else named) None
    (either_fits first (number bytes) named (number_fits bytes) (keyword_fits bytes (place_of keywords bytes))) tt

meaning_fits : (bytes : List ℕ) → MaybeFits (meaning bytes)
meaning_fits [] = tt
meaning_fits (b ∷ bytes) =
    either_fits (is_word_byte b) (word (b ∷ bytes)) _ (word_fits (b ∷ bytes))
    (either_fits (b == 39) (character bytes) _ (character_fits (contents 39 false bytes) (contents_short 39 false bytes))
    (either_fits (b == 34) (string bytes) (sign (b ∷ bytes)) (string_fits (contents 34 false bytes)) (sign_fits (place_of signs (b ∷ bytes)))))

-- ---- words

abbrev pub WordFits : Word → Type 0
WordFits (NameWord bytes) = Unit {0}
WordFits (KeywordWord number) = Unit {0}
WordFits (NumberWord value ty) = IsConstant ty value
WordFits (CharWord byte) = IsConstant int.Int byte
WordFits (TextWord bytes) = Unit {0}
WordFits (SignWord number) = Unit {0}

abbrev pub AllFit : List Word → Type 0
AllFit [] = Unit {0}
AllFit (w ∷ ws) = WordFits w × AllFit ws

kind_fits : (bytes : List ℕ) (kind : TokenKind) → Fits kind → WordFits (kind_word bytes kind)
kind_fits bytes Name h = tt
kind_fits bytes (Keyword number) h = tt
kind_fits bytes (Number value unsigned long) h = h
kind_fits bytes (Char byte) h = h
kind_fits bytes (Text contents) h = tt
kind_fits bytes (Sign number) h = tt

-- the words of a text
pub words_fit : (text : List ℕ) (at : ℕ) (ts : List Token) → InOrder text at ts → AllFit (words text ts)
words_fit text at [] h = tt
words_fit text at (t ∷ ts) h = (
  kind_fits (name_bytes text t.start t.end) t.kind (subst MaybeFits h.2.means (meaning_fits (take (t.end - t.start) (drop t.start text)))),
  words_fit text t.end ts h.3,
)
