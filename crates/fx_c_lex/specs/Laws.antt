-- What the tokens of a text are, seen from the text: slices in order that mean their kinds, and white
-- space and comments between them.
use Rattle.std.specs.Prelude.{◌≡◌, ℕ, true, List, [], ◌∷◌, Some, None, Result, Ok, Err, ◌+◌, ◌-◌, ◌<◌, ◌≤◌, ◌⊎◌, length, take, drop, nat_eq, codes}
use Rattle.std.specs.List.{starts_with}
use Rattle.fx_c_lex.specs.declared.token.Token.{Token}
use Rattle.fx_c_lex.specs.declared.token.LexError.{LexError}
use Rattle.fx_c_lex.specs.declared.token.LexError.TheVariants.{Byte, OutOfMemory}
use Rattle.fx_c_lex.specs.declared.lexer.Front.TheVariants.{NoToken, Blank, Lexeme}
use Rattle.fx_c_lex.specs.Lexis.{meaning, token_of_length, front, tokens_of}

-- A token of a text: its slice, which isn't empty, means its kind, and no longer slice from there on
-- is a token.
pub record IsTokenOf (text : List ℕ) (t : Token) : Type 0 where
  pub some : t.start < t.end
  pub within : t.end ≤ length text
  pub stands : front (drop t.start text) ≡ Lexeme t.kind (t.end - t.start)
  pub means : meaning (take (t.end - t.start) (drop t.start text)) ≡ Some t.kind
  pub longest : (n : ℕ) → t.end < t.start + n → t.start + n ≤ length text → token_of_length (drop t.start text) n ≡ None

-- From one place of a text to another there are white space and comments alone.
pub data IsBlankTo : List ℕ → ℕ → ℕ → Type 0 where
  nothing : (text : List ℕ) (at : ℕ) → IsBlankTo text at at
  more : (text : List ℕ) (at n to : ℕ) → 0 < n → at + n ≤ length text → front (drop at text) ≡ Blank n → IsBlankTo text (at + n) to → IsBlankTo text at to

-- From a place on, the text is these tokens in order, with white space and comments before, between
-- and behind them.
abbrev pub InOrder : List ℕ → ℕ → List Token → Type 0
InOrder text at [] = IsBlankTo text at (length text)
InOrder text at (t ∷ ts) = (at ≤ t.start) × IsBlankTo text at t.start × IsTokenOf text t × InOrder text t.end ts

-- No token stands at a place of a text: a comment begins there that isn't closed, or no slice from
-- there on is a token.
pub record IsNoToken (text : List ℕ) (at : ℕ) : Type 0 where
  pub within : at < length text
  pub stands : front (drop at text) ≡ NoToken
  pub no_slice : (starts_with nat_eq (drop at text) (codes "/*") ≡ true) ⊎ ((n : ℕ) → at + n ≤ length text → token_of_length (drop at text) n ≡ None)

-- From a place on, the text is tokens in order up to the first place where there is none.
abbrev pub StopsAfter : List ℕ → ℕ → List Token → ℕ → Type 0
StopsAfter text at [] place = IsBlankTo text at place × IsNoToken text place
StopsAfter text at (t ∷ ts) place = (at ≤ t.start) × IsBlankTo text at t.start × IsTokenOf text t × StopsAfter text t.end ts place

-- The tokens of a text are in order in it.
abbrev pub AreInOrder : Type 0
AreInOrder = (text : List ℕ) (ts : List Token) → tokens_of text ≡ Ok ts → InOrder text 0 ts

-- No other tokens are.
abbrev pub AreTheOnly : Type 0
AreTheOnly = (text : List ℕ) (ts : List Token) → InOrder text 0 ts → tokens_of text ≡ Ok ts

-- Where a text has none, the place is the first without a token.
abbrev pub IsFirstPlace : Type 0
IsFirstPlace = (text : List ℕ) (place : ℕ) → tokens_of text ≡ Err place → (ts : List Token) × StopsAfter text 0 ts place

-- What holds of the place in an answer `Byte`.
abbrev pub IfByte : Result (List Token) LexError → (ℕ → Type 0) → Type 0
IfByte (Ok tokens) P = Unit {0}
IfByte (Err (Byte at)) P = P at
IfByte (Err OutOfMemory) P = Unit {0}
