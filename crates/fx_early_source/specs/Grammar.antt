-- The form of a source of constant output, as a relation between a text and its constants.
use Rattle.std.specs.Prelude.{◌≡◌, ℕ, ◌+◌, ◌/◌, ◌%◌, ◌<◌, ◌≤◌, Bool, true, false, ◌==◌, nat_lt, ◌||◌, if◌then◌else◌, List, [], ◌∷◌, ◌++◌, length, codes, IsTrue}
use Rattle.std.specs.List.{flat_map, list_all, AllByRecursion}

-- White space: space, tab, line feed and carriage return.
abbrev pub is_space : ℕ → Bool
is_space byte = (byte == 32) || (byte == 9) || (byte == 10) || (byte == 13)

abbrev pub IsSpace : List ℕ → Type 0
IsSpace text = IsTrue (list_all is_space text)

-- The decimal digits of a number below 1,000, without a leading zero.
abbrev pub decimal : ℕ → List ℕ
decimal n =
    if nat_lt n 10 then (48 + n) ∷ []
    else if nat_lt n 100 then (48 + n / 10) ∷ (48 + n % 10) ∷ []
    else (48 + n / 100) ∷ (48 + n / 10 % 10) ∷ (48 + n % 10) ∷ []

-- The tokens of the statement that puts a constant.
abbrev pub put_tokens : ℕ → List (List ℕ)
put_tokens constant = codes "__putc" ∷ codes "(" ∷ decimal constant ∷ codes ")" ∷ codes ";" ∷ []

-- The tokens of the end: the return may be left out.
abbrev pub end_tokens : Bool → List (List ℕ)
end_tokens true = codes "return" ∷ codes ";" ∷ codes "}" ∷ []
end_tokens false = codes "}" ∷ []

-- The tokens behind `void`.
abbrev pub main_tokens : List ℕ → Bool → List (List ℕ)
main_tokens constants returns = codes "main" ∷ codes "(" ∷ codes ")" ∷ codes "{" ∷ (flat_map put_tokens constants ++ end_tokens returns)

-- A text of these tokens, with white space before each and behind the last, or none.
abbrev pub Spells : List (List ℕ) → List ℕ → Type 0
Spells [] text = IsSpace text
Spells (token ∷ tokens) text = (space : List ℕ) × (rest : List ℕ) × IsSpace space × Spells tokens rest × (text ≡ space ++ token ++ rest)

-- The text is `void main ( ) { {__putc ( NUMBER ) ;} [return ;] }` with these constants. Of the tokens that may
-- follow one another only `void` and `main` would be one without the white space between them.
pub record IsProgram (text constants : List ℕ) : Type 0 where
  pub returns : Bool
  pub front : List ℕ
  pub gap : List ℕ
  pub rest : List ℕ
  pub spaced : IsSpace front × IsSpace gap × (0 < length gap)
  pub main : Spells (main_tokens constants returns) rest
  pub text_is : text ≡ front ++ codes "void" ++ gap ++ rest
  pub few : length constants ≤ 1000
  pub bytes : AllByRecursion (λ constant. constant < 256) constants
