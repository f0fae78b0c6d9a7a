-- How a source of constant output is read: what stands behind each token.
use Rattle.std.specs.Prelude.{ℕ, ◌+◌, ◌-◌, ◌*◌, zero, suc, Bool, true, false, ◌==◌, nat_lt, ◌&&◌, if◌then◌else◌, List, [], ◌∷◌, Option, Some, None, Result, Ok, Err, ◌≡◌, codes, length, slice_index}
use Rattle.std.specs.Option.{option_map_or}
use Rattle.fx_early_source.specs.Grammar.{is_space}
use Rattle.fx_early_source.specs.declared.SourceError.{SourceError}
use Rattle.fx_early_source.specs.declared.SourceError.TheVariants.{Form, OutOfMemory}

infixl 10 ◌>>=◌
abbrev pub ◌>>=◌ : {A B : Type 0} → Option A → (A → Option B) → Option B
None >>= f = None
(Some x) >>= f = f x

-- the text from its first byte on that is no white space
abbrev pub skip : List ℕ → List ℕ
skip [] = []
skip (byte ∷ text) = if is_space byte then skip text else byte ∷ text

-- what stands behind this front of the text
abbrev pub strip : List ℕ → List ℕ → Option (List ℕ)
strip [] text = Some text
strip (byte ∷ front) [] = None
strip (byte ∷ front) (first ∷ text) = if first == byte then strip front text else None

-- what stands behind a token
abbrev pub after : List ℕ → List ℕ → Option (List ℕ)
after token text = strip token (skip text)

abbrev pub is_nil : List ℕ → Bool
is_nil [] = true
is_nil (_ ∷ _) = false

abbrev pub is_digit : ℕ → Bool
is_digit byte = nat_lt 47 byte && nat_lt byte 58

-- the digits at the front, and what stands behind them
abbrev pub digits : List ℕ → List ℕ × List ℕ
digits [] = ([], [])
digits (byte ∷ text) = if is_digit byte then (byte ∷ (digits text).0, (digits text).1) else ([], byte ∷ text)

-- the number of a byte that digits write in their one form: no zero stands before another digit
unfoldable pub value : List ℕ → Option ℕ
value ds =
    let a = slice_index ds 0 - 48 in
    let b = slice_index ds 1 - 48 in
    let c = slice_index ds 2 - 48 in
    if length ds == 1 then Some a
    else if slice_index ds 0 == 48 then None
    else if length ds == 2 then Some (10 * a + b)
    else if (length ds == 3) && nat_lt (100 * a + 10 * b + c) 256 then Some (100 * a + 10 * b + c)
    else None

-- the number at the front, and what stands behind it
unfoldable pub number : List ℕ → Option (ℕ × List ℕ)
number text = value (digits (skip text)).0 >>= λ n. Some (n, (digits (skip text)).1)

-- the constant of a statement behind its `__putc`, and what stands behind the statement
unfoldable pub argument : List ℕ → Option (ℕ × List ℕ)
argument text = after (codes "(") text >>= λ inside. number inside >>= λ n. after (codes ")") n.1 >>= λ close. after (codes ";") close >>= λ rest. Some (n.0, rest)

-- the constants of as many statements as stand at the front, at most so many, and what stands behind them
unfoldable pub puts : ℕ → List ℕ → Option (List ℕ × List ℕ)
puts zero text = Some ([], text)
puts (suc most) text = option_map_or (λ inside. argument inside >>= λ c. puts most c.1 >>= λ more. Some (c.0 ∷ more.0, more.1)) (after (codes "__putc") text) (Some ([], text))

-- what stands behind the end of `main`
unfoldable pub ending : List ℕ → Option (List ℕ)
ending text = option_map_or (λ rest. after (codes ";") rest >>= after (codes "}")) (after (codes "return") text) (after (codes "}") text)

-- white space comes next
abbrev pub is_spaced : List ℕ → Bool
is_spaced [] = false
is_spaced (byte ∷ text) = is_space byte

-- what stands behind the brace that opens `main`
unfoldable pub opening : List ℕ → Option (List ℕ)
opening text = after (codes "void") text >>= λ gap. if is_spaced gap then (after (codes "main") gap >>= after (codes "(") >>= after (codes ")") >>= after (codes "{")) else None

-- the constants of the program that the text is, at most so many
unfoldable pub reading : ℕ → List ℕ → Option (List ℕ)
reading most text = opening text >>= puts most >>= λ body. ending body.1 >>= λ rest. if is_nil (skip rest) then Some body.0 else None

-- what an error says of a reading
abbrev pub Fails : {B : Type 0} → SourceError → Option B → Type 0
Fails Form read = read ≡ None
Fails OutOfMemory read = Unit {0}

-- What a function returned, seen by view, is what reading gives, unless memory ran out.
abbrev pub Reads : {A B : Type 0} → (A → B) → Result A SourceError → Option B → Type 0
Reads view (Ok x) read = read ≡ Some (view x)
Reads view (Err e) read = Fails e read
