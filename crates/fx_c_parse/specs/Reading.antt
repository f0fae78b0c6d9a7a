-- Reading phrases from words: what is read and the words behind it, or nothing.
use Rattle.std.specs.Prelude.{◌≡◌, ℕ, zero, suc, List, Option, Some, None, Result, Ok, Err}
use Rattle.fx_c_parse.specs.declared.fault.Fault.{Fault}
use Rattle.fx_c_parse.specs.declared.fault.Fault.TheVariants.{Syntax, OutOfMemory}
use Rattle.fx_c_parse.specs.Words.{Word}

infixl 10 ◌>>=◌
abbrev pub ◌>>=◌ : {A B : Type 0} → Option A → (A → Option B) → Option B
None >>= f = None
(Some x) >>= f = f x

-- what a function returned, seen by view, is what reading gives, unless memory ran out
abbrev pub Fails : {Y : Type 0} → Fault → Option Y → Type 0
Fails Syntax read = read ≡ None
Fails OutOfMemory read = Unit {0}

abbrev pub Gives : {X Y : Type 0} → (X → Y) → Result X Fault → Option Y → Type 0
Gives view (Ok x) read = read ≡ Some (view x)
Gives view (Err e) read = Fails e read

-- a turn of a repetition: it ends here, or tries one more
pub data Turn (A : Type 0) : Type 0 where
  Ends : Turn A
  Tries : (more : Option (A × List Word)) → Turn A

abbrev pub turned : {A : Type 0} → (A → List Word → Option (A × List Word)) → A → List Word → Turn A → Option (A × List Word)
turned next x ws Ends = Some (x, ws)
turned next x ws (Tries more) = more >>= λ y. next y.0 y.1

-- a repetition of less than so many turns
abbrev pub turns : {A : Type 0} → (A → List Word → Turn A) → ℕ → A → List Word → Option (A × List Word)
turns step zero x ws = None
turns step (suc n) x ws = turned (turns step n) x ws (step x ws)

-- the bytes that were copied, unless memory ran out
abbrev pub Copies : Result (List ℕ) Fault → List ℕ → Type 0
Copies (Ok x) bytes = x ≡ bytes
Copies (Err e) bytes = e ≡ OutOfMemory
