-- Readings that may be refused: the first refusal wins.
use Rattle.std.specs.Prelude.{◌≡◌, ◌≢◌, Bool, List, [], ◌∷◌, Result, Ok, Err, MatchResult, if◌then◌else◌}
use Rattle.fx_config.specs.declared.configuration.ConfigError.{ConfigError}
use Rattle.fx_config.specs.declared.configuration.ConfigError.TheVariants.{OutOfMemory}

-- a value, or why there is none
abbrev pub Reading : Type 0 → Type 0
Reading A = Result A ConfigError

-- what f reads of the value, or the refusal
infixl 10 ◌>>=◌
abbrev pub ◌>>=◌ : {A B : Type 0} → Reading A → (A → Reading B) → Reading B
Ok x >>= f = f x
Err e >>= f = Err e

-- refused for this cause unless the test passes
abbrev pub demand : {A : Type 0} → Bool → ConfigError → Reading A → Reading A
demand test cause r = if test then r else Err cause

-- what f reads of each, or the first refusal
abbrev pub read_each : {A B : Type 0} → (A → Reading B) → List A → Reading (List B)
read_each f [] = Ok []
read_each f (x ∷ xs) = f x >>= (λ y. read_each f xs >>= (λ ys. Ok (y ∷ ys)))

-- an answer that is this reading, unless memory ran out
abbrev pub Gives : {A B : Type 0} → (A → B) → Result A ConfigError → Reading B → Type 0
Gives shown answer reading = MatchResult answer (λ x. reading ≡ Ok (shown x)) (λ e. e ≢ OutOfMemory → reading ≡ Err e)
