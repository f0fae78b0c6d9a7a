-- What holds of a reading's value wherever it has one.
use Rattle.std.proofs.Common.{◌≡◌, Bool, true, false, List, [], ◌∷◌, length, Option, Some, None, Ok}
use Rattle.std.proofs.Common.{Err, refl, ap, suc}
use Rattle.std.specs.Prelude.{ok_or}
use Rattle.std.specs.List.{list_all}
use Rattle.std.proofs.lemmas.Bool.{and_from}
use Rattle.fx_config.specs.declared.configuration.ConfigError.{ConfigError}
use Rattle.fx_config.specs.Answers.{Reading, ◌>>=◌, demand, read_each}

abbrev pub Ends : {A : Type 0} → (A → Type 0) → Reading A → Type 0
Ends P (Ok x) = P x
Ends P (Err e) = Unit {0}

pub bind_ends : {A B : Type 0} (P : A → Type 0) (Q : B → Type 0) (r : Reading A) (f : A → Reading B)
    → Ends P r → ((x : A) → P x → Ends Q (f x)) → Ends Q (r >>= f)
bind_ends P Q (Ok x) f h k = k x h
bind_ends P Q (Err e) f h k = tt

-- whatever is read before
pub then_ends : {A B : Type 0} (Q : B → Type 0) (r : Reading A) (f : A → Reading B)
    → ((x : A) → Ends Q (f x)) → Ends Q (r >>= f)
then_ends Q (Ok x) f k = k x
then_ends Q (Err e) f k = tt

pub demand_ends : {A : Type 0} (Q : A → Type 0) (test : Bool) (cause : ConfigError) (r : Reading A)
    → (test ≡ true → Ends Q r) → Ends Q (demand test cause r)
demand_ends Q true cause r k = k refl
demand_ends Q false cause r k = tt

pub found_ends : {A : Type 0} (o : Option A) (cause : ConfigError)
    → Ends (λ x. o ≡ Some x) (ok_or o cause)
found_ends (Some x) cause = refl
found_ends None cause = tt

-- what is read of each passes a test, and there are as many
abbrev pub Passes : {A B : Type 0} → (B → Bool) → List A → List B → Type 0
Passes test xs ys = (list_all test ys ≡ true) × (length ys ≡ length xs)

pub each_ends : {A B : Type 0} (test : B → Bool) (f : A → Reading B)
    → ((x : A) → Ends (λ y. test y ≡ true) (f x)) → (xs : List A)
    → Ends (Passes test xs) (read_each f xs)
each_ends test f each [] = (refl, refl)
each_ends {A} {B} test f each (x ∷ xs) =
    bind_ends (λ y. test y ≡ true) (Passes test (x ∷ xs)) (f x)
    (λ y. read_each f xs >>= (λ ys. Ok (y ∷ ys))) (each x) (λ y one.
    bind_ends (Passes test xs) (Passes test (x ∷ xs)) (read_each f xs) (λ ys. Ok (y ∷ ys))
    (each_ends test f each xs) (λ ys all.
    (and_from (test y) (list_all test ys) one all.0, ap suc all.1)))

pub ended : {A : Type 0} (P : A → Type 0) (r : Reading A) (x : A) → Ends P r → r ≡ Ok x → P x
ended P (Ok y) x h is = let e : y ≡ x = cc in rw (← e) h
ended P (Err e) x h is = absurd cc
