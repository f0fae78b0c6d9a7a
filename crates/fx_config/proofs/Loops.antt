-- Loops that read each element of a list, and stop at the first that is refused.
use Rattle.std.proofs.Common.{◌≡◌, ℕ, suc, ◌<◌, ◌≤◌, ◌+◌, List, [], ◌∷◌, ◌++◌, length, drop, get_or, map, Ok, Err, refl, ap, sym, ◌∙◌, append_assoc, add-one, drop-cons}
use Rattle.std.proofs.lemmas.List.{append-nil, drop_all}
use Rattle.fx_config.specs.declared.configuration.ConfigError.{ConfigError}
use Rattle.fx_config.specs.Answers.{Reading, ◌>>=◌, read_each}

-- what is read of the rest comes behind what was read so far
abbrev pub and_rest : {A B : Type 0} → (A → Reading B) → List B → List A → Reading (List B)
and_rest f seen rest = read_each f rest >>= (λ ws. Ok (seen ++ ws))

-- of a list, this was read of the elements before i
pub record ReadTo {A B : Type 0} (f : A → Reading B) (xs : List A) (i : ℕ) (seen : List B) : Type 0 where
  pub whole : read_each f xs ≡ and_rest f seen (drop i xs)

unit : {B : Type 0} (r : Reading (List B)) → r ≡ (r >>= (λ ws. Ok ([] ++ ws)))
unit (Ok ws) = refl
unit (Err e) = refl

pub ReadTo-start : {A B : Type 0} (f : A → Reading B) (xs : List A) → ReadTo f xs 0 []
ReadTo-start f xs = record { whole = unit (read_each f xs) }

behind : {B : Type 0} (y : B) (seen : List B) (r : Reading (List B)) → ((r >>= (λ ys. Ok (y ∷ ys))) >>= (λ ws. Ok (seen ++ ws))) ≡ (r >>= (λ ws. Ok ((seen ++ y ∷ []) ++ ws)))
behind y seen (Ok ys) = ap (λ l. Ok l) (sym (append_assoc seen (y ∷ []) ys))
behind y seen (Err e) = refl

next : {A B : Type 0} (f : A → Reading B) (x : A) (rest : List A) (y : B) (seen : List B) → f x ≡ Ok y → and_rest f seen (x ∷ rest) ≡ and_rest f (seen ++ y ∷ []) rest
next f x rest y seen h = rw h (behind y seen (read_each f rest))

stop : {A B : Type 0} (f : A → Reading B) (x : A) (rest : List A) (e : ConfigError) (seen : List B) → f x ≡ Err e → and_rest f seen (x ∷ rest) ≡ Err e
stop f x rest e seen h = rw h refl

split : {A : Type 0} (xs : List A) (i : ℕ) (x : A) → i < length xs → x ≡ get_or xs i x → drop i xs ≡ x ∷ drop (i + 1) xs
split xs i x h is = drop-cons xs i x h ∙ ap (λ z. z ∷ drop (suc i) xs) (sym is) ∙ ap (λ n. x ∷ drop n xs) (sym (add-one i))

split_at : {A : Type 0} (xs : List A) (i : ℕ) (d : A) → i < length xs → drop i xs ≡ get_or xs i d ∷ drop (i + 1) xs
split_at xs i d h = drop-cons xs i d h ∙ ap (λ n. get_or xs i d ∷ drop n xs) (sym (add-one i))

pub ReadTo-next : {A B : Type 0} (f : A → Reading B) (xs : List A) (i : ℕ) (x : A) (y : B) (seen : List B) → i < length xs → x ≡ get_or xs i x → f x ≡ Ok y → ReadTo f xs i seen → ReadTo f xs (i + 1) (seen ++ y ∷ [])
ReadTo-next f xs i x y seen within is here before = record { whole = before.whole ∙ ap (and_rest f seen) (split xs i x within is) ∙ next f x (drop (i + 1) xs) y seen here }

pub ReadTo-stop : {A B : Type 0} (f : A → Reading B) (xs : List A) (i : ℕ) (x : A) (e : ConfigError) (seen : List B) → i < length xs → x ≡ get_or xs i x → f x ≡ Err e → ReadTo f xs i seen → read_each f xs ≡ Err e
ReadTo-stop f xs i x e seen within is here before = before.whole ∙ ap (and_rest f seen) (split xs i x within is) ∙ stop f x (drop (i + 1) xs) e seen here

pub ReadTo-next_at : {A B : Type 0} (f : A → Reading B) (xs : List A) (i : ℕ) (d : A) (y : B) (seen : List B) → i < length xs → f (get_or xs i d) ≡ Ok y → ReadTo f xs i seen → ReadTo f xs (i + 1) (seen ++ y ∷ [])
ReadTo-next_at f xs i d y seen within here before = record { whole = before.whole ∙ ap (and_rest f seen) (split_at xs i d within) ∙ next f (get_or xs i d) (drop (i + 1) xs) y seen here }

pub ReadTo-stop_at : {A B : Type 0} (f : A → Reading B) (xs : List A) (i : ℕ) (d : A) (e : ConfigError) (seen : List B) → i < length xs → f (get_or xs i d) ≡ Err e → ReadTo f xs i seen → read_each f xs ≡ Err e
ReadTo-stop_at f xs i d e seen within here before = before.whole ∙ ap (and_rest f seen) (split_at xs i d within) ∙ stop f (get_or xs i d) (drop (i + 1) xs) e seen here

pub ReadTo-end : {A B : Type 0} (f : A → Reading B) (xs : List A) (i : ℕ) (seen : List B) → length xs ≤ i → ReadTo f xs i seen → read_each f xs ≡ Ok seen
ReadTo-end f xs i seen past before = before.whole ∙ ap (and_rest f seen) (drop_all i xs past) ∙ ap (λ l. Ok l) (append-nil seen)

pub read_each-map : {A B C : Type 0} (g : A → B) (f : B → Reading C) (xs : List A) → read_each f (map g xs) ≡ read_each (λ x. f (g x)) xs
read_each-map g f [] = refl
read_each-map g f (x ∷ xs) = rw (read_each-map g f xs) refl

-- an array's elements, each read
pub array_each : {A B C : Type 0} (g : A → B) (f : B → Reading C) (r : Reading (List B)) (xs : List A) → r ≡ Ok (map g xs) → (r >>= read_each f) ≡ read_each (λ x. f (g x)) xs
array_each g f r xs h = rw h (read_each-map g f xs)
