-- The first place that passes a test, from a place on.
use Rattle.std.proofs.Common.{◌≡◌, ℕ, ◌+◌, ◌<◌, Bool, true, false, List, ◌∷◌, length, drop, get_or, Option, Some, sym, ap, ◌∙◌}
use Rattle.std.proofs.lemmas.List.{drop_more}
use Rattle.std.proofs.lemmas.Bool.{cond-true, cond-false}
use Rattle.std.specs.List.{position_from}

split : {A : Type 0} (xs : List A) (i : ℕ) (x : A) → i < length xs → x ≡ get_or xs i x → drop i xs ≡ x ∷ drop (i + 1) xs
split xs i x less is = drop_more xs i x less ∙ ap (λ z. z ∷ drop (i + 1) xs) (sym is)

pub found_here : {A : Type 0} (t : A → Bool) (n i : ℕ) (xs : List A) (x : A) (r : Option ℕ) → i < length xs → x ≡ get_or xs i x → t x ≡ true → position_from t n (drop i xs) ≡ r → Some n ≡ r
found_here t n i xs x r less is here rest = sym (ap (position_from t n) (split xs i x less is) ∙ cond-true (t x) (Some n) (position_from t (n + 1) (drop (i + 1) xs)) here) ∙ rest

pub passed_here : {A : Type 0} (t : A → Bool) (n i : ℕ) (xs : List A) (x : A) (r : Option ℕ) → i < length xs → x ≡ get_or xs i x → t x ≡ false → position_from t n (drop i xs) ≡ r → position_from t (n + 1) (drop (i + 1) xs) ≡ r
passed_here t n i xs x r less is here rest = sym (ap (position_from t n) (split xs i x less is) ∙ cond-false (t x) (Some n) (position_from t (n + 1) (drop (i + 1) xs)) here) ∙ rest
