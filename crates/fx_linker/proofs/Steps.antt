-- A list that is made front to back, one step on.
use Rattle.std.proofs.Common.{◌≡◌, ℕ, ◌+◌, ◌<◌, List, [], ◌∷◌, ◌++◌, length, drop, get_or, sym, ap, ◌∙◌, append_assoc}
use Rattle.std.proofs.lemmas.List.{drop_more}

pub split : {A : Type 0} (xs : List A) (i : ℕ) (x : A) → i < length xs → x ≡ get_or xs i x → drop i xs ≡ x ∷ drop (i + 1) xs
split xs i x less is = drop_more xs i x less ∙ ap (λ z. z ∷ drop (i + 1) xs) (sym is)

-- Where f of a list is what its first element gives and f of the rest (which the element may change, as g), and
-- the list so far gained that, then what was made and what is left to make are the whole again.
pub step : {A B : Type 0} (f g : List A → List B) (one : List B) (xs : List A) (i : ℕ) (x : A) (out new total : List B) → i < length xs → x ≡ get_or xs i x
    → f (x ∷ drop (i + 1) xs) ≡ one ++ g (drop (i + 1) xs) → new ≡ out ++ one
    → out ++ f (drop i xs) ≡ total → new ++ g (drop (i + 1) xs) ≡ total
step f g one xs i x out new total less is first gained so_far =
    ap (λ l. l ++ g (drop (i + 1) xs)) gained ∙ append_assoc out one (g (drop (i + 1) xs))
    ∙ sym (ap (λ l. out ++ f l) (split xs i x less is) ∙ ap (λ l. out ++ l) first)
    ∙ so_far
