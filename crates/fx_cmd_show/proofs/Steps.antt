-- The lines behind a place of a list, one step on.
use Rattle.std.proofs.Common.{◌≡◌, ℕ, ◌+◌, ◌<◌, List, ◌∷◌, ◌++◌, length, drop, get_or, sym, ap, ◌∙◌, append_assoc}
use Rattle.std.proofs.lemmas.List.{drop_more}
use Rattle.fx_cmd_show.specs.Lists.{each_line, lines_of}

split : {A : Type 0} (xs : List A) (i : ℕ) (x : A) → i < length xs → x ≡ get_or xs i x → drop i xs ≡ x ∷ drop (i + 1) xs
split xs i x less is = drop_more xs i x less ∙ ap (λ z. z ∷ drop (i + 1) xs) (sym is)

pub numbered_step : {A : Type 0} (line : ℕ → A → List ℕ) (xs : List A) (i : ℕ) (x : A) (out new total : List ℕ) → i < length xs → x ≡ get_or xs i x → new ≡ out ++ line i x
    → out ++ each_line line i (drop i xs) ≡ total → new ++ each_line line (i + 1) (drop (i + 1) xs) ≡ total
numbered_step line xs i x out new total less is put so_far =
    let rest = each_line line (i + 1) (drop (i + 1) xs) in
    ap (λ l. l ++ rest) put ∙ append_assoc out (line i x) rest ∙ sym (ap (λ l. out ++ each_line line i l) (split xs i x less is)) ∙ so_far

pub line_step : {A : Type 0} (line : A → List ℕ) (xs : List A) (i : ℕ) (x : A) (out new total : List ℕ) → i < length xs → x ≡ get_or xs i x → new ≡ out ++ line x
    → out ++ lines_of line (drop i xs) ≡ total → new ++ lines_of line (drop (i + 1) xs) ≡ total
line_step line xs i x out new total less is put so_far =
    let rest = lines_of line (drop (i + 1) xs) in
    ap (λ l. l ++ rest) put ∙ append_assoc out (line x) rest ∙ sym (ap (λ l. out ++ lines_of line l) (split xs i x less is)) ∙ so_far
