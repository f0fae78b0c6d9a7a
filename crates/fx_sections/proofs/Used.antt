-- Bytes without the zeros at their end.
use Rattle.std.proofs.Common.{◌≡◌, ◌≢◌, ℕ, zero, suc, ◌+◌, ◌-◌, ◌<◌, ◌≤◌, List, [], ◌∷◌, ◌++◌, length, take, get_or, refl, sym, ap, subst, ◌∙◌, arith}
use Rattle.std.proofs.lemmas.List.{take_more, length_push, length-take-le}
use Rattle.std.proofs.lemmas.Bool.{ne_eqb}
use Rattle.fx_sections.specs.Initials.{before_used, used_bytes}

-- a zero at the end is left out
pub used_bytes-zero : (xs : List ℕ) → used_bytes (xs ++ 0 ∷ []) ≡ used_bytes xs
used_bytes-zero [] = refl
used_bytes-zero (x ∷ xs) = ap (before_used x) (used_bytes-zero xs)

before_used-push : (x : ℕ) (xs : List ℕ) (b : ℕ) → before_used x (xs ++ b ∷ []) ≡ x ∷ xs ++ b ∷ []
before_used-push x [] b = refl
before_used-push x (y ∷ ys) b = refl

-- any other byte at the end stays, and so do all before it
pub used_bytes-last : (xs : List ℕ) (b : ℕ) → b ≢ 0 → used_bytes (xs ++ b ∷ []) ≡ xs ++ b ∷ []
used_bytes-last [] b other = rw (ne_eqb b 0 other) refl
used_bytes-last (x ∷ xs) b other = ap (before_used x) (used_bytes-last xs b other) ∙ before_used-push x xs b

-- a front of the bytes that ends in a zero, and one that ends in another byte
pub used_front_zero : (bs : List ℕ) (n : ℕ) → n + 1 ≤ length bs → get_or bs n 0 ≡ 0 → used_bytes (take (n + 1) bs) ≡ used_bytes (take n bs)
used_front_zero bs n within is = ap used_bytes (take_more bs n 0 (omega arith)) ∙ ap (λ b. used_bytes (take n bs ++ b ∷ [])) is ∙ used_bytes-zero (take n bs)

pub used_front_last : (bs : List ℕ) (n : ℕ) → n + 1 ≤ length bs → get_or bs n 0 ≢ 0 → length (used_bytes (take (n + 1) bs)) ≡ n + 1
used_front_last bs n within other =
    let whole = ap used_bytes (take_more bs n 0 (omega arith)) ∙ used_bytes-last (take n bs) (get_or bs n 0) other in
    ap length whole ∙ length_push (take n bs) (get_or bs n 0) ∙ ap (λ m. m + 1) (length-take-le n bs (omega arith))

-- the same, counted from behind
pub last_used : (bs : List ℕ) (n : ℕ) → 0 < n → n ≤ length bs → get_or bs (n - 1) 0 ≢ 0 → length (used_bytes (take n bs)) ≡ n
last_used bs zero some within other = absurd (omega arith)
last_used bs (suc n) some within other =
    let same : n + 1 ≡ suc n = omega arith in
    let before : suc n - 1 ≡ n = omega arith in
    subst (λ m. length (used_bytes (take m bs)) ≡ m) same (used_front_last bs n (omega arith) (λ e. other (ap (λ m. get_or bs m 0) before ∙ e)))

pub zero_unused : (bs : List ℕ) (n : ℕ) → 0 < n → n ≤ length bs → get_or bs (n - 1) 0 ≡ 0 → used_bytes (take n bs) ≡ used_bytes (take (n - 1) bs)
zero_unused bs zero some within is = absurd (omega arith)
zero_unused bs (suc n) some within is =
    let same : n + 1 ≡ suc n = omega arith in
    let before : suc n - 1 ≡ n = omega arith in
    ap (λ m. used_bytes (take m bs)) (sym same) ∙ used_front_zero bs n (omega arith) (ap (λ m. get_or bs m 0) (sym before) ∙ is) ∙ ap (λ m. used_bytes (take m bs)) (sym before)
