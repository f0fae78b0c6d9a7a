-- Bytes without the zeros at their end: a front that ends in another byte stays.
use Rattle.std.proofs.Common.{◌≡◌, ◌≢◌, ℕ, zero, suc, ◌+◌, ◌-◌, ◌<◌, ◌≤◌, List, [], ◌∷◌, ◌++◌, length, take, get_or, sym, ap, subst, ◌∙◌, arith}
use Rattle.std.proofs.lemmas.List.{take_more}
use Rattle.fx_sections.specs.Initials.{used_bytes}
use Rattle.fx_sections.proofs.Used.{used_bytes-last}

pub last_kept : (bs : List ℕ) (n : ℕ) → 0 < n → n ≤ length bs → get_or bs (n - 1) 0 ≢ 0 → used_bytes (take n bs) ≡ take n bs
last_kept bs zero some within other = absurd (omega arith)
last_kept bs (suc n) some within other =
    let same : n + 1 ≡ suc n = omega arith in
    let before : suc n - 1 ≡ n = omega arith in
    let kept : get_or bs n 0 ≢ 0 = λ e. other (ap (λ m. get_or bs m 0) before ∙ e) in
    let whole : take (n + 1) bs ≡ take n bs ++ get_or bs n 0 ∷ [] = take_more bs n 0 (omega arith) in
    subst (λ m. used_bytes (take m bs) ≡ take m bs) same (ap used_bytes whole ∙ used_bytes-last (take n bs) (get_or bs n 0) kept ∙ sym whole)
