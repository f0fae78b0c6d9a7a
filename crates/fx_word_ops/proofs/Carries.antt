use Rattle.std.proofs.Common.{◌≡◌, ℕ, ◌+◌, ◌-◌, ◌*◌, ◌%◌, ◌<◌, ◌≤◌, ◌⊎◌, nat_lt, nat_le, not, arith, inl, inr, ⊎_elim}
use Rattle.std.specs.Prelude.{◌+ℤ◌, ◌-ℤ◌, ◌&&◌}
use Rattle.std.proofs.lemmas.Bool.{cases_lt}
use Rattle.std.proofs.lemmas.Bool.Decides.{nat_tests}
use Rattle.std.proofs.lemmas.Int.{ints}
use Rattle.std.proofs.Math.Nat.{mod-eq-sub-mod, mod-eq_of_lt}
use mathlib.Core.Bool.{beq}
use Rattle.fx_word_ops.specs.Words.{signed, fits}
use Rattle.fx_word_ops.specs.Words.{half, size, cut}
use Rattle.fx_x64_forms.specs.declared.operand.Width.{Width}
use Rattle.fx_word_ops.proofs.Masks.{cut_below}

pub sum_cases : (m x y : ℕ) → x < m → y < m → ((x + y < m) × ((x + y) % m ≡ x + y)) ⊎ ((m ≤ x + y) × ((x + y) % m + m ≡ x + y))
sum_cases m x y p q =
    ⊎_elim (λ h. inl (h, mod-eq_of_lt h)) (λ h. let e = mod-eq-sub-mod {n = x + y} {m = m} h in let lt : x + y - m < m = omega arith in let f = mod-eq_of_lt lt in inr (h, omega arith)) (cases_lt (x + y) m)

pub carry : (m x y r : ℕ) → x < m → y < m → ((x + y < m) × (r ≡ x + y)) ⊎ ((m ≤ x + y) × (r + m ≡ x + y)) → nat_lt r x ≡ nat_le m (x + y)
carry m x y r p q s = grind (arith, nat_tests)

pub over : (h x y r : ℕ) → x < 2 * h → y < 2 * h → ((x + y < 2 * h) × (r ≡ x + y)) ⊎ ((2 * h ≤ x + y) × (r + 2 * h ≡ x + y)) → (beq (nat_le h x) (nat_le h y) && not (beq (nat_le h r) (nat_le h x))) ≡ not (fits h (signed h x +ℤ signed h y))
over h x y r p q s = grind (arith, nat_tests, ints)

pub sub_cases : (m x y : ℕ) → x < m → y < m → ((x < y) × ((x + (m - y)) % m + y ≡ x + m)) ⊎ ((y ≤ x) × ((x + (m - y)) % m + y ≡ x))
sub_cases m x y p q =
    ⊎_elim
    (λ h. let lt : x + (m - y) < m = omega arith in let f = mod-eq_of_lt lt in inl (h, omega arith))
    (λ h. let le : m ≤ x + (m - y) = omega arith in let e = mod-eq-sub-mod {n = x + (m - y)} {m = m} le in let lt : x + (m - y) - m < m = omega arith in let f = mod-eq_of_lt lt in inr (h, omega arith))
    (cases_lt x y)

pub under : (h x y r : ℕ) → x < 2 * h → y < 2 * h → ((x < y) × (r + y ≡ x + 2 * h)) ⊎ ((y ≤ x) × (r + y ≡ x)) → (not (beq (nat_le h x) (nat_le h y)) && not (beq (nat_le h r) (nat_le h x))) ≡ not (fits h (signed h x -ℤ signed h y))
under h x y r p q s = grind (arith, nat_tests, ints)

pub add_carry : (w : Width) (a b : ℕ) → nat_lt (cut w (cut w a + cut w b)) (cut w a) ≡ nat_le (size w) (cut w a + cut w b)
add_carry w a b = carry (size w) (cut w a) (cut w b) _ (cut_below w a) (cut_below w b) (sum_cases _ _ _ (cut_below w a) (cut_below w b))

pub add_over : (w : Width) (a b : ℕ) → (beq (nat_le (half w) (cut w a)) (nat_le (half w) (cut w b)) && not (beq (nat_le (half w) (cut w (cut w a + cut w b))) (nat_le (half w) (cut w a)))) ≡ not (fits (half w) (signed (half w) (cut w a) +ℤ signed (half w) (cut w b)))
add_over w a b = over (half w) (cut w a) (cut w b) _ (cut_below w a) (cut_below w b) (sum_cases _ _ _ (cut_below w a) (cut_below w b))

pub sub_over : (w : Width) (a b : ℕ) → (not (beq (nat_le (half w) (cut w a)) (nat_le (half w) (cut w b))) && not (beq (nat_le (half w) (cut w (cut w a + (size w - cut w b)))) (nat_le (half w) (cut w a)))) ≡ not (fits (half w) (signed (half w) (cut w a) -ℤ signed (half w) (cut w b)))
sub_over w a b = under (half w) (cut w a) (cut w b) _ (cut_below w a) (cut_below w b) (sub_cases _ _ _ (cut_below w a) (cut_below w b))
