-- One more digit.
use Rattle.std.proofs.Common.{◌≡◌, ℕ, ◌+◌, ◌*◌, ◌-◌, ◌^◌, ◌<◌, ◌≤◌, Bool, true, false, None, Some, ap, ◌∙◌, arith, cond}
use Rattle.std.specs.Prelude.{nat_le, nat_lt, ◌&&◌}
use Rattle.std.proofs.lemmas.Bool.Decides.{nat_tests}
use Rattle.fx_cmd_base.specs.Words.{next_number}

le_no : (a b : ℕ) → b < a → nat_le a b ≡ false
le_no a b h = grind (arith, nat_tests)

le_yes : (a b : ℕ) → a ≤ b → nat_le a b ≡ true
le_yes a b h = grind (arith, nat_tests)

lt_no : (a b : ℕ) → b ≤ a → nat_lt a b ≡ false
lt_no a b h = grind (arith, nat_tests)

lt_yes : (a b : ℕ) → a < b → nat_lt a b ≡ true
lt_yes a b h = grind (arith, nat_tests)

pub below : (n d : ℕ) → d < 48 → next_number n d ≡ None
below n d h = ap (λ t. cond (t && nat_le d 57 && nat_lt (n * 10 + (d - 48)) (2 ^ 64)) (Some (n * 10 + (d - 48))) None) (le_no 48 d h)

pub above : (n d : ℕ) → 48 ≤ d → 57 < d → next_number n d ≡ None
above n d low h =
    ap (λ t. cond (t && nat_le d 57 && nat_lt (n * 10 + (d - 48)) (2 ^ 64)) (Some (n * 10 + (d - 48))) None) (le_yes 48 d low)
    ∙ ap (λ t. cond (t && nat_lt (n * 10 + (d - 48)) (2 ^ 64)) (Some (n * 10 + (d - 48))) None) (le_no d 57 h)

at : (n d : ℕ) (t : Bool) → 48 ≤ d → d ≤ 57 → nat_lt (n * 10 + (d - 48)) (2 ^ 64) ≡ t → next_number n d ≡ cond t (Some (n * 10 + (d - 48))) None
at n d t low high e =
    ap (λ b. cond (b && nat_le d 57 && nat_lt (n * 10 + (d - 48)) (2 ^ 64)) (Some (n * 10 + (d - 48))) None) (le_yes 48 d low)
    ∙ ap (λ b. cond (b && nat_lt (n * 10 + (d - 48)) (2 ^ 64)) (Some (n * 10 + (d - 48))) None) (le_yes d 57 high)
    ∙ ap (λ b. cond b (Some (n * 10 + (d - 48))) None) e

pub past : (n d : ℕ) → 48 ≤ d → d ≤ 57 → 2 ^ 64 ≤ n * 10 + (d - 48) → next_number n d ≡ None
past n d low high h = at n d false low high (lt_no (n * 10 + (d - 48)) (2 ^ 64) h)

pub fits : (n d : ℕ) → 48 ≤ d → d ≤ 57 → n * 10 + (d - 48) < 2 ^ 64 → next_number n d ≡ Some (n * 10 + (d - 48))
fits n d low high h = at n d true low high (lt_yes (n * 10 + (d - 48)) (2 ^ 64) h)
