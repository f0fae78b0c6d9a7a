use Rattle.std.proofs.Common.{◌≡◌, ℕ, ◌<◌, ◌≤◌, true, not, arith, pos, negsuc, ℤ}
use Rattle.std.specs.Prelude.{unsigned_abs}
use Rattle.std.specs.Int.Signed.{quot_z, rem_z}
use Rattle.std.proofs.lemmas.Bool.Decides.{nat_tests}
use Rattle.std.proofs.lemmas.Int.{ints, rem_below}
use Rattle.std.proofs.Common.{zero, suc, refl, sym, ◌≢◌, false, Some, None}
use Rattle.std.proofs.lemmas.Bool.{cond-true, cond-false, not-true, not-false}
use Rattle.fx_word_ops.specs.Quotients.{signed_division}
use Rattle.fx_word_ops.specs.Words.{unsigned}
use Rattle.fx_word_ops.specs.Words.{half}
use Rattle.fx_x64_forms.specs.declared.operand.Width.{Width}
use Rattle.fx_word_ops.specs.Words.{fits}

abs_fits : (h : ℕ) (z : ℤ) → unsigned_abs z < h → fits h z ≡ true
abs_fits h (pos n) p = grind (arith, nat_tests, ints)
abs_fits h (negsuc n) p = grind (arith, nat_tests, ints)

fits_abs : (h : ℕ) (z : ℤ) → fits h z ≡ true → unsigned_abs z ≤ h
fits_abs h (pos n) p = grind (arith, nat_tests, ints)
fits_abs h (negsuc n) p = grind (arith, nat_tests, ints)

-- a remainder fits where its divisor does
pub rem_fits : (h : ℕ) (n d : ℤ) → 0 < unsigned_abs d → fits h d ≡ true → fits h (rem_z n d) ≡ true
rem_fits h n d p q = let b = rem_below n d p in let c = fits_abs h d q in abs_fits h (rem_z n d) (omega arith)

pub not_zero : (d : ℤ) → d ≢ pos 0 → 0 < unsigned_abs d
not_zero (pos zero) p = absurd (p refl)
not_zero (pos (suc n)) p = omega arith
not_zero (negsuc n) p = omega arith

pub quotient_none : (w : Width) (n d : ℤ) → true ≡ not (fits (half w) (quot_z n d)) → None ≡ signed_division w n d
quotient_none w n d p = sym (cond-false _ _ _ (not-true _ (sym p)))

pub quotient_some : (w : Width) (n d : ℤ) → false ≡ not (fits (half w) (quot_z n d)) → Some (unsigned (half w) (quot_z n d), unsigned (half w) (rem_z n d)) ≡ signed_division w n d
quotient_some w n d p = sym (cond-true _ _ _ (not-false _ (sym p)))
