use Rattle.std.proofs.Common.{◌≡◌, ℕ, ◌+◌, ◌-◌, ◌*◌, ◌%◌, ◌<◌, bit_and, bit_or, arith, ◌∙◌, ◌^◌}
use Rattle.std.proofs.lemmas.Nat.{and_mask, or_comm, or_shifted, mul-mod}
use Rattle.fx_word_ops.specs.Words.{size, cut}
use Rattle.fx_x64_forms.specs.declared.operand.Width.{Width}
use Rattle.fx_x64_forms.specs.declared.operand.Width.TheVariants.{W8, W16, W32, W64}

pub mask_cut : (w : Width) (a : ℕ) → bit_and a (size w - 1) ≡ cut w a
mask_cut W8 a = and_mask a 8
mask_cut W16 a = and_mask a 16
mask_cut W32 a = and_mask a 32
mask_cut W64 a = and_mask a 64

pub cut_below : (w : Width) (a : ℕ) → cut w a < size w
cut_below W8 a = omega arith
cut_below W16 a = omega arith
cut_below W32 a = omega arith
cut_below W64 a = omega arith

-- the bits above the width, as `!mask(w)`
pub or_high : (w : Width) (x : ℕ) → x < size w → bit_or x (2 ^ 64 - 1 - (size w - 1)) ≡ x + (size W64 - size w)
or_high W8 x p = or_comm x _ ∙ or_shifted (2 ^ 56 - 1) 8 x p ∙ omega arith
or_high W16 x p = or_comm x _ ∙ or_shifted (2 ^ 48 - 1) 16 x p ∙ omega arith
or_high W32 x p = or_comm x _ ∙ or_shifted (2 ^ 32 - 1) 32 x p ∙ omega arith
or_high W64 x p = or_comm x _ ∙ omega arith

pub cut_wrapped : (w : Width) (z : ℕ) → cut w (z % 2 ^ 64) ≡ cut w z
cut_wrapped W8 z = omega arith
cut_wrapped W16 z = omega arith
cut_wrapped W32 z = omega arith
cut_wrapped W64 z = omega arith

-- a wrapping difference at 64 bits
pub cut_lent : (w : Width) (x y : ℕ) → x < size w → y < size w → cut w ((x + (2 ^ 64 - y)) % 2 ^ 64) ≡ cut w (x + (size w - y))
cut_lent W8 x y p q = omega arith
cut_lent W16 x y p q = omega arith
cut_lent W32 x y p q = omega arith
cut_lent W64 x y p q = omega arith

pub cut_product : (w : Width) (a b : ℕ) → cut w (a * b % 2 ^ 64) ≡ cut w (cut w a * cut w b)
cut_product w a b = cut_wrapped w (a * b) ∙ mul-mod a b (size w)
