-- The bits of a PKRU value.
use Rattle.std.proofs.Common.{◌≡◌, ℕ, ◌+◌, ◌*◌, ◌/◌, ◌%◌, ◌^◌, ◌<◌, ◌≤◌, Bool, true, false, if◌then◌else◌, nat_eq, List, refl, sym, ap, ◌∙◌, arith}
use Rattle.std.proofs.Math.Nat.{div-div-eq-div-mul}
use Rattle.std.proofs.lemmas.Nat.{pow-add, mul-pow}
use Rattle.std.proofs.lemmas.Grind.{pow_more}
use Rattle.std.specs.Int.{bit_at}
use Rattle.fx_image.specs.declared.forms.Section.{Section}
use Rattle.fx_image.specs.Keys.{key_bits, key_read, key_written, pkru_of}
use Rattle.fx_image_law.proofs.Digits.{digit, lowest}

fours : (k : ℕ) → 2 ^ (2 * k) ≡ 4 ^ k
fours k = ap (λ n. 2 ^ n) (twice k) ∙ pow-add 2 k k ∙ sym (mul-pow 2 2 k)
  where
    twice : (n : ℕ) → 2 * n ≡ n + n
    twice n = omega arith

even_bit : (v k : ℕ) → bit_at v (2 * k) ≡ v / 4 ^ k % 2
even_bit v k = ap (λ u. v / u % 2) (fours k)

odd_bit : (v k : ℕ) → bit_at v (2 * k + 1) ≡ v / 4 ^ k / 2 % 2
odd_bit v k = ap (λ u. v / u % 2) (pow_more 2 (2 * k) ∙ ap (λ u. u * 2) (fours k)) ∙ ap (λ n. n % 2) (sym (div-div-eq-div-mul v (4 ^ k) 2))

low_part : (b q : ℕ) → (b + 4 * q) % 2 ≡ b % 2
low_part b q = omega arith

high_part : (b q : ℕ) → (b + 4 * q) / 2 % 2 ≡ b / 2 % 2
high_part b q = omega arith

-- the two bits of a key
read_bit : (r w : Bool) → ((if r then 0 else 1) + (if w then 0 else 2)) % 2 ≡ (if r then 0 else 1)
read_bit true true = refl
read_bit true false = refl
read_bit false true = refl
read_bit false false = refl

write_bit : (r w : Bool) → ((if r then 0 else 1) + (if w then 0 else 2)) / 2 % 2 ≡ (if w then 0 else 1)
write_bit true true = refl
write_bit true false = refl
write_bit false true = refl
write_bit false false = refl

scheduler_bit : ℕ → ℕ → ℕ
scheduler_bit scheduler c = if nat_eq c scheduler then 0 else 8

scheduler_small : (scheduler c : ℕ) → scheduler_bit scheduler c < 16
unfolding scheduler_bit
scheduler_small scheduler c = by (nat_eq c scheduler)
  where
    by : (b : Bool) → (if b then 0 else 8) < 16
    by true = omega arith
    by false = omega arith

pub key_reads : (sections : List Section) (scheduler c k : ℕ) → 2 ≤ k → k < 16 → bit_at (pkru_of sections scheduler c) (2 * k) ≡ (if key_read sections c k then 0 else 1)
unfolding pkru_of scheduler_bit
key_reads sections scheduler c k le less =
    let d = digit sections c (scheduler_bit scheduler c) (scheduler_small scheduler c) k le less in
    even_bit (pkru_of sections scheduler c) k ∙ ap (λ n. n % 2) d.1 ∙ low_part (key_bits sections c k) d.0 ∙ read_bit (key_read sections c k) (key_written sections c k)

pub key_writes : (sections : List Section) (scheduler c k : ℕ) → 2 ≤ k → k < 16 → bit_at (pkru_of sections scheduler c) (2 * k + 1) ≡ (if key_written sections c k then 0 else 1)
unfolding pkru_of scheduler_bit
key_writes sections scheduler c k le less =
    let d = digit sections c (scheduler_bit scheduler c) (scheduler_small scheduler c) k le less in
    odd_bit (pkru_of sections scheduler c) k ∙ ap (λ n. n / 2 % 2) d.1 ∙ high_part (key_bits sections c k) d.0 ∙ write_bit (key_read sections c k) (key_written sections c k)

low_bits : (b : Bool) (q : ℕ) → let v = (if b then 0 else 8) + 16 * q in (bit_at v 0 ≡ 0) × (bit_at v 1 ≡ 0) × (bit_at v 2 ≡ 0) × (bit_at v 3 ≡ (if b then 0 else 1))
low_bits true q = (omega arith, omega arith, omega arith, omega arith)
low_bits false q = (omega arith, omega arith, omega arith, omega arith)

pub first_bits : (sections : List Section) (scheduler c : ℕ) → let v = pkru_of sections scheduler c in (bit_at v 0 ≡ 0) × (bit_at v 1 ≡ 0) × (bit_at v 2 ≡ 0) × (bit_at v 3 ≡ (if nat_eq c scheduler then 0 else 1))
unfolding pkru_of scheduler_bit
first_bits sections scheduler c =
    let l = lowest sections c (scheduler_bit scheduler c) (scheduler_small scheduler c) in
    let b = low_bits (nat_eq c scheduler) l.0 in
    (ap (λ v. bit_at v 0) l.1 ∙ b.0, ap (λ v. bit_at v 1) l.1 ∙ b.1, ap (λ v. bit_at v 2) l.1 ∙ b.2, ap (λ v. bit_at v 3) l.1 ∙ b.3)
