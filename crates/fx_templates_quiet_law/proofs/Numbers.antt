-- Displacements and constants whose bytes hold no WRPKRU.
use Rattle.std.proofs.Common.{◌≡◌, ◌<◌, ◌≤◌, ◌+◌, ◌-◌, ◌*◌, ◌/◌, ◌%◌, ◌^◌, ◌==◌, ℕ, ℤ, pos, negsuc}
use Rattle.std.proofs.Common.{suc, true, false, not, ◌&&◌, ◌||◌, nat_eq, List, [], ◌∷◌, refl, sym}
use Rattle.std.proofs.Common.{ap}
use Rattle.std.proofs.Common.{subst, ◌∙◌, arith}
use Rattle.std.specs.Prelude.{◌-ℤ◌}
use Rattle.std.specs.Int.{w32, w64, to_le_bytes, cast_unsigned}
use Rattle.std.proofs.lemmas.Bool.{and_from, and_parts, and_left, and_right, not_from_false, ne_eqb}
use Rattle.std.proofs.lemmas.Bool.{eqb-true, eqb-false, or_from, or_parts, false_from_ne_true}
use Rattle.std.proofs.lemmas.Int.{ints, of_z-to_z}
use Rattle.fx_x64_code.specs.Spelling.{le32}
use Rattle.fx_image.specs.Rules.{is_key_sequence}
use Rattle.fx_linker_law.proofs.Quiet.{is_clean, four_clean}
use Rattle.fx_templates_core.specs.Constants.{begins_with_key, has_key, immediate}
use Rattle.fx_templates_core.specs.Memory.{device_place}
use Rattle.fx_templates_quiet_law.proofs.Forms.{before}

-- ---- few bytes

two_clean : (a b : ℕ) → is_clean (a ∷ b ∷ []) ≡ true
two_clean a b =
    and_from (not (is_key_sequence (a ∷ b ∷ []) 0)) (is_clean (b ∷ []))
    (not_from_false (is_key_sequence (a ∷ b ∷ []) 0)
    (and_right (nat_eq 0x0f a) (nat_eq 0x01 b && false) (and_right (nat_eq 0x01 b) false refl)))
    (and_from (not (is_key_sequence (b ∷ []) 0)) true
    (not_from_false (is_key_sequence (b ∷ []) 0) (and_right (nat_eq 0x0f b) false refl)) refl)

-- three bytes that aren't WRPKRU's, in front of others
keyless : (a b c : ℕ) (bs : List ℕ) → (nat_eq 0x0f a && (nat_eq 0x01 b && (nat_eq 0xef c && true)))
    ≡ false
    → is_clean (b ∷ c ∷ bs) ≡ true → is_clean (a ∷ b ∷ c ∷ bs) ≡ true
keyless a b c bs other rest =
    and_from (not (is_key_sequence (a ∷ b ∷ c ∷ bs) 0)) (is_clean (b ∷ c ∷ bs))
    (not_from_false (is_key_sequence (a ∷ b ∷ c ∷ bs) 0) other) rest

-- bytes of which the first isn't WRPKRU's first, nor the fourth its last
outer_clean : (a b c d : ℕ) → nat_eq 0x0f a ≡ false → nat_eq 0xef d ≡ false
    → is_clean (a ∷ b ∷ c ∷ d ∷ []) ≡ true
outer_clean a b c d first last =
    before a (b ∷ c ∷ d ∷ []) first
    (keyless b c d []
    (and_right (nat_eq 0x0f b) (nat_eq 0x01 c && (nat_eq 0xef d && true))
    (and_right (nat_eq 0x01 c) (nat_eq 0xef d && true) (and_left (nat_eq 0xef d) true last)))
    (two_clean c d))

-- ---- displacements, and constants that are known to be small

-- the third and the fourth byte aren't WRPKRU's last
pub number_clean : (n : ℕ) → (0xef ≡ n / 65536 % 256 → ⊥) → (0xef ≡ n / 16777216 % 256 → ⊥)
    → is_clean (le32 (pos n)) ≡ true
number_clean n third last =
    four_clean (n % 256) (n / 256 ^ 1 % 256) (n / 256 ^ 2 % 256) (n / 256 ^ 3 % 256)
    (ne_eqb 0xef (n / 65536 % 256) third) (ne_eqb 0xef (n / 16777216 % 256) last)

pub small_clean : (n : ℕ) → n < 0xef0000 → is_clean (le32 (pos n)) ≡ true
small_clean n small = number_clean n (λ e. omega (arith, e)) (λ e. omega (arith, e))

pub device_clean : (device register : ℕ) → device ≤ 15 → register ≤ 511
    → is_clean (le32 (pos (device_place device register))) ≡ true
device_clean device register few less =
    number_clean (device_place device register) (λ e. omega (arith, e)) (λ e. omega (arith, e))

-- up to 1,048,576 below 0
pub below_clean : (n : ℕ) → n < 1048576 → is_clean (le32 (negsuc n)) ≡ true
below_clean n small =
    let u = 4294967296 - suc n in
    four_clean (u % 256) (u / 256 ^ 1 % 256) (u / 256 ^ 2 % 256) (u / 256 ^ 3 % 256)
    (ne_eqb 0xef (u / 65536 % 256) (λ e. omega (arith, e)))
    (ne_eqb 0xef (u / 16777216 % 256) (λ e. omega (arith, e)))

-- between a number and another
pub apart_clean : (z : ℤ) (up down : ℕ) → z ≡ pos up -ℤ pos down → up ≤ 262144 → down ≤ 65536
    → is_clean (le32 z) ≡ true
apart_clean (pos n) up down is less near = small_clean n (omega (arith, ints))
apart_clean (negsuc n) up down is less near = below_clean n (omega (arith, ints))

-- a multiple of 8 below 0
pub slot_clean : (locals k : ℕ) → locals % 8 ≡ 0 → locals + 8 * k < 16777000
    → is_clean (le32 (negsuc (locals + 8 * k + 7))) ≡ true
slot_clean locals k even near =
    let u = 4294967296 - suc (locals + 8 * k + 7) in
    outer_clean (u % 256) (u / 256 ^ 1 % 256) (u / 256 ^ 2 % 256) (u / 256 ^ 3 % 256)
    (ne_eqb 0x0f (u % 256) (λ e. omega (arith, e)))
    (ne_eqb 0xef (u / 16777216 % 256) (λ e. omega (arith, e)))

-- ---- constants that are tested

-- three bytes of a number whose lowest three aren't WRPKRU's
unkeyed : (m a b c : ℕ) → begins_with_key m ≡ false → a ≡ m % 256 → b ≡ m / 256 % 256
    → c ≡ m / 65536 % 256 → (nat_eq 0x0f a && (nat_eq 0x01 b && (nat_eq 0xef c && true))) ≡ false
unkeyed m a b c other first second third =
    false_from_ne_true (nat_eq 0x0f a && (nat_eq 0x01 b && (nat_eq 0xef c && true))) found
  where
    found : (nat_eq 0x0f a && (nat_eq 0x01 b && (nat_eq 0xef c && true))) ≡ true → ⊥
    found is =
        let one = and_parts (nat_eq 0x0f a) (nat_eq 0x01 b && (nat_eq 0xef c && true)) is in
        let two = and_parts (nat_eq 0x01 b) (nat_eq 0xef c && true) one.1 in
        let three = and_parts (nat_eq 0xef c) true two.1 in
        let x : 0x0f ≡ a = eqb-true 0x0f a one.0 in
        let y : 0x01 ≡ b = eqb-true 0x01 b two.0 in
        let z : 0xef ≡ c = eqb-true 0xef c three.0 in
        let whole : m % 0x1000000 ≡ 0xef010f = omega arith in
        eqb-false (m % 0x1000000) 0xef010f other whole

-- at none of its six places a number of 64 bits has WRPKRU's bytes
record AreUnkeyed (n : ℕ) : Type 0 where
  first : begins_with_key n ≡ false
  second : begins_with_key (n / 0x100) ≡ false
  third : begins_with_key (n / 0x10000) ≡ false
  fourth : begins_with_key (n / 0x1000000) ≡ false
  fifth : begins_with_key (n / 0x100000000) ≡ false
  sixth : begins_with_key (n / 0x10000000000) ≡ false

places : (n : ℕ) → has_key n ≡ false → AreUnkeyed n
places n other =
    let t0 = begins_with_key n in
    let t1 = begins_with_key (n / 0x100) in
    let t2 = begins_with_key (n / 0x10000) in
    let t3 = begins_with_key (n / 0x1000000) in
    let t4 = begins_with_key (n / 0x100000000) in
    let t5 = begins_with_key (n / 0x10000000000) in
    let p5 = or_parts (t0 || t1 || t2 || t3 || t4) t5 other in
    let p4 = or_parts (t0 || t1 || t2 || t3) t4 p5.0 in
    let p3 = or_parts (t0 || t1 || t2) t3 p4.0 in
    let p2 = or_parts (t0 || t1) t2 p3.0 in
    let p1 = or_parts t0 t1 p2.0 in
    record {
      first = p1.0;
      second = p1.1;
      third = p2.1;
      fourth = p3.1;
      fifth = p4.1;
      sixth = p5.1;
    }

pub unkeyed_word : (n : ℕ) → has_key n ≡ false → is_clean (to_le_bytes w64 n) ≡ true
unkeyed_word n other =
    let t = places n other in
    let b0 = n % 256 in
    let b1 = n / 256 ^ 1 % 256 in
    let b2 = n / 256 ^ 2 % 256 in
    let b3 = n / 256 ^ 3 % 256 in
    let b4 = n / 256 ^ 4 % 256 in
    let b5 = n / 256 ^ 5 % 256 in
    let b6 = n / 256 ^ 6 % 256 in
    let b7 = n / 256 ^ 7 % 256 in
    keyless b0 b1 b2 (b3 ∷ b4 ∷ b5 ∷ b6 ∷ b7 ∷ []) (unkeyed n b0 b1 b2 t.first refl refl refl)
    (keyless b1 b2 b3 (b4 ∷ b5 ∷ b6 ∷ b7 ∷ [])
    (unkeyed (n / 0x100) b1 b2 b3 t.second refl (omega arith) (omega arith))
    (keyless b2 b3 b4 (b5 ∷ b6 ∷ b7 ∷ [])
    (unkeyed (n / 0x10000) b2 b3 b4 t.third refl (omega arith) (omega arith))
    (keyless b3 b4 b5 (b6 ∷ b7 ∷ [])
    (unkeyed (n / 0x1000000) b3 b4 b5 t.fourth refl (omega arith) (omega arith))
    (keyless b4 b5 b6 (b7 ∷ [])
    (unkeyed (n / 0x100000000) b4 b5 b6 t.fifth refl (omega arith) (omega arith))
    (keyless b5 b6 b7 []
    (unkeyed (n / 0x10000000000) b5 b6 b7 t.sixth refl (omega arith) (omega arith))
    (two_clean b6 b7))))))

four_unkeyed : (n : ℕ) → begins_with_key n ≡ false → begins_with_key (n / 0x100) ≡ false
    → is_clean (to_le_bytes w32 n) ≡ true
four_unkeyed n first second =
    let b0 = n % 256 in
    let b1 = n / 256 ^ 1 % 256 in
    let b2 = n / 256 ^ 2 % 256 in
    let b3 = n / 256 ^ 3 % 256 in
    keyless b0 b1 b2 (b3 ∷ []) (unkeyed n b0 b1 b2 first refl refl refl)
    (keyless b1 b2 b3 [] (unkeyed (n / 0x100) b1 b2 b3 second refl (omega arith) (omega arith))
    (two_clean b2 b3))

pub immediate_clean : (n : ℕ) → has_key n ≡ false → is_clean (le32 (immediate n)) ≡ true
immediate_clean n other =
    let t = places n other in
    let u = n % 4294967296 in
    let small : u < 4294967296 = omega arith in
    let is : cast_unsigned w32 (immediate n) ≡ u = of_z-to_z w32 u small in
    let low : u % 0x1000000 ≡ n % 0x1000000 = omega arith in
    let high : u / 0x100 % 0x1000000 ≡ n / 0x100 % 0x1000000 = omega arith in
    subst (λ v. is_clean (to_le_bytes w32 v) ≡ true) (sym is)
    (four_unkeyed u (ap (λ m. m == 0xef010f) low ∙ t.first)
    (ap (λ m. m == 0xef010f) high ∙ t.second))

-- the place of a runtime's table, and of the count in it
pub place_unkeyed : (n : ℕ) → n % 4096 ≤ 256 → n < 68719476736 → has_key n ≡ false
place_unkeyed n low small =
    let t0 = begins_with_key n in
    let t1 = begins_with_key (n / 0x100) in
    let t2 = begins_with_key (n / 0x10000) in
    let t3 = begins_with_key (n / 0x1000000) in
    let t4 = begins_with_key (n / 0x100000000) in
    let t5 = begins_with_key (n / 0x10000000000) in
    or_from (t0 || t1 || t2 || t3 || t4) t5
    (or_from (t0 || t1 || t2 || t3) t4
    (or_from (t0 || t1 || t2) t3
    (or_from (t0 || t1) t2
    (or_from t0 t1
    (ne_eqb (n % 0x1000000) 0xef010f (λ e. omega (arith, e)))
    (ne_eqb (n / 0x100 % 0x1000000) 0xef010f (λ e. omega (arith, e))))
    (ne_eqb (n / 0x10000 % 0x1000000) 0xef010f (λ e. omega (arith, e))))
    (ne_eqb (n / 0x1000000 % 0x1000000) 0xef010f (λ e. omega (arith, e))))
    (ne_eqb (n / 0x100000000 % 0x1000000) 0xef010f (λ e. omega (arith, e))))
    (ne_eqb (n / 0x10000000000 % 0x1000000) 0xef010f (λ e. omega (arith, e)))
