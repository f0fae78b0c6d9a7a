-- Bytes without the zeros at their end.
use Rattle.std.proofs.Common.{◌≡◌, ◌⊎◌, inl, inr, ◌≤◌, ◌<◌, ℕ, suc, ◌-◌, Bool, true, false, ◌==◌, nat_lt, List, [], ◌∷◌, length, refl, sym, ap, ◌∙◌, take, arith}
use Rattle.std.specs.Prelude.{slice_index, if◌then◌else◌}
use Rattle.std.proofs.lemmas.Bool.{or_right, or_cases, lt-ltb, eqb-true, eqb-false}
use Rattle.fx_image.specs.Rules.{is_trimmed}
use Rattle.std.specs.Int.{w64, to_le_bytes}
use Rattle.fx_c_ast.specs.declared.parsed.Init.{Init}
use Rattle.fx_c_ast.specs.declared.parsed.Init.TheVariants.{Zero, Number, Text}
use Rattle.fx_sections.specs.Initials.{before_used, used_bytes, initial_bytes}

before_length : (b : ℕ) (bs : List ℕ) → length (before_used b bs) ≤ suc (length bs)
before_length b [] = by (b == 0)
  where
    by : (t : Bool) → length (if t then [] else b ∷ []) ≤ 1
    by true = omega arith
    by false = omega arith
before_length b (c ∷ cs) = omega arith

pub used_length : (bs : List ℕ) → length (used_bytes bs) ≤ length bs
used_length [] = omega arith
used_length (b ∷ bs) = omega (arith, before_length b (used_bytes bs), used_length bs)

last : (b c : ℕ) (cs : List ℕ) → slice_index (b ∷ c ∷ cs) (length (b ∷ c ∷ cs) - 1) ≡ slice_index (c ∷ cs) (length (c ∷ cs) - 1)
last b c cs =
    let first : suc (suc (length cs)) - 1 ≡ suc (length cs) = omega arith in
    let second : suc (length cs) - 1 ≡ length cs = omega arith in
    ap (slice_index (b ∷ c ∷ cs)) first ∙ sym (ap (slice_index (c ∷ cs)) second)

before_trimmed : (b : ℕ) (bs : List ℕ) → is_trimmed bs ≡ true → is_trimmed (before_used b bs) ≡ true
before_trimmed b [] h = by (b == 0) refl
  where
    by : (t : Bool) → (b == 0) ≡ t → is_trimmed (if t then [] else b ∷ []) ≡ true
    by true e = refl
    by false e = lt-ltb 0 b (some (eqb-false b 0 e))
      where
        some : (b ≡ 0 → ⊥) → 0 < b
        some other = omega (arith, other)
before_trimmed b (c ∷ cs) h =
    or_right (length (b ∷ c ∷ cs) == 0) (nat_lt 0 (slice_index (b ∷ c ∷ cs) (length (b ∷ c ∷ cs) - 1)))
    (ap (nat_lt 0) (last b c cs) ∙ by (or_cases (length (c ∷ cs) == 0) (nat_lt 0 (slice_index (c ∷ cs) (length (c ∷ cs) - 1))) h))
  where
    by : ((length (c ∷ cs) == 0) ≡ true) ⊎ (nat_lt 0 (slice_index (c ∷ cs) (length (c ∷ cs) - 1)) ≡ true)
        → nat_lt 0 (slice_index (c ∷ cs) (length (c ∷ cs) - 1)) ≡ true
    by (inl none) = absurd (omega (arith, eqb-true (length (c ∷ cs)) 0 none))
    by (inr some) = some

pub used_trimmed : (bs : List ℕ) → is_trimmed (used_bytes bs) ≡ true
used_trimmed [] = refl
used_trimmed (b ∷ bs) = before_trimmed b (used_bytes bs) (used_trimmed bs)

pub initial_trimmed : (size : ℕ) (init : Init) → is_trimmed (initial_bytes size init) ≡ true
initial_trimmed size Zero = refl
initial_trimmed size (Number value) = used_trimmed (take size (to_le_bytes w64 value))
initial_trimmed size (Text bytes) = used_trimmed bytes
