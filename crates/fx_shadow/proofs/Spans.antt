-- Stacks beside one another.
use Rattle.std.proofs.Common.{◌≡◌, ◌≢◌, ◌⊎◌, ℕ, ◌+◌, ◌*◌, ◌<◌, ◌≤◌, inl, inr, ap, arith}
use Rattle.std.proofs.Math.Nat.{mul-le-mul_left}
use Rattle.std.proofs.lemmas.Bool.{cases_lt}

-- a whole span lies between the starts of two spans of different numbers
pub span_between : (n m span : ℕ) → n < m → n * span + span ≤ m * span
span_between n m span less =
    let le : n + 1 ≤ m = omega arith in
    omega (arith, mul-le-mul_left span le)

pub spans_apart : (first n m span : ℕ) → n ≢ m → (first + n * span + span ≤ first + m * span) ⊎ (first + m * span + span ≤ first + n * span)
spans_apart first n m span other =
    elim (cases_lt n m) [
      | inl less ↦ inl (omega (arith, span_between n m span less))
      | inr le ↦ inr (let less : m < n = omega arith in omega (arith, span_between m n span less))
    ]

pub one_row : (width row column other_row other : ℕ) → column < width → other < width → row * width + column ≡ other_row * width + other → (row ≡ other_row) × (column ≡ other)
one_row width row column other_row other within inside same =
    elim (cases_lt row other_row) [
      | inl less ↦ absurd (omega (arith, span_between row other_row width less))
      | inr le ↦ elim (cases_lt other_row row) [
        | inl less ↦ absurd (omega (arith, span_between other_row row width less))
        | inr also ↦ let e : row ≡ other_row = omega arith in (e, columns row other_row e same)
      ]
    ]
  where
    columns : (r o : ℕ) → r ≡ o → r * width + column ≡ o * width + other → column ≡ other
    columns r o e h = omega (arith, ap (λ n. n * width) e)

-- the same of stacks of so many bytes in each half, with two unmapped pages behind each
pub spans_in_bytes : (n m size : ℕ) → n ≢ m → (0x2000_1000 + n * (2 * size + 0x2000) + 2 * size + 0x2000 ≤ 0x2000_1000 + m * (2 * size + 0x2000)) ⊎ (0x2000_1000 + m * (2 * size + 0x2000) + 2 * size + 0x2000 ≤ 0x2000_1000 + n * (2 * size + 0x2000))
spans_in_bytes n m size other =
    elim (spans_apart 0x2000_1000 n m (2 * size + 0x2000) other) [
      | inl le ↦ inl (omega arith)
      | inr le ↦ inr (omega arith)
    ]
