-- Places of stacks fit in 31 bits.
use Rattle.std.proofs.Common.{ℕ, ◌*◌, ◌≤◌, arith, mul-le-mul_left, mul-le-mul_right}

-- a number of a byte times the span of a stack of at most 255 pages
pub span_bound : (n span : ℕ) → n ≤ 255 → span ≤ 2097152 → n * span ≤ 534773760
span_bound n span few small =
    let first = mul-le-mul_right {m = n} {n = 255} span few in
    omega (arith, first)
