-- Numbers of at most eight bytes.
use Rattle.std.proofs.Common.{ℕ, zero, suc, ◌+◌, ◌*◌, ◌<◌, ◌≤◌, ◌^◌, arith, lit≤}

seven : (k : ℕ) → k ≤ 7 → 256 ^ k ≤ 256 ^ 7
seven zero h = lit≤ tt
seven (suc zero) h = lit≤ tt
seven (suc (suc zero)) h = lit≤ tt
seven (suc (suc (suc zero))) h = lit≤ tt
seven (suc (suc (suc (suc zero)))) h = lit≤ tt
seven (suc (suc (suc (suc (suc zero))))) h = lit≤ tt
seven (suc (suc (suc (suc (suc (suc zero)))))) h = lit≤ tt
seven (suc (suc (suc (suc (suc (suc (suc zero))))))) h = lit≤ tt
seven (suc (suc (suc (suc (suc (suc (suc (suc k)))))))) h = absurd (omega arith)

pub one_more : (k above : ℕ) → k ≤ 7 → above < 256 ^ k → 256 * above + 255 < 2 ^ 64
one_more k above le h = let top : 256 ^ k ≤ 256 ^ 7 = seven k le in omega arith
