-- Bytes of numbers.
use Rattle.std.proofs.Common.{◌≡◌, ℕ, zero, suc, ◌<◌, arith}
use Rattle.std.specs.Prelude.{slice_index}
use Rattle.std.specs.Int.{to_le_bytes, w64}
use Rattle.fx_cpu.specs.Memory.{byte_of}

pub low_byte : (v i : ℕ) → i < 8 → slice_index (to_le_bytes w64 v) i ≡ byte_of v i
low_byte v zero h = omega arith
low_byte v (suc zero) h = omega arith
low_byte v (suc (suc zero)) h = omega arith
low_byte v (suc (suc (suc zero))) h = omega arith
low_byte v (suc (suc (suc (suc zero)))) h = omega arith
low_byte v (suc (suc (suc (suc (suc zero))))) h = omega arith
low_byte v (suc (suc (suc (suc (suc (suc zero)))))) h = omega arith
low_byte v (suc (suc (suc (suc (suc (suc (suc zero))))))) h = omega arith
low_byte v (suc (suc (suc (suc (suc (suc (suc (suc i)))))))) h = absurd (omega arith)
