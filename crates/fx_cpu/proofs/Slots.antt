use Rattle.std.proofs.Common.{◌≡◌, ◌<◌, ◌+◌, ◌-◌, ◌%◌, ◌^◌, negsuc, arith, inl, inr}
use Rattle.std.proofs.Math.Nat.{mod-eq_of_lt}
use Rattle.fx_x64_forms.specs.declared.operand.Width.TheVariants.{W64}
use Rattle.fx_cpu.specs.Memory.{word_at}
use Rattle.fx_cpu.specs.Registers.{plus, above, below}
use Rattle.fx_cpu.specs.Laws.{Apart}
use Rattle.fx_cpu.specs.FrameSlots.{FrameSlotsHold}
use Rattle.fx_cpu.proofs.Memory.{plus_back, below_is, above_back, read_other, read_same}

pub frame_slots_hold : FrameSlotsHold
frame_slots_hold a c d b S B si di r8 r9 r10 r11 r12 r13 r14 r15 ip f k m p px q r s =
    let e1 : plus B (negsuc 15) ≡ B - 16 = plus_back B 15 (omega arith) s in
    let e2 : plus B (negsuc 31) ≡ B - 32 = plus_back B 31 (omega arith) s in
    let e3 : below S ≡ S - 8 = below_is S q (omega arith) in
    let e4 : above (S - 8) ≡ S = above_back S q (omega arith) in
    let m1 : a % 2 ^ 64 ≡ a = mod-eq_of_lt p in
    let m2 : word_at m W64 (B - 32) % 2 ^ 64 ≡ word_at m W64 (B - 32) = mod-eq_of_lt px in
    let i5 : (((((ip + 1) % 2 ^ 64 + 7) % 2 ^ 64 + 7) % 2 ^ 64 + 3) % 2 ^ 64 + 1) % 2 ^ 64 ≡ (ip + 19) % 2 ^ 64 = omega arith in
    let d12 : Apart (B - 16) 8 (B - 32) 8 = inr (omega arith, omega arith) in
    let d32 : Apart (S - 8) 8 (B - 32) 8 = inl (omega arith, omega arith) in
    let d13 : Apart (B - 16) 8 (S - 8) 8 = inr (omega arith, omega arith) in
    let l3 : S - 8 < 2 ^ 64 = omega arith in
    simp (e1, e2, e3, e4, m1, m2, i5, read_other, read_same)
