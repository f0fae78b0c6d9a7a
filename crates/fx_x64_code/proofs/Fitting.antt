use Rattle.std.proofs.Common.{◌≡◌, ◌<◌, ◌+◌, ◌*◌, ◌/◌, ◌%◌, ◌^◌, ℕ, ℤ, arith, Bool, true, false, ◌==◌, subst, List, Option, Some, None, drop, lit<}
use Rattle.std.specs.Prelude.{cond, slice_index, FitsSigned}
use Rattle.std.specs.Int.{w32}
use Rattle.std.proofs.Math.Facts.{Fits-of_lt, sfits_to_z}
use Rattle.std.proofs.Math.Nat.{mod-lt}
use Rattle.fx_x64_forms.specs.Numbers.{register_at}
use Rattle.fx_x64_forms.specs.declared.operand.Width.{Width}
use Rattle.fx_x64_forms.specs.declared.operand.Width.TheVariants.{W8, W16, W32}
use Rattle.fx_x64_forms.specs.declared.inst.AluOp.TheVariants.{Add, Sub, And, Or, Xor, Cmp, Test}
use Rattle.fx_x64_forms.specs.declared.inst.Inst.{Inst}
use Rattle.fx_x64_forms.specs.declared.inst.Inst.TheVariants.{Mov, Load, LoadZero, LoadSign, Zero, Sign, Store, MovImm, MovImm64, Lea, AluImm, Imul, Shift, Unary, Cqo, Setcc, Jcc, Jmp, Call, Ret, Push, Pop, Hlt, Nop, Wrpkru, Rdpkru}
use Rattle.fx_x64_code.specs.Codes.{alu_at, shift_at, unary_at, condition_at}
use Rattle.fx_x64_code.specs.Spelling.{InRange}
use Rattle.fx_x64_code.specs.Guess.{guess, guess_behind, guess_opcode, guess_two, guess_operand, u32_at, i32_at, width_of, digit, field, operand, is_memory, mem_at, opcode_register, alu_of, zero_of, sign_of, mov_of}

-- What is guessed has the numbers of its types, whatever the bytes.

u32_fits : (b : List ℕ) (i : ℕ) → u32_at b i < 2 ^ 32
u32_fits b i = mod-lt (slice_index b i + 256 * (slice_index b (i + 1) + 256 * (slice_index b (i + 2) + 256 * slice_index b (i + 3)))) (lit< tt)

i32_fits : (b : List ℕ) (i : ℕ) → FitsSigned w32 (i32_at b i)
i32_fits b i = sfits_to_z (Fits-of_lt {w = w32} {n = u32_at b i} (u32_fits b i))

sum_fits : (m n : ℕ) → m < 2 ^ 32 → n < 2 ^ 32 → m + 2 ^ 32 * n < 2 ^ 64
sum_fits m n p q = omega arith

u64_fits : (b : List ℕ) → u32_at b 1 + 2 ^ 32 * u32_at b 5 < 2 ^ 64
u64_fits b = sum_fits (u32_at b 1) (u32_at b 5) (u32_fits b 1) (u32_fits b 5)

-- a Some that fits, a None, and a choice of two
some_fits : (j : Inst) → InRange j → (i : Inst) → Some j ≡ Some i → InRange i
some_fits j r i e = let same : j ≡ i = cc in subst InRange same r

none_fits : (i : Inst) → ◌≡◌ {A = Option Inst} None (Some i) → InRange i
none_fits i e = absurd (cc)

either_fits : (c : Bool) (p q : Option Inst) → ((i : Inst) → p ≡ Some i → InRange i) → ((i : Inst) → q ≡ Some i → InRange i) → (i : Inst) → cond c p q ≡ Some i → InRange i
either_fits true p q f g = f
either_fits false p q f g = g

choice_fits : (c : Bool) (p q : Inst) → InRange p → InRange q → InRange (cond c p q)
choice_fits true p q f g = f
choice_fits false p q f g = g

disp_by : (c : Bool) (y z : ℤ) → FitsSigned w32 y → FitsSigned w32 z → FitsSigned w32 (cond c y z)
disp_by true y z f g = f
disp_by false y z f g = g

disp_fits : (x : ℕ) (b : List ℕ) → FitsSigned w32 ((mem_at x b).disp)
disp_fits x b = disp_by (slice_index b 1 % 8 == 4) (i32_at b 3) (i32_at b 2) (i32_fits b 3) (i32_fits b 2)

zero_fits : (from : Width) (x : ℕ) (b : List ℕ) → InRange (zero_of from x b)
zero_fits from x b = choice_fits (is_memory b) (LoadZero from (register_at (field x b)) (mem_at x b)) (Zero from (register_at (field x b)) (register_at (operand x b))) (disp_fits x b) tt

sign_fits : (from : Width) (x : ℕ) (b : List ℕ) → InRange (sign_of from x b)
sign_fits from x b = choice_fits (is_memory b) (LoadSign from (register_at (field x b)) (mem_at x b)) (Sign from (register_at (field x b)) (register_at (operand x b))) (disp_fits x b) tt

mov_fits : (small : Bool) (x : ℕ) (b : List ℕ) → InRange (mov_of small x b)
mov_fits small x b = choice_fits (is_memory b) (Store (cond small W16 (width_of x)) (mem_at x b) (register_at (field x b))) (Mov (width_of x) (register_at (operand x b)) (register_at (field x b))) (disp_fits x b) tt

operand_fits : (small : Bool) (x op : ℕ) (b : List ℕ) (i : Inst) → guess_operand small x op b ≡ Some i → InRange i
operand_fits small x op b =
    either_fits (op == 0x01) _ _ (some_fits (alu_of Add x b) tt)
    (either_fits (op == 0x09) _ _ (some_fits (alu_of Or x b) tt)
    (either_fits (op == 0x21) _ _ (some_fits (alu_of And x b) tt)
    (either_fits (op == 0x29) _ _ (some_fits (alu_of Sub x b) tt)
    (either_fits (op == 0x31) _ _ (some_fits (alu_of Xor x b) tt)
    (either_fits (op == 0x39) _ _ (some_fits (alu_of Cmp x b) tt)
    (either_fits (op == 0x63) _ _ (some_fits (sign_of W32 x b) (sign_fits W32 x b))
    (either_fits (op == 0x81) _ _ (some_fits (AluImm (alu_at (digit b)) (width_of x) (register_at (operand x b)) (i32_at b 2)) (i32_fits b 2))
    (either_fits (op == 0x85) _ _ (some_fits (alu_of Test x b) tt)
    (either_fits (op == 0x88) _ _ (some_fits (Store W8 (mem_at x b) (register_at (field x b))) (disp_fits x b))
    (either_fits (op == 0x89) _ _ (some_fits (mov_of small x b) (mov_fits small x b))
    (either_fits (op == 0x8b) _ _ (some_fits (Load (width_of x) (register_at (field x b)) (mem_at x b)) (disp_fits x b))
    (either_fits (op == 0x8d) _ _ (some_fits (Lea (register_at (field x b)) (mem_at x b)) (disp_fits x b))
    (either_fits (op == 0xc7) _ _ (some_fits (MovImm (register_at (operand x b)) (i32_at b 2)) (i32_fits b 2))
    (either_fits (op == 0xd3) _ _ (some_fits (Shift (shift_at (digit b)) (width_of x) (register_at (operand x b))) tt)
    (either_fits (op == 0xf7) _ _ (some_fits (Unary (unary_at (digit b)) (width_of x) (register_at (operand x b))) tt) none_fits)))))))))))))))

two_fits : (x op : ℕ) (b : List ℕ) (i : Inst) → guess_two x op b ≡ Some i → InRange i
two_fits x op b =
    either_fits (op / 16 == 8) _ _ (some_fits (Jcc (condition_at (op % 16)) (i32_at b 1)) (i32_fits b 1))
    (either_fits (op / 16 == 9) _ _ (some_fits (Setcc (condition_at (op % 16)) (register_at (operand x b))) tt)
    (either_fits (op == 0x01) _ _ (some_fits (cond (slice_index b 1 == 0xef) Wrpkru Rdpkru) (choice_fits (slice_index b 1 == 0xef) Wrpkru Rdpkru tt tt))
    (either_fits (op == 0xaf) _ _ (some_fits (Imul (width_of x) (register_at (field x b)) (register_at (operand x b))) tt)
    (either_fits (op == 0xb6) _ _ (some_fits (zero_of W8 x b) (zero_fits W8 x b))
    (either_fits (op == 0xb7) _ _ (some_fits (zero_of W16 x b) (zero_fits W16 x b))
    (either_fits (op == 0xbe) _ _ (some_fits (sign_of W8 x b) (sign_fits W8 x b))
    (either_fits (op == 0xbf) _ _ (some_fits (sign_of W16 x b) (sign_fits W16 x b)) none_fits)))))))

opcode_fits : (small : Bool) (x op : ℕ) (b : List ℕ) (i : Inst) → guess_opcode small x op b ≡ Some i → InRange i
opcode_fits small x op b =
    either_fits (op / 8 == 10) _ _ (some_fits (Push (register_at (opcode_register x op))) tt)
    (either_fits (op / 8 == 11) _ _ (some_fits (Pop (register_at (opcode_register x op))) tt)
    (either_fits (op / 8 == 23) _ _ (some_fits (MovImm64 (register_at (opcode_register x op)) (u32_at b 1 + 2 ^ 32 * u32_at b 5)) (u64_fits b))
    (either_fits (op == 0x0f) _ _ (two_fits x (slice_index b 1) (drop 1 b))
    (either_fits (op == 0x90) _ _ (some_fits Nop tt)
    (either_fits (op == 0x99) _ _ (some_fits Cqo tt)
    (either_fits (op == 0xc3) _ _ (some_fits Ret tt)
    (either_fits (op == 0xe8) _ _ (some_fits (Call (i32_at b 1)) (i32_fits b 1))
    (either_fits (op == 0xe9) _ _ (some_fits (Jmp (i32_at b 1)) (i32_fits b 1))
    (either_fits (op == 0xf4) _ _ (some_fits Hlt tt) (operand_fits small x op b))))))))))

behind_fits : (small : Bool) (b : List ℕ) (i : Inst) → guess_behind small b ≡ Some i → InRange i
behind_fits small b = either_fits (slice_index b 0 / 16 == 4) _ _ (opcode_fits small (slice_index b 0 % 16) (slice_index b 1) (drop 1 b)) (opcode_fits small 0 (slice_index b 0) b)

pub guess_fits : (b : List ℕ) (i : Inst) → guess b ≡ Some i → InRange i
guess_fits b = either_fits (slice_index b 0 == 0x66) _ _ (behind_fits true (drop 1 b)) (behind_fits false b)
