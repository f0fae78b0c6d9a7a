use Rattle.std.specs.Prelude.{ℕ, ◌+◌, ◌-◌, ◌*◌, ◌/◌, ◌^◌, Bool, true, false, ◌==◌, nat_le, ◌&&◌, if◌then◌else◌, Option, Some, None, slice_index, slice_set}
use Rattle.std.specs.Int.{w64, cast_unsigned}
use Rattle.fx_x64_forms.specs.Numbers.{register_number}
use Rattle.fx_x64_forms.specs.declared.operand.Width.{Width}
use Rattle.fx_x64_forms.specs.declared.operand.Width.TheVariants.{W8, W16, W32, W64}
use Rattle.fx_x64_forms.specs.declared.operand.Reg.{Reg}
use Rattle.fx_x64_forms.specs.declared.operand.Reg.TheVariants.{Rax, Rcx, Rdx, Rsp}
use Rattle.fx_x64_forms.specs.declared.inst.AluOp.{AluOp}
use Rattle.fx_x64_forms.specs.declared.inst.AluOp.TheVariants.{Add, Sub, And, Or, Xor, Cmp, Test}
use Rattle.fx_x64_forms.specs.declared.inst.ShiftOp.{ShiftOp}
use Rattle.fx_x64_forms.specs.declared.inst.UnaryOp.{UnaryOp}
use Rattle.fx_x64_forms.specs.declared.inst.UnaryOp.TheVariants.{Not, Neg, Div, Idiv}
use Rattle.fx_x64_forms.specs.declared.inst.Inst.{Inst}
use Rattle.fx_x64_forms.specs.declared.inst.Inst.TheVariants.{Mov, Load, LoadZero, LoadSign, Zero}
use Rattle.fx_x64_forms.specs.declared.inst.Inst.TheVariants.{Sign, Store, MovImm, MovImm64, Lea}
use Rattle.fx_x64_forms.specs.declared.inst.Inst.TheVariants.{Alu, AluImm, Imul, Shift, Unary, Cqo}
use Rattle.fx_x64_forms.specs.declared.inst.Inst.TheVariants.{Setcc, Jcc, Jmp, Call, Ret, Push, Pop}
use Rattle.fx_x64_forms.specs.declared.inst.Inst.TheVariants.{Hlt, Nop, Wrpkru, Rdpkru}
use Rattle.fx_word_ops.specs.Words.{half, size, cut, sign_extension_of}
use Rattle.fx_word_ops.specs.Sums.{sum_of, difference_of, combination_of}
use Rattle.fx_word_ops.specs.Shifts.{shift_of}
use Rattle.fx_word_ops.specs.Products.{product_of}
use Rattle.fx_word_ops.specs.declared.flags.Flags.{Flags}
use Rattle.fx_word_ops.specs.declared.flags.LogicOp.TheVariants as logic
use Rattle.fx_cpu.specs.Registers.{reg, with_reg, plus, above, below, address, quotient, holds}
use Rattle.fx_cpu.specs.declared.registers.Regs.{Regs}
use Rattle.fx_cpu.specs.declared.need.Need.{Need}
use Rattle.fx_cpu.specs.declared.need.Need.TheVariants.{Quiet, Reads, Writes, Stops}
use Rattle.fx_cpu.specs.declared.trap.Trap.TheVariants as traps

-- The table of instructions (SDM volume 2), as two functions: what an instruction asks of memory, and
-- the registers after it. In both, RIP is the address of the next instruction already.

-- ---- What it asks of memory: at most one access.

-- A division stops where there is no quotient.
abbrev pub division_need : Option (ℕ × ℕ) → Need
division_need None = Stops traps.Divide
division_need (Some result) = Quiet

abbrev pub unary_need : UnaryOp → Width → Reg → Regs → Need
unary_need Not w q r = Quiet
unary_need Neg w q r = Quiet
unary_need Div w q r = division_need (quotient false w q r)
unary_need Idiv w q r = division_need (quotient true w q r)

-- The low half of a register is 0.
abbrev pub is_low_zero : Regs → Reg → Bool
is_low_zero r q = cut W32 (reg r q) == 0

abbrev pub key_need : Bool → Need
key_need true = Quiet
key_need false = Stops traps.Protection

abbrev pub need : Inst → Regs → Need
need (Mov w dst src) r = Quiet
need (Load w dst mem) r = Reads w (address r mem)
need (LoadZero from dst mem) r = Reads from (address r mem)
need (LoadSign from dst mem) r = Reads from (address r mem)
need (Zero from dst src) r = Quiet
need (Sign from dst src) r = Quiet
need (Store w mem src) r = Writes w (address r mem) (cut w (reg r src))
need (MovImm dst imm) r = Quiet
need (MovImm64 dst imm) r = Quiet
need (Lea dst mem) r = Quiet
need (Alu op w dst src) r = Quiet
need (AluImm op w dst imm) r = Quiet
need (Imul w dst src) r = Quiet
need (Shift op w dst) r = Quiet
need (Unary op w q) r = unary_need op w q r
need Cqo r = Quiet
need (Setcc c dst) r = Quiet
need (Jcc c rel) r = Quiet
need (Jmp rel) r = Quiet
need (Call rel) r = Writes W64 (below (reg r Rsp)) r.rip
need Ret r = Reads W64 (reg r Rsp)
need (Push q) r = Writes W64 (below (reg r Rsp)) (reg r q)
need (Pop q) r = Reads W64 (reg r Rsp)
need Hlt r = Stops traps.Halt
need Nop r = Quiet
need Wrpkru r = key_need (is_low_zero r Rcx && is_low_zero r Rdx)
need Rdpkru r = key_need (is_low_zero r Rcx)

-- ---- The registers after it, where v was read.

abbrev pub alu : AluOp → Width → ℕ → ℕ → ℕ × Flags
alu Add w a b = sum_of w a b
alu Sub w a b = difference_of w a b
alu And w a b = combination_of w logic.And a b
alu Or w a b = combination_of w logic.Or a b
alu Xor w a b = combination_of w logic.Xor a b
alu Cmp w a b = difference_of w a b
alu Test w a b = combination_of w logic.And a b

-- A result with its flags goes to a register.
abbrev pub with_result : Regs → Reg → ℕ × Flags → Regs
with_result r dst x = record r { gpr = slice_set r.gpr (register_number dst) x.0; flags = x.1 }

-- Cmp and Test keep the flags alone.
abbrev pub kept : AluOp → Regs → Reg → ℕ × Flags → Regs
kept Add r dst x = with_result r dst x
kept Sub r dst x = with_result r dst x
kept And r dst x = with_result r dst x
kept Or r dst x = with_result r dst x
kept Xor r dst x = with_result r dst x
kept Cmp r dst x = record r { flags = x.1 }
kept Test r dst x = record r { flags = x.1 }

-- The quotient goes to RAX, the remainder to RDX, and the flags are clear.
abbrev pub with_quotient : Option (ℕ × ℕ) → Regs → Regs
with_quotient None r = r
with_quotient (Some x) r = record r { gpr = slice_set (slice_set r.gpr 0 x.0) 2 x.1; flags = record { cf = false; zf = false; sf = false; of = false } }

abbrev pub unary_finish : UnaryOp → Width → Reg → Regs → Regs
unary_finish Not w q r = with_reg r q (size w - 1 - cut w (reg r q))
unary_finish Neg w q r = with_result r q (difference_of w 0 (reg r q))
unary_finish Div w q r = with_quotient (quotient false w q r) r
unary_finish Idiv w q r = with_quotient (quotient true w q r) r

-- The count is CL. Shifts have 32 and 64 bits; other widths are in no row of the table and do nothing.
abbrev pub shift_finish : ShiftOp → Width → Reg → Regs → Regs
shift_finish op W64 dst r = with_result r dst (shift_of W64 op (reg r dst) (cut W8 (reg r Rcx)) r.flags)
shift_finish op W32 dst r = with_result r dst (shift_of W32 op (reg r dst) (cut W8 (reg r Rcx)) r.flags)
shift_finish op W16 dst r = r
shift_finish op W8 dst r = r

abbrev pub finish : Inst → Regs → ℕ → Regs
finish (Mov w dst src) r v = with_reg r dst (cut w (reg r src))
finish (Load w dst mem) r v = with_reg r dst v
finish (LoadZero from dst mem) r v = with_reg r dst v
finish (LoadSign from dst mem) r v = with_reg r dst (sign_extension_of from v)
finish (Zero from dst src) r v = with_reg r dst (cut from (reg r src))
finish (Sign from dst src) r v = with_reg r dst (sign_extension_of from (reg r src))
finish (Store w mem src) r v = r
finish (MovImm dst imm) r v = with_reg r dst (cast_unsigned w64 imm)
finish (MovImm64 dst imm) r v = with_reg r dst imm
finish (Lea dst mem) r v = with_reg r dst (address r mem)
finish (Alu op w dst src) r v = kept op r dst (alu op w (reg r dst) (reg r src))
finish (AluImm op w dst imm) r v = kept op r dst (alu op w (reg r dst) (cast_unsigned w64 imm))
finish (Imul w dst src) r v = with_result r dst (product_of w (reg r dst) (reg r src))
finish (Shift op w dst) r v = shift_finish op w dst r
finish (Unary op w q) r v = unary_finish op w q r
finish Cqo r v = with_reg r Rdx (if nat_le (half W64) (reg r Rax) then 2 ^ 64 - 1 else 0)
finish (Setcc c dst) r v = with_reg r dst (reg r dst / 256 * 256 + (if holds c r.flags then 1 else 0))
finish (Jcc c rel) r v = if holds c r.flags then record r { rip = plus r.rip rel } else r
finish (Jmp rel) r v = record r { rip = plus r.rip rel }
finish (Call rel) r v = record r { gpr = slice_set r.gpr 4 (below (slice_index r.gpr 4)); rip = plus r.rip rel }
finish Ret r v = record r { gpr = slice_set r.gpr 4 (above (slice_index r.gpr 4)); rip = v }
finish (Push q) r v = record r { gpr = slice_set r.gpr 4 (below (slice_index r.gpr 4)) }
finish (Pop q) r v = record r { gpr = slice_set (slice_set r.gpr 4 (above (slice_index r.gpr 4))) (register_number q) v }
finish Hlt r v = r
finish Nop r v = r
finish Wrpkru r v = record r { pkru = record { 0 = cut W32 (reg r Rax) } }
finish Rdpkru r v = record r { gpr = slice_set (slice_set r.gpr 0 r.pkru.0) 2 0 }
