use Rattle.std.specs.Prelude.{ℕ, ℤ, ◌+◌, ◌-◌, ◌%◌, ◌^◌, Bool, not, ◌&&◌, ◌||◌, Option, slice_index, slice_set}
use Rattle.std.specs.Int.{w64, cast_unsigned}
use mathlib.Core.Bool.{beq}
use Rattle.fx_x64_forms.specs.Numbers.{register_number}
use Rattle.fx_x64_forms.specs.declared.operand.Width.{Width}
use Rattle.fx_x64_forms.specs.declared.operand.Reg.{Reg}
use Rattle.fx_x64_forms.specs.declared.operand.Mem.{Mem}
use Rattle.fx_x64_forms.specs.declared.operand.Cond.{Cond}
use Rattle.fx_x64_forms.specs.declared.operand.Cond.TheVariants.{O, No, B, Ae, E, Ne, Be, A, S, Ns, L, Ge, Le, G}
use Rattle.fx_word_ops.specs.Quotients.{division_of}
use Rattle.fx_word_ops.specs.declared.flags.Flags.{Flags}
use Rattle.fx_cpu.specs.declared.registers.Regs.{Regs}

-- A register, and the registers with one of them set.
abbrev pub reg : Regs → Reg → ℕ
reg r q = slice_index r.gpr (register_number q)

abbrev pub with_reg : Regs → Reg → ℕ → Regs
with_reg r q v = record r { gpr = slice_set r.gpr (register_number q) v }

-- Addresses wrap: the sum of one and a displacement, and those 8 bytes above and below one.
unfoldable pub plus : ℕ → ℤ → ℕ
plus a z = (a + cast_unsigned w64 z) % 2 ^ 64

unfoldable pub above : ℕ → ℕ
above a = (a + 8) % 2 ^ 64

unfoldable pub below : ℕ → ℕ
below a = (a + (2 ^ 64 - 8)) % 2 ^ 64

-- The address of a memory operand.
abbrev pub address : Regs → Mem → ℕ
address r mem = plus (reg r mem.base) mem.disp

-- RIP behind an instruction of this length.
abbrev pub past : Regs → ℕ → Regs
past r len = record r { rip = (r.rip + len) % 2 ^ 64 }

-- The quotient and the remainder of RDX:RAX by a register.
abbrev pub quotient : Bool → Width → Reg → Regs → Option (ℕ × ℕ)
quotient signed w by r = division_of w signed (slice_index r.gpr 2) (slice_index r.gpr 0) (reg r by)

-- Conditions on the flags (SDM volume 1, appendix B).
abbrev pub holds : Cond → Flags → Bool
holds O f = f.of
holds No f = not f.of
holds B f = f.cf
holds Ae f = not f.cf
holds E f = f.zf
holds Ne f = not f.zf
holds Be f = f.cf || f.zf
holds A f = not (f.cf || f.zf)
holds S f = f.sf
holds Ns f = not f.sf
holds L f = not (beq f.sf f.of)
holds Ge f = beq f.sf f.of
holds Le f = f.zf || not (beq f.sf f.of)
holds G f = not f.zf && beq f.sf f.of
