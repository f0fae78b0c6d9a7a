use Rattle.std.specs.Prelude.{ℕ, ℤ, ◌+◌, ◌*◌, ◌/◌, ◌%◌, ◌^◌, ◌<◌, ◌≡◌, Bool, true, false, ◌==◌, not, ◌&&◌, if◌then◌else◌, List, [], ◌∷◌, ◌++◌, IsTrue, FitsSigned}
use Rattle.std.specs.Int.{to_le_bytes, w32, w64, cast_unsigned}
use Rattle.fx_x64_forms.specs.Numbers.{register_number, condition_code}
use Rattle.fx_x64_forms.specs.declared.operand.Width.{Width}
use Rattle.fx_x64_forms.specs.declared.operand.Width.TheVariants.{W8, W16, W32, W64}
use Rattle.fx_x64_forms.specs.declared.operand.Mem.{Mem}
use Rattle.fx_x64_forms.specs.declared.inst.AluOp.{AluOp}
use Rattle.fx_x64_forms.specs.declared.inst.AluOp.TheVariants.{Add, Sub, And, Or, Xor, Cmp, Test}
use Rattle.fx_x64_forms.specs.declared.inst.Inst.{Inst}
use Rattle.fx_x64_forms.specs.declared.inst.Inst.TheVariants.{Mov, Load, LoadZero, LoadSign, Zero}
use Rattle.fx_x64_forms.specs.declared.inst.Inst.TheVariants.{Sign, Store, MovImm, MovImm64, Lea}
use Rattle.fx_x64_forms.specs.declared.inst.Inst.TheVariants.{Alu, AluImm, Imul, Shift, Unary, Cqo}
use Rattle.fx_x64_forms.specs.declared.inst.Inst.TheVariants.{Setcc, Jcc, Jmp, Call, Ret, Push, Pop}
use Rattle.fx_x64_forms.specs.declared.inst.Inst.TheVariants.{Hlt, Nop, Wrpkru, Rdpkru}
use Rattle.fx_x64_code.specs.Codes.{alu_opcode, alu_digit, shift_digit, unary_digit, zero_opcode, sign_opcode}

-- How instructions are spelled (SDM volume 2, section 2.1, and section 2.2.1 on REX): prefix 66, REX, opcode, ModRM, SIB, displacement, immediate.

-- REX.W
abbrev pub wide : Width → ℕ
wide W64 = 1
wide W32 = 0
wide W16 = 0
wide W8 = 0

-- SPL, BPL, SIL and DIL are named by REX alone (SDM volume 2, table 3-1).
abbrev pub needs_rex : Width → ℕ → Bool
needs_rex W8 r = r / 4 == 1
needs_rex W16 r = false
needs_rex W32 r = false
needs_rex W64 r = false

-- REX for the register of the reg field and that of the r/m field, the base or the opcode. Where no bit is set it stands only where it is needed.
abbrev pub rex : Bool → ℕ → ℕ → ℕ → List ℕ
rex needed w field operand = if (w + (field / 8 + operand / 8) == 0) && not needed then [] else (64 + 8 * w + 4 * (field / 8) + operand / 8) ∷ []

-- ModRM of a register operand: mod 11.
abbrev pub direct : ℕ → ℕ → ℕ
direct field operand = 192 + 8 * (field % 8) + operand % 8

-- ModRM of a memory operand: mod 10.
abbrev pub based : ℕ → ℕ → ℕ
based field base = 128 + 8 * (field % 8) + base % 8

-- The SIB byte of bases 4 and 12: no index.
abbrev pub sib : ℕ → List ℕ
sib base = if base % 8 == 4 then 0x24 ∷ [] else []

-- A constant or displacement of 32 bits.
abbrev pub le32 : ℤ → List ℕ
le32 z = to_le_bytes w32 (cast_unsigned w32 z)

-- ModRM, SIB and displacement.
abbrev pub memory : ℕ → Mem → List ℕ
memory field mem = based field (register_number mem.base) ∷ (sib (register_number mem.base) ++ le32 mem.disp)

-- An instruction with a register operand, and one with a memory operand.
abbrev pub on_register : Bool → ℕ → List ℕ → ℕ → ℕ → List ℕ
on_register needed w opcode field operand = rex needed w field operand ++ (opcode ++ direct field operand ∷ [])

abbrev pub on_memory : Bool → ℕ → List ℕ → ℕ → Mem → List ℕ
on_memory needed w opcode field mem = rex needed w field (register_number mem.base) ++ (opcode ++ memory field mem)

abbrev pub store_spelling : Width → ℕ → Mem → List ℕ
store_spelling W8 src mem = on_memory (needs_rex W8 src) 0 (0x88 ∷ []) src mem
store_spelling W16 src mem = 0x66 ∷ on_memory false 0 (0x89 ∷ []) src mem
store_spelling W32 src mem = on_memory false 0 (0x89 ∷ []) src mem
store_spelling W64 src mem = on_memory false 1 (0x89 ∷ []) src mem

-- The spelling of an instruction, row by row.
abbrev pub spelling : Inst → List ℕ
spelling (Mov w dst src) = on_register false (wide w) (0x89 ∷ []) (register_number src) (register_number dst)
spelling (Load w dst mem) = on_memory false (wide w) (0x8b ∷ []) (register_number dst) mem
spelling (LoadZero from dst mem) = on_memory false 0 (zero_opcode from) (register_number dst) mem
spelling (LoadSign from dst mem) = on_memory false 1 (sign_opcode from) (register_number dst) mem
spelling (Zero from dst src) = on_register (needs_rex from (register_number src)) 0 (zero_opcode from) (register_number dst) (register_number src)
spelling (Sign from dst src) = on_register false 1 (sign_opcode from) (register_number dst) (register_number src)
spelling (Store w mem src) = store_spelling w (register_number src) mem
spelling (MovImm dst imm) = on_register false 1 (0xc7 ∷ []) 0 (register_number dst) ++ le32 imm
spelling (MovImm64 dst imm) = rex false 1 0 (register_number dst) ++ (0xb8 + register_number dst % 8) ∷ to_le_bytes w64 imm
spelling (Lea dst mem) = on_memory false 1 (0x8d ∷ []) (register_number dst) mem
spelling (Alu op w dst src) = on_register false (wide w) (alu_opcode op ∷ []) (register_number src) (register_number dst)
spelling (AluImm op w dst imm) = on_register false (wide w) (0x81 ∷ []) (alu_digit op) (register_number dst) ++ le32 imm
spelling (Imul w dst src) = on_register false (wide w) (0x0f ∷ 0xaf ∷ []) (register_number dst) (register_number src)
spelling (Shift op w dst) = on_register false (wide w) (0xd3 ∷ []) (shift_digit op) (register_number dst)
spelling (Unary op w reg) = on_register false (wide w) (0xf7 ∷ []) (unary_digit op) (register_number reg)
spelling Cqo = 0x48 ∷ 0x99 ∷ []
spelling (Setcc cc dst) = on_register (needs_rex W8 (register_number dst)) 0 (0x0f ∷ (0x90 + condition_code cc) ∷ []) 0 (register_number dst)
spelling (Jcc cc rel) = 0x0f ∷ (0x80 + condition_code cc) ∷ le32 rel
spelling (Jmp rel) = 0xe9 ∷ le32 rel
spelling (Call rel) = 0xe8 ∷ le32 rel
spelling Ret = 0xc3 ∷ []
spelling (Push reg) = rex false 0 0 (register_number reg) ++ (0x50 + register_number reg % 8) ∷ []
spelling (Pop reg) = rex false 0 0 (register_number reg) ++ (0x58 + register_number reg % 8) ∷ []
spelling Hlt = 0xf4 ∷ []
spelling Nop = 0x90 ∷ []
spelling Wrpkru = 0x0f ∷ 0x01 ∷ 0xef ∷ []
spelling Rdpkru = 0x0f ∷ 0x01 ∷ 0xee ∷ []

-- Widths of rows: 32 and 64 bits; 8 and 16 bits; less than 64 bits.
abbrev pub is_wide : Width → Bool
is_wide W8 = false
is_wide W16 = false
is_wide W32 = true
is_wide W64 = true

abbrev pub is_short : Width → Bool
is_short W8 = true
is_short W16 = true
is_short W32 = false
is_short W64 = false

abbrev pub is_part : Width → Bool
is_part W8 = true
is_part W16 = true
is_part W32 = true
is_part W64 = false

-- Operations that have a form with a constant.
abbrev pub has_constant : AluOp → Bool
has_constant Add = true
has_constant Sub = true
has_constant And = true
has_constant Or = true
has_constant Xor = true
has_constant Cmp = true
has_constant Test = false

-- Whether an instruction's widths and operation are those of a row.
abbrev pub has_row : Inst → Bool
has_row (Mov w dst src) = is_wide w
has_row (Load w dst mem) = is_wide w
has_row (LoadZero from dst mem) = is_short from
has_row (LoadSign from dst mem) = is_part from
has_row (Zero from dst src) = is_short from
has_row (Sign from dst src) = is_part from
has_row (Store w mem src) = true
has_row (MovImm dst imm) = true
has_row (MovImm64 dst imm) = true
has_row (Lea dst mem) = true
has_row (Alu op w dst src) = is_wide w
has_row (AluImm op w dst imm) = is_wide w && has_constant op
has_row (Imul w dst src) = is_wide w
has_row (Shift op w dst) = is_wide w
has_row (Unary op w reg) = is_wide w
has_row Cqo = true
has_row (Setcc cc dst) = true
has_row (Jcc cc rel) = true
has_row (Jmp rel) = true
has_row (Call rel) = true
has_row Ret = true
has_row (Push reg) = true
has_row (Pop reg) = true
has_row Hlt = true
has_row Nop = true
has_row Wrpkru = true
has_row Rdpkru = true

-- Its numbers are those of their types; so they are in every value that a program has.
abbrev pub InRange : Inst → Type 0
InRange (Mov w dst src) = Unit {0}
InRange (Load w dst mem) = FitsSigned w32 mem.disp
InRange (LoadZero from dst mem) = FitsSigned w32 mem.disp
InRange (LoadSign from dst mem) = FitsSigned w32 mem.disp
InRange (Zero from dst src) = Unit {0}
InRange (Sign from dst src) = Unit {0}
InRange (Store w mem src) = FitsSigned w32 mem.disp
InRange (MovImm dst imm) = FitsSigned w32 imm
InRange (MovImm64 dst imm) = imm < 2 ^ 64
InRange (Lea dst mem) = FitsSigned w32 mem.disp
InRange (Alu op w dst src) = Unit {0}
InRange (AluImm op w dst imm) = FitsSigned w32 imm
InRange (Imul w dst src) = Unit {0}
InRange (Shift op w dst) = Unit {0}
InRange (Unary op w reg) = Unit {0}
InRange Cqo = Unit {0}
InRange (Setcc cc dst) = Unit {0}
InRange (Jcc cc rel) = FitsSigned w32 rel
InRange (Jmp rel) = FitsSigned w32 rel
InRange (Call rel) = FitsSigned w32 rel
InRange Ret = Unit {0}
InRange (Push reg) = Unit {0}
InRange (Pop reg) = Unit {0}
InRange Hlt = Unit {0}
InRange Nop = Unit {0}
InRange Wrpkru = Unit {0}
InRange Rdpkru = Unit {0}

-- An instruction that is a row of the table.
abbrev pub IsRow : Inst → Type 0
IsRow i = IsTrue (has_row i) × InRange i

-- These bytes spell this instruction.
abbrev pub Spells : Inst → List ℕ → Type 0
Spells i bytes = IsRow i × (bytes ≡ spelling i)
