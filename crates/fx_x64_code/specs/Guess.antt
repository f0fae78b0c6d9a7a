use Rattle.std.specs.Prelude.{ℕ, ℤ, ◌+◌, ◌*◌, ◌/◌, ◌%◌, ◌^◌, Bool, true, false, ◌==◌, nat_lt, if◌then◌else◌, List, Option, Some, None, slice_index, drop}
use Rattle.std.specs.Int.{w32, cast_signed}
use Rattle.fx_x64_forms.specs.Numbers.{register_at}
use Rattle.fx_x64_forms.specs.declared.operand.Width.{Width}
use Rattle.fx_x64_forms.specs.declared.operand.Width.TheVariants.{W8, W16, W32, W64}
use Rattle.fx_x64_forms.specs.declared.operand.Mem.{Mem}
use Rattle.fx_x64_forms.specs.declared.inst.AluOp.{AluOp}
use Rattle.fx_x64_forms.specs.declared.inst.AluOp.TheVariants.{Add, Sub, And, Or, Xor, Cmp, Test}
use Rattle.fx_x64_forms.specs.declared.inst.Inst.{Inst}
use Rattle.fx_x64_forms.specs.declared.inst.Inst.TheVariants.{Mov, Load, LoadZero, LoadSign, Zero}
use Rattle.fx_x64_forms.specs.declared.inst.Inst.TheVariants.{Sign, Store, MovImm, MovImm64, Lea}
use Rattle.fx_x64_forms.specs.declared.inst.Inst.TheVariants.{Alu, AluImm, Imul, Shift, Unary, Cqo}
use Rattle.fx_x64_forms.specs.declared.inst.Inst.TheVariants.{Setcc, Jcc, Jmp, Call, Ret, Push, Pop}
use Rattle.fx_x64_forms.specs.declared.inst.Inst.TheVariants.{Hlt, Nop, Wrpkru, Rdpkru}
use Rattle.fx_x64_code.specs.Codes.{alu_at, shift_at, unary_at, condition_at}

-- The one instruction whose spelling could begin the bytes. A byte past the end counts as 0, and needless bits and bytes are not looked at: what is guessed is spelled again and compared.

-- The number of 32 bits at an index.
abbrev pub u32_at : List ℕ → ℕ → ℕ
u32_at b i = (slice_index b i + 256 * (slice_index b (i + 1) + 256 * (slice_index b (i + 2) + 256 * slice_index b (i + 3)))) % 2 ^ 32

abbrev pub i32_at : List ℕ → ℕ → ℤ
i32_at b i = cast_signed w32 (u32_at b i)

-- Below, x is the low half of REX, with its bits W, R, X and B, and b begins with the last byte of the opcode.

abbrev pub width_of : ℕ → Width
width_of x = if x / 8 % 2 == 1 then W64 else W32

-- The digit of the reg field, its register, and the register of the r/m field.
abbrev pub digit : List ℕ → ℕ
digit b = slice_index b 1 / 8 % 8

abbrev pub field : ℕ → List ℕ → ℕ
field x b = slice_index b 1 / 8 % 8 + 8 * (x / 4 % 2)

abbrev pub operand : ℕ → List ℕ → ℕ
operand x b = slice_index b 1 % 8 + 8 * (x % 2)

abbrev pub is_memory : List ℕ → Bool
is_memory b = nat_lt (slice_index b 1) 192

abbrev pub mem_at : ℕ → List ℕ → Mem
mem_at x b = record { base = register_at (operand x b); disp = if slice_index b 1 % 8 == 4 then i32_at b 3 else i32_at b 2 }

-- The register in an opcode's low bits.
abbrev pub opcode_register : ℕ → ℕ → ℕ
opcode_register x op = op % 8 + 8 * (x % 2)

-- An operation of two registers, the two extensions and the two forms of opcode 89.
abbrev pub alu_of : AluOp → ℕ → List ℕ → Inst
alu_of op x b = Alu op (width_of x) (register_at (operand x b)) (register_at (field x b))

abbrev pub zero_of : Width → ℕ → List ℕ → Inst
zero_of from x b = if is_memory b then LoadZero from (register_at (field x b)) (mem_at x b) else Zero from (register_at (field x b)) (register_at (operand x b))

abbrev pub sign_of : Width → ℕ → List ℕ → Inst
sign_of from x b = if is_memory b then LoadSign from (register_at (field x b)) (mem_at x b) else Sign from (register_at (field x b)) (register_at (operand x b))

abbrev pub mov_of : Bool → ℕ → List ℕ → Inst
mov_of small x b = if is_memory b then Store (if small then W16 else width_of x) (mem_at x b) (register_at (field x b)) else Mov (width_of x) (register_at (operand x b)) (register_at (field x b))

-- Opcodes of one byte that have a ModRM byte.
abbrev pub guess_operand : Bool → ℕ → ℕ → List ℕ → Option Inst
guess_operand small x op b =
    if op == 0x01 then Some (alu_of Add x b)
    else if op == 0x09 then Some (alu_of Or x b)
    else if op == 0x21 then Some (alu_of And x b)
    else if op == 0x29 then Some (alu_of Sub x b)
    else if op == 0x31 then Some (alu_of Xor x b)
    else if op == 0x39 then Some (alu_of Cmp x b)
    else if op == 0x63 then Some (sign_of W32 x b)
    else if op == 0x81 then Some (AluImm (alu_at (digit b)) (width_of x) (register_at (operand x b)) (i32_at b 2))
    else if op == 0x85 then Some (alu_of Test x b)
    else if op == 0x88 then Some (Store W8 (mem_at x b) (register_at (field x b)))
    else if op == 0x89 then Some (mov_of small x b)
    else if op == 0x8b then Some (Load (width_of x) (register_at (field x b)) (mem_at x b))
    else if op == 0x8d then Some (Lea (register_at (field x b)) (mem_at x b))
    else if op == 0xc7 then Some (MovImm (register_at (operand x b)) (i32_at b 2))
    else if op == 0xd3 then Some (Shift (shift_at (digit b)) (width_of x) (register_at (operand x b)))
    else if op == 0xf7 then Some (Unary (unary_at (digit b)) (width_of x) (register_at (operand x b)))
    else None

-- Opcodes of two bytes, of which op is the second.
abbrev pub guess_two : ℕ → ℕ → List ℕ → Option Inst
guess_two x op b =
    if op / 16 == 8 then Some (Jcc (condition_at (op % 16)) (i32_at b 1))
    else if op / 16 == 9 then Some (Setcc (condition_at (op % 16)) (register_at (operand x b)))
    else if op == 0x01 then Some (if slice_index b 1 == 0xef then Wrpkru else Rdpkru)
    else if op == 0xaf then Some (Imul (width_of x) (register_at (field x b)) (register_at (operand x b)))
    else if op == 0xb6 then Some (zero_of W8 x b)
    else if op == 0xb7 then Some (zero_of W16 x b)
    else if op == 0xbe then Some (sign_of W8 x b)
    else if op == 0xbf then Some (sign_of W16 x b)
    else None

-- Opcodes of one byte, and the escape 0F to two bytes.
abbrev pub guess_opcode : Bool → ℕ → ℕ → List ℕ → Option Inst
guess_opcode small x op b =
    if op / 8 == 10 then Some (Push (register_at (opcode_register x op)))
    else if op / 8 == 11 then Some (Pop (register_at (opcode_register x op)))
    else if op / 8 == 23 then Some (MovImm64 (register_at (opcode_register x op)) (u32_at b 1 + 2 ^ 32 * u32_at b 5))
    else if op == 0x0f then guess_two x (slice_index b 1) (drop 1 b)
    else if op == 0x90 then Some Nop
    else if op == 0x99 then Some Cqo
    else if op == 0xc3 then Some Ret
    else if op == 0xe8 then Some (Call (i32_at b 1))
    else if op == 0xe9 then Some (Jmp (i32_at b 1))
    else if op == 0xf4 then Some Hlt
    else guess_operand small x op b

-- Behind the prefix, where small says that there was one.
abbrev pub guess_behind : Bool → List ℕ → Option Inst
guess_behind small b =
    if slice_index b 0 / 16 == 4 then guess_opcode small (slice_index b 0 % 16) (slice_index b 1) (drop 1 b) else guess_opcode small 0 (slice_index b 0) b

abbrev pub guess : List ℕ → Option Inst
guess b = if slice_index b 0 == 0x66 then guess_behind true (drop 1 b) else guess_behind false b
