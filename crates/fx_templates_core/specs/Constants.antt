-- Constants. No code but that of key gates holds the bytes 0F 01 EF (WRPKRU, SDM volume 2), so a constant whose bytes
-- hold them is built from parts of 16 bits.
use Rattle.std.specs.Prelude.{ℕ, ◌/◌, ◌%◌, ◌^◌, Bool, false, ◌||◌, ◌&&◌, not, ◌==◌, nat_lt, ℤ, pos}
use Rattle.std.specs.Prelude.{if◌then◌else◌, List, [], ◌∷◌, ◌++◌}
use Rattle.std.specs.Int.{w32, w64, cast_signed, cast_unsigned}
use Rattle.fx_x64_forms.specs.declared.operand.Width.{Width}
use Rattle.fx_x64_forms.specs.declared.operand.Width.TheVariants.{W8, W16, W32, W64}
use Rattle.fx_x64_forms.specs.declared.operand.Reg.{Reg}
use Rattle.fx_x64_forms.specs.declared.operand.Reg.TheVariants.{Rax, Rcx, R10}
use Rattle.fx_x64_forms.specs.declared.inst.AluOp.{AluOp}
use Rattle.fx_x64_forms.specs.declared.inst.AluOp.TheVariants.{Or}
use Rattle.fx_x64_forms.specs.declared.inst.Inst.TheVariants as inst
use Rattle.fx_x64_forms.specs.declared.piece.Piece.{Piece}
use Rattle.fx_templates_core.specs.Pieces.{plain, set, alu_number}

-- whether the lowest three bytes of a number are 0F 01 EF
abbrev pub begins_with_key : ℕ → Bool
begins_with_key n = n % 0x1000000 == 0xef010f

-- whether the eight bytes of a number hold 0F 01 EF
abbrev pub has_key : ℕ → Bool
has_key n =
    begins_with_key n
    || begins_with_key (n / 0x100)
    || begins_with_key (n / 0x10000)
    || begins_with_key (n / 0x1000000)
    || begins_with_key (n / 0x100000000) || begins_with_key (n / 0x10000000000)

-- sixteen bits more, where R10 is 2 ^ 16
abbrev pub next_part : Reg → ℕ → List Piece
next_part dst part = plain (inst.Imul W64 dst R10) ∷ alu_number Or dst (pos part) ∷ []

-- the highest part
abbrev pub first_part : Reg → ℕ → List Piece
first_part dst part = set dst (pos part) ∷ set R10 (pos 0x10000) ∷ []

-- the three below it
abbrev pub next_parts : Reg → ℕ → List Piece
next_parts dst n =
    next_part dst (n / 0x100000000 % 0x10000) ++ next_part dst (n / 0x10000 % 0x10000)
    ++ next_part dst (n % 0x10000)

-- a constant built from four parts; it takes R10
abbrev pub built : Reg → ℕ → List Piece
built dst n = first_part dst (n / 0x1000000000000 % 0x10000) ++ next_parts dst n

abbrev pub constant : Reg → ℕ → List Piece
constant dst n = if has_key n then built dst n else plain (inst.MovImm64 dst n) ∷ []

-- ---- constants of 32 bits, which an instruction of 64 bits sign-extends

abbrev pub immediate : ℕ → ℤ
immediate n = cast_signed w32 (n % 2 ^ 32)

-- whether an instruction of a width has room for a number
abbrev pub is_immediate : Width → ℕ → Bool
is_immediate W64 n = cast_unsigned w64 (immediate n) == n && not (has_key n)
is_immediate W32 n = nat_lt n (2 ^ 32) && not (has_key n)
is_immediate W16 n = false
is_immediate W8 n = false

-- RAX and a number; where there is no room for it, it goes by RCX
abbrev pub with_number : AluOp → Width → ℕ → List Piece
with_number op w n =
    if is_immediate w n then plain (inst.AluImm op w Rax (immediate n)) ∷ []
    else constant Rcx n ++ plain (inst.Alu op w Rax Rcx) ∷ []
