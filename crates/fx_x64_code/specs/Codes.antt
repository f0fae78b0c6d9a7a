use Rattle.std.specs.Prelude.{ℕ, List, [], ◌∷◌, slice_index_or}
use Rattle.fx_x64_forms.specs.declared.operand.Width.{Width}
use Rattle.fx_x64_forms.specs.declared.operand.Width.TheVariants.{W8, W16, W32, W64}
use Rattle.fx_x64_forms.specs.declared.operand.Cond.{Cond}
use Rattle.fx_x64_forms.specs.declared.operand.Cond.TheVariants.{O, No, B, Ae, E, Ne, Be, A, S, Ns, L, Ge, Le, G}
use Rattle.fx_x64_forms.specs.declared.inst.AluOp.{AluOp}
use Rattle.fx_x64_forms.specs.declared.inst.AluOp.TheVariants.{Add, Sub, And, Or, Xor, Cmp, Test}
use Rattle.fx_x64_forms.specs.declared.inst.ShiftOp.{ShiftOp}
use Rattle.fx_x64_forms.specs.declared.inst.ShiftOp.TheVariants.{Shl, Shr, Sar}
use Rattle.fx_x64_forms.specs.declared.inst.UnaryOp.{UnaryOp}
use Rattle.fx_x64_forms.specs.declared.inst.UnaryOp.TheVariants.{Not, Neg, Div, Idiv}

-- Opcodes and opcode extensions (SDM volume 2, appendix A, tables A-2, A-3 and A-6).

-- An operation on a register operand by a register: the forms "r/m, r".
abbrev pub alu_opcode : AluOp → ℕ
alu_opcode Add = 0x01
alu_opcode Or = 0x09
alu_opcode And = 0x21
alu_opcode Sub = 0x29
alu_opcode Xor = 0x31
alu_opcode Cmp = 0x39
alu_opcode Test = 0x85

-- An operation on a register operand by a constant: the digit of opcode 81. Test has none there, and is given a digit that no row has.
abbrev pub alu_digit : AluOp → ℕ
alu_digit Add = 0
alu_digit Or = 1
alu_digit Test = 2
alu_digit And = 4
alu_digit Sub = 5
alu_digit Xor = 6
alu_digit Cmp = 7

abbrev pub alu_at : ℕ → AluOp
alu_at n = slice_index_or (Add ∷ Or ∷ Test ∷ Test ∷ And ∷ Sub ∷ Xor ∷ Cmp ∷ []) n Test

-- The digit of opcode D3.
abbrev pub shift_digit : ShiftOp → ℕ
shift_digit Shl = 4
shift_digit Shr = 5
shift_digit Sar = 7

-- The shift of a digit; any shift at the other digits.
abbrev pub shift_at : ℕ → ShiftOp
shift_at n = slice_index_or (Shl ∷ Shl ∷ Shl ∷ Shl ∷ Shl ∷ Shr ∷ Shr ∷ Sar ∷ []) n Sar

-- The digit of opcode F7.
abbrev pub unary_digit : UnaryOp → ℕ
unary_digit Not = 2
unary_digit Neg = 3
unary_digit Div = 6
unary_digit Idiv = 7

-- The operation of a digit; any operation at the other digits.
abbrev pub unary_at : ℕ → UnaryOp
unary_at n = slice_index_or (Not ∷ Not ∷ Not ∷ Neg ∷ Neg ∷ Neg ∷ Div ∷ Idiv ∷ []) n Idiv

-- The condition of a code; any condition at the parity codes, 10 and 11.
abbrev pub condition_at : ℕ → Cond
condition_at n = slice_index_or (O ∷ No ∷ B ∷ Ae ∷ E ∷ Ne ∷ Be ∷ A ∷ S ∷ Ns ∷ Ns ∷ Ns ∷ L ∷ Ge ∷ Le ∷ G ∷ []) n G

-- MOVZX, by the width that is extended; the other widths have no row.
abbrev pub zero_opcode : Width → List ℕ
zero_opcode W8 = 0x0f ∷ 0xb6 ∷ []
zero_opcode W16 = 0x0f ∷ 0xb7 ∷ []
zero_opcode W32 = []
zero_opcode W64 = []

-- MOVSX and MOVSXD, by the width that is extended; W64 has no row.
abbrev pub sign_opcode : Width → List ℕ
sign_opcode W8 = 0x0f ∷ 0xbe ∷ []
sign_opcode W16 = 0x0f ∷ 0xbf ∷ []
sign_opcode W32 = 0x63 ∷ []
sign_opcode W64 = []
