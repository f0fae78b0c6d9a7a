-- Operators at words: the left operand in RAX, the right one in RCX or in the instruction, the result in RAX. Words are
-- zero-extended, which is what an instruction of 32 bits leaves. Operands have been promoted (C11 6.3.1.1), so they have
-- 32 or 64 bits.
use Rattle.std.specs.Prelude.{ℕ, pos, Bool, true, false, nat_lt, if◌then◌else◌, List, [], ◌∷◌, ◌++◌}
use Rattle.fx_x64_forms.specs.Numbers.{width_bytes}
use Rattle.fx_x64_forms.specs.declared.operand.Width.{Width}
use Rattle.fx_x64_forms.specs.declared.operand.Width.TheVariants.{W8, W16, W32, W64}
use Rattle.fx_x64_forms.specs.declared.operand.Reg.TheVariants.{Rax, Rcx, Rdx}
use Rattle.fx_x64_forms.specs.declared.operand.Cond.{Cond}
use Rattle.fx_x64_forms.specs.declared.operand.Cond.TheVariants as cond
use Rattle.fx_x64_forms.specs.declared.inst.AluOp.TheVariants as alu_op
use Rattle.fx_x64_forms.specs.declared.inst.ShiftOp.{ShiftOp}
use Rattle.fx_x64_forms.specs.declared.inst.ShiftOp.TheVariants.{Shl, Shr, Sar}
use Rattle.fx_x64_forms.specs.declared.inst.UnaryOp.TheVariants as unary
use Rattle.fx_x64_forms.specs.declared.inst.Inst.TheVariants as inst
use Rattle.fx_x64_forms.specs.declared.piece.Piece.{Piece}
use Rattle.fx_c_ast.specs.declared.operator.Unop.{Unop}
use Rattle.fx_c_ast.specs.declared.operator.Unop.TheVariants as unop
use Rattle.fx_c_ast.specs.declared.operator.Binop.{Binop}
use Rattle.fx_c_ast.specs.declared.operator.Binop.TheVariants as op
use Rattle.fx_templates_core.specs.Pieces.{plain, set, alu, branch, reload, nothing}
use Rattle.fx_templates_core.specs.Operands.{fetch, combined}
use Rattle.fx_templates_core.specs.declared.operands.Operand.{Operand}

-- ---- comparisons

-- the condition under which a comparison of signed or of unsigned words holds
abbrev pub condition : Bool → Binop → Cond
condition true op.Lt = cond.L
condition true op.Gt = cond.G
condition true op.Le = cond.Le
condition true op.Ge = cond.Ge
condition false op.Lt = cond.B
condition false op.Gt = cond.A
condition false op.Le = cond.Be
condition false op.Ge = cond.Ae
condition signed op.Ne = cond.Ne
condition signed other = cond.E

-- the condition that holds where another one doesn't
abbrev pub opposite : Cond → Cond
opposite cond.O = cond.No
opposite cond.No = cond.O
opposite cond.B = cond.Ae
opposite cond.Ae = cond.B
opposite cond.E = cond.Ne
opposite cond.Ne = cond.E
opposite cond.Be = cond.A
opposite cond.A = cond.Be
opposite cond.S = cond.Ns
opposite cond.Ns = cond.S
opposite cond.L = cond.Ge
opposite cond.Ge = cond.L
opposite cond.Le = cond.G
opposite cond.G = cond.Le

-- 1 where a condition holds, else 0
abbrev pub truth : Cond → List Piece
truth c = plain (inst.Setcc c Rax) ∷ plain (inst.Zero W8 Rax Rax) ∷ []

abbrev pub compared : Cond → Width → (locals k : ℕ) → Operand → List Piece
compared c w locals k right = combined alu_op.Cmp w locals k right ++ truth c

-- ---- arithmetic

abbrev pub multiplied : Width → (locals k : ℕ) → Operand → List Piece
multiplied w locals k right = fetch locals k right ++ plain (inst.Imul w Rax Rcx) ∷ []

-- by CL, whose low five or six bits count
abbrev pub shifted : ShiftOp → Width → (locals k : ℕ) → Operand → List Piece
shifted by w locals k right = fetch locals k right ++ plain (inst.Shift by w Rax) ∷ []

abbrev pub right_shift : Bool → ShiftOp
right_shift true = Sar
right_shift false = Shr

-- An int is sign-extended, so that CQO gives EDX its sign.
abbrev pub extended_dividend : Width → List Piece
extended_dividend W64 = []
extended_dividend W32 = plain (inst.Sign W32 Rax Rax) ∷ []
extended_dividend W16 = []
extended_dividend W8 = []

-- RDX:RAX by RCX. A zero divisor, and a quotient that doesn't fit, is the trap of the instruction.
abbrev pub division : Bool → Width → List Piece
division true w = extended_dividend w ++ plain inst.Cqo ∷ plain (inst.Unary unary.Idiv w Rcx) ∷ []
division false w = set Rdx (pos 0) ∷ plain (inst.Unary unary.Div w Rcx) ∷ []

abbrev pub divided : Bool → Width → (locals k : ℕ) → Operand → List Piece
divided signed w locals k right = fetch locals k right ++ division signed w

abbrev pub remainder : Bool → Width → (locals k : ℕ) → Operand → List Piece
remainder signed w locals k right =
    divided signed w locals k right ++ plain (inst.Mov w Rax Rdx) ∷ []

-- ---- operators

-- `&&` and `||` are jumps, and no operators at two words
abbrev pub binary : Binop → Bool → Width → (locals k : ℕ) → Operand → List Piece
binary op.Add signed w locals k right = combined alu_op.Add w locals k right
binary op.Sub signed w locals k right = combined alu_op.Sub w locals k right
binary op.And signed w locals k right = combined alu_op.And w locals k right
binary op.Xor signed w locals k right = combined alu_op.Xor w locals k right
binary op.Or signed w locals k right = combined alu_op.Or w locals k right
binary op.Mul signed w locals k right = multiplied w locals k right
binary op.Div signed w locals k right = divided signed w locals k right
binary op.Rem signed w locals k right = remainder signed w locals k right
binary op.Shl signed w locals k right = shifted Shl w locals k right
binary op.Shr signed w locals k right = shifted (right_shift signed) w locals k right
binary op.Lt signed w locals k right = compared (condition signed op.Lt) w locals k right
binary op.Gt signed w locals k right = compared (condition signed op.Gt) w locals k right
binary op.Le signed w locals k right = compared (condition signed op.Le) w locals k right
binary op.Ge signed w locals k right = compared (condition signed op.Ge) w locals k right
binary op.Eq signed w locals k right = compared (condition signed op.Eq) w locals k right
binary op.Ne signed w locals k right = compared (condition signed op.Ne) w locals k right
binary op.Land signed w locals k right = nothing
binary op.Lor signed w locals k right = nothing

-- 1 where the operand is 0 or null; `*` and `&` are no operators at words
abbrev pub unary_of : Unop → Width → List Piece
unary_of unop.Neg w = plain (inst.Unary unary.Neg w Rax) ∷ []
unary_of unop.Not w = plain (inst.Unary unary.Not w Rax) ∷ []
unary_of unop.Lnot w = alu alu_op.Test Rax Rax ∷ truth cond.E
unary_of unop.Deref w = nothing
unary_of unop.Addr w = nothing

-- ---- jumps: a load keeps the flags, so both ways have the operands that stay

-- to a piece where the comparison is false
abbrev pub compare_jump : Cond → Width → (locals k : ℕ) → Operand → (to : ℕ) → List Piece
compare_jump c w locals k right to =
    combined alu_op.Cmp w locals k right ++ reload locals k ++ branch (opposite c) to ∷ []

-- to a piece where the operand above k others is 0 or null
abbrev pub jump_zero : (locals k to : ℕ) → List Piece
jump_zero locals k to = alu alu_op.Test Rax Rax ∷ reload locals k ++ branch cond.E to ∷ []

-- ---- conversions

-- RAX cut to a width
abbrev pub cut_to : Width → List Piece
cut_to W64 = []
cut_to W32 = plain (inst.Mov W32 Rax Rax) ∷ []
cut_to W16 = plain (inst.Zero W16 Rax Rax) ∷ []
cut_to W8 = plain (inst.Zero W8 Rax Rax) ∷ []

-- to a wider type: of a signed number the sign goes on
abbrev pub widened : Bool → Width → Width → List Piece
widened true from to = plain (inst.Sign from Rax Rax) ∷ cut_to to
widened false from to = nothing

-- from a type of a width, signed or not, to one of another width
abbrev pub converted : Width → Bool → Width → List Piece
converted from signed to =
    if nat_lt (width_bytes from) (width_bytes to) then widened signed from to
    else if nat_lt (width_bytes to) (width_bytes from) then cut_to to
    else nothing
