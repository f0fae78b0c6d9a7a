use Rattle.std.proofs.Common.{◌≡◌, ◌<◌, refl, lit<}
use Rattle.fx_x64_forms.specs.Numbers.{register_number, register_at, condition_code}
use Rattle.fx_x64_code.specs.Codes.{condition_at, alu_digit, alu_at, shift_digit, shift_at, unary_digit, unary_at}
use Rattle.fx_x64_forms.specs.declared.operand.Reg.{Reg}
use Rattle.fx_x64_forms.specs.declared.operand.Reg.TheVariants.{Rax, Rcx, Rdx, Rbx, Rsp, Rbp, Rsi, Rdi, R8, R9, R10, R11, R12, R13, R14, R15}
use Rattle.fx_x64_forms.specs.declared.operand.Cond.{Cond}
use Rattle.fx_x64_forms.specs.declared.operand.Cond.TheVariants.{O, No, B, Ae, E, Ne, Be, A, S, Ns, L, Ge, Le, G}
use Rattle.fx_x64_forms.specs.declared.inst.AluOp.{AluOp}
use Rattle.fx_x64_forms.specs.declared.inst.AluOp.TheVariants.{Add, Sub, And, Or, Xor, Cmp, Test}
use Rattle.fx_x64_forms.specs.declared.inst.ShiftOp.{ShiftOp}
use Rattle.fx_x64_forms.specs.declared.inst.ShiftOp.TheVariants.{Shl, Shr, Sar}
use Rattle.fx_x64_forms.specs.declared.inst.UnaryOp.{UnaryOp}
use Rattle.fx_x64_forms.specs.declared.inst.UnaryOp.TheVariants.{Not, Neg, Div, Idiv}

-- Numbers and codes read back what they were made of, and keep within their fields.

pub register_at-register_number : (x : Reg) → register_at (register_number x) ≡ x
register_at-register_number Rax = refl
register_at-register_number Rcx = refl
register_at-register_number Rdx = refl
register_at-register_number Rbx = refl
register_at-register_number Rsp = refl
register_at-register_number Rbp = refl
register_at-register_number Rsi = refl
register_at-register_number Rdi = refl
register_at-register_number R8 = refl
register_at-register_number R9 = refl
register_at-register_number R10 = refl
register_at-register_number R11 = refl
register_at-register_number R12 = refl
register_at-register_number R13 = refl
register_at-register_number R14 = refl
register_at-register_number R15 = refl

pub register_number-below : (x : Reg) → register_number x < 16
register_number-below Rax = lit< tt
register_number-below Rcx = lit< tt
register_number-below Rdx = lit< tt
register_number-below Rbx = lit< tt
register_number-below Rsp = lit< tt
register_number-below Rbp = lit< tt
register_number-below Rsi = lit< tt
register_number-below Rdi = lit< tt
register_number-below R8 = lit< tt
register_number-below R9 = lit< tt
register_number-below R10 = lit< tt
register_number-below R11 = lit< tt
register_number-below R12 = lit< tt
register_number-below R13 = lit< tt
register_number-below R14 = lit< tt
register_number-below R15 = lit< tt

pub condition_at-condition_code : (x : Cond) → condition_at (condition_code x) ≡ x
condition_at-condition_code O = refl
condition_at-condition_code No = refl
condition_at-condition_code B = refl
condition_at-condition_code Ae = refl
condition_at-condition_code E = refl
condition_at-condition_code Ne = refl
condition_at-condition_code Be = refl
condition_at-condition_code A = refl
condition_at-condition_code S = refl
condition_at-condition_code Ns = refl
condition_at-condition_code L = refl
condition_at-condition_code Ge = refl
condition_at-condition_code Le = refl
condition_at-condition_code G = refl

pub condition_code-below : (x : Cond) → condition_code x < 16
condition_code-below O = lit< tt
condition_code-below No = lit< tt
condition_code-below B = lit< tt
condition_code-below Ae = lit< tt
condition_code-below E = lit< tt
condition_code-below Ne = lit< tt
condition_code-below Be = lit< tt
condition_code-below A = lit< tt
condition_code-below S = lit< tt
condition_code-below Ns = lit< tt
condition_code-below L = lit< tt
condition_code-below Ge = lit< tt
condition_code-below Le = lit< tt
condition_code-below G = lit< tt

pub alu_at-alu_digit : (x : AluOp) → alu_at (alu_digit x) ≡ x
alu_at-alu_digit Add = refl
alu_at-alu_digit Sub = refl
alu_at-alu_digit And = refl
alu_at-alu_digit Or = refl
alu_at-alu_digit Xor = refl
alu_at-alu_digit Cmp = refl
alu_at-alu_digit Test = refl

pub alu_digit-below : (x : AluOp) → alu_digit x < 8
alu_digit-below Add = lit< tt
alu_digit-below Sub = lit< tt
alu_digit-below And = lit< tt
alu_digit-below Or = lit< tt
alu_digit-below Xor = lit< tt
alu_digit-below Cmp = lit< tt
alu_digit-below Test = lit< tt

pub shift_at-shift_digit : (x : ShiftOp) → shift_at (shift_digit x) ≡ x
shift_at-shift_digit Shl = refl
shift_at-shift_digit Shr = refl
shift_at-shift_digit Sar = refl

pub shift_digit-below : (x : ShiftOp) → shift_digit x < 8
shift_digit-below Shl = lit< tt
shift_digit-below Shr = lit< tt
shift_digit-below Sar = lit< tt

pub unary_at-unary_digit : (x : UnaryOp) → unary_at (unary_digit x) ≡ x
unary_at-unary_digit Not = refl
unary_at-unary_digit Neg = refl
unary_at-unary_digit Div = refl
unary_at-unary_digit Idiv = refl

pub unary_digit-below : (x : UnaryOp) → unary_digit x < 8
unary_digit-below Not = lit< tt
unary_digit-below Neg = lit< tt
unary_digit-below Div = lit< tt
unary_digit-below Idiv = lit< tt
