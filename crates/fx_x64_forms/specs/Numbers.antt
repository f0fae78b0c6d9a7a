use Rattle.std.specs.Prelude.{ℕ, [], ◌∷◌, slice_index_or}
use Rattle.fx_x64_forms.specs.declared.operand.Width.{Width}
use Rattle.fx_x64_forms.specs.declared.operand.Width.TheVariants.{W8, W16, W32, W64}
use Rattle.fx_x64_forms.specs.declared.operand.Reg.{Reg}
use Rattle.fx_x64_forms.specs.declared.operand.Reg.TheVariants.{Rax, Rcx, Rdx, Rbx, Rsp, Rbp, Rsi, Rdi, R8, R9, R10, R11, R12, R13, R14, R15}
use Rattle.fx_x64_forms.specs.declared.operand.Cond.{Cond}
use Rattle.fx_x64_forms.specs.declared.operand.Cond.TheVariants.{O, No, B, Ae, E, Ne, Be, A, S, Ns, L, Ge, Le, G}

-- The bytes of an operand.
abbrev pub width_bytes : Width → ℕ
width_bytes W8 = 1
width_bytes W16 = 2
width_bytes W32 = 4
width_bytes W64 = 8

-- Register numbers (SDM volume 2, table 3-1; numbers 8 to 15 by REX, section 2.2.1.2).
abbrev pub register_number : Reg → ℕ
register_number Rax = 0
register_number Rcx = 1
register_number Rdx = 2
register_number Rbx = 3
register_number Rsp = 4
register_number Rbp = 5
register_number Rsi = 6
register_number Rdi = 7
register_number R8 = 8
register_number R9 = 9
register_number R10 = 10
register_number R11 = 11
register_number R12 = 12
register_number R13 = 13
register_number R14 = 14
register_number R15 = 15

-- The register of a number below 16.
abbrev pub register_at : ℕ → Reg
register_at n = slice_index_or (Rax ∷ Rcx ∷ Rdx ∷ Rbx ∷ Rsp ∷ Rbp ∷ Rsi ∷ Rdi ∷ R8 ∷ R9 ∷ R10 ∷ R11 ∷ R12 ∷ R13 ∷ R14 ∷ R15 ∷ []) n R15

-- Condition codes (SDM volume 1, appendix B).
abbrev pub condition_code : Cond → ℕ
condition_code O = 0
condition_code No = 1
condition_code B = 2
condition_code Ae = 3
condition_code E = 4
condition_code Ne = 5
condition_code Be = 6
condition_code A = 7
condition_code S = 8
condition_code Ns = 9
condition_code L = 12
condition_code Ge = 13
condition_code Le = 14
condition_code G = 15
