-- PKRU changes by WRPKRU alone.
use Rattle.std.proofs.Common.{◌≡◌, ℕ, ◌⊎◌, inl, inr, Bool, true, false, Option, None, Some, refl, ap, ◌∙◌}
use Rattle.std.specs.Prelude.{if◌then◌else◌}
use Rattle.std.specs.Int.{w64, cast_unsigned}
use Rattle.fx_x64_forms.specs.declared.operand.Width.{Width}
use Rattle.fx_x64_forms.specs.declared.operand.Width.TheVariants.{W8, W16, W32, W64}
use Rattle.fx_x64_forms.specs.declared.operand.Reg.{Reg}
use Rattle.fx_x64_forms.specs.declared.inst.AluOp.{AluOp}
use Rattle.fx_x64_forms.specs.declared.inst.AluOp.TheVariants.{Add, Sub, And, Or, Xor, Cmp, Test}
use Rattle.fx_x64_forms.specs.declared.inst.ShiftOp.{ShiftOp}
use Rattle.fx_x64_forms.specs.declared.inst.UnaryOp.{UnaryOp}
use Rattle.fx_x64_forms.specs.declared.inst.UnaryOp.TheVariants.{Not, Neg, Div, Idiv}
use Rattle.fx_x64_forms.specs.declared.inst.Inst.{Inst}
use Rattle.fx_x64_forms.specs.declared.inst.Inst.TheVariants.{Mov, Load, LoadZero, LoadSign, Zero, Sign, Store, MovImm, MovImm64, Lea, Alu, AluImm, Imul, Shift, Unary, Cqo, Setcc, Jcc, Jmp, Call, Ret, Push, Pop, Hlt, Nop, Wrpkru, Rdpkru}
use Rattle.fx_word_ops.specs.declared.flags.Flags.{Flags}
use Rattle.fx_cpu.specs.Registers.{reg, past, plus, quotient, holds}
use Rattle.fx_cpu.specs.Does.{finish, alu, kept, shift_finish, unary_finish, with_quotient}
use Rattle.fx_cpu.specs.declared.registers.Regs.{Regs}
use Rattle.fx_machine_model.specs.declared.fetched.Fetched.TheVariants.{Found}
use Rattle.fx_machine_model.specs.Touches.{found_at}
use Rattle.fx_machine_law.specs.Pkru.{PkruChangesByKeys}
use Rattle.fx_machine_model.proofs.Ways.{Made, Ways, goes}

kept_pkru : (op : AluOp) (r : Regs) (dst : Reg) (x : ℕ × Flags) → (kept op r dst x).pkru ≡ r.pkru
kept_pkru Add r dst x = refl
kept_pkru Sub r dst x = refl
kept_pkru And r dst x = refl
kept_pkru Or r dst x = refl
kept_pkru Xor r dst x = refl
kept_pkru Cmp r dst x = refl
kept_pkru Test r dst x = refl

shift_pkru : (op : ShiftOp) (w : Width) (dst : Reg) (r : Regs) → (shift_finish op w dst r).pkru ≡ r.pkru
shift_pkru op W8 dst r = refl
shift_pkru op W16 dst r = refl
shift_pkru op W32 dst r = refl
shift_pkru op W64 dst r = refl

quotient_pkru : (x : Option (ℕ × ℕ)) (r : Regs) → (with_quotient x r).pkru ≡ r.pkru
quotient_pkru None r = refl
quotient_pkru (Some x) r = refl

unary_pkru : (op : UnaryOp) (w : Width) (q : Reg) (r : Regs) → (unary_finish op w q r).pkru ≡ r.pkru
unary_pkru Not w q r = refl
unary_pkru Neg w q r = refl
unary_pkru Div w q r = quotient_pkru (quotient false w q r) r
unary_pkru Idiv w q r = quotient_pkru (quotient true w q r) r

jump_pkru : (t : Bool) (r : Regs) (to : ℕ) → (let x : Regs = if t then record r { rip = to } else r in x.pkru) ≡ r.pkru
jump_pkru true r to = refl
jump_pkru false r to = refl

-- An instruction keeps PKRU, or it is WRPKRU.
pub pkru_kept : (i : Inst) (s : Regs) (v : ℕ) → ((finish i s v).pkru ≡ s.pkru) ⊎ (i ≡ Wrpkru)
pkru_kept (Mov w dst src) s v = inl refl
pkru_kept (Load w dst mem) s v = inl refl
pkru_kept (LoadZero from dst mem) s v = inl refl
pkru_kept (LoadSign from dst mem) s v = inl refl
pkru_kept (Zero from dst src) s v = inl refl
pkru_kept (Sign from dst src) s v = inl refl
pkru_kept (Store w mem src) s v = inl refl
pkru_kept (MovImm dst imm) s v = inl refl
pkru_kept (MovImm64 dst imm) s v = inl refl
pkru_kept (Lea dst mem) s v = inl refl
pkru_kept (Alu op w dst src) s v = inl (kept_pkru op s dst (alu op w (reg s dst) (reg s src)))
pkru_kept (AluImm op w dst imm) s v = inl (kept_pkru op s dst (alu op w (reg s dst) (cast_unsigned w64 imm)))
pkru_kept (Imul w dst src) s v = inl refl
pkru_kept (Shift op w dst) s v = inl (shift_pkru op w dst s)
pkru_kept (Unary op w by) s v = inl (unary_pkru op w by s)
pkru_kept Cqo s v = inl refl
pkru_kept (Setcc c dst) s v = inl refl
pkru_kept (Jcc c rel) s v = inl (jump_pkru (holds c s.flags) s (plus s.rip rel))
pkru_kept (Jmp rel) s v = inl refl
pkru_kept (Call rel) s v = inl refl
pkru_kept Ret s v = inl refl
pkru_kept (Push x) s v = inl refl
pkru_kept (Pop x) s v = inl refl
pkru_kept Hlt s v = inl refl
pkru_kept Nop s v = inl refl
pkru_kept Wrpkru s v = inr refl
pkru_kept Rdpkru s v = inl refl

pub pkru_changes_by_keys : PkruChangesByKeys
pkru_changes_by_keys image vcpu r q w y o e = goes image vcpu r w P ways o q y e
  where
    P : Made
    P o q y = (q.pkru ≡ r.pkru) ⊎ ((len : ℕ) × (found_at image vcpu r w ≡ Found Wrpkru len))

    by : (i : Inst) (len v : ℕ) → found_at image vcpu r w ≡ Found i len → ((finish i (past r len) v).pkru ≡ r.pkru) ⊎ ((n : ℕ) × (found_at image vcpu r w ≡ Found Wrpkru n))
    by i len v found = elim (pkru_kept i (past r len) v) [
      | inl kept ↦ inl kept
      | inr is ↦ inr (len, found ∙ ap (λ j. Found j len) is)
    ]

    ways : Ways image vcpu r w P
    ways = record {
      quiet = λ i len found n. by i len 0 found;
      loads = λ i len found width a n free dev. by i len _ found;
      asks = λ i len found width a n free device dev answer rest is. by i len answer found;
      waits = λ i len found width a n free device dev. inl refl;
      stores = λ i len found width a v n free dev. by i len 0 found;
      tells = λ i len found width a v n free device dev. by i len 0 found;
    }
