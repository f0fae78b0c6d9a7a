use Rattle.std.proofs.Common.{◌≡◌, ◌<◌, ◌+◌, ◌/◌, ◌%◌, ◌^◌, ℕ, ℤ, refl, arith, false, ap, ◌∙◌, List, [], ◌∷◌, ◌++◌, Some, append_assoc, lit<}
use Rattle.std.specs.Prelude.{IsTrue, FitsSigned}
use Rattle.std.specs.Int.{to_le_bytes, w32, w64}
use Rattle.std.proofs.lemmas.Bool.{cond-true, cond-false, ne_eqb, eq-eqb, and_parts, false≢true}
use Rattle.fx_x64_forms.specs.Numbers.{register_number, condition_code}
use Rattle.fx_x64_forms.specs.declared.operand.Reg.{Reg}
use Rattle.fx_x64_forms.specs.declared.operand.Width.{Width}
use Rattle.fx_x64_forms.specs.declared.operand.Width.TheVariants.{W8, W16, W32, W64}
use Rattle.fx_x64_forms.specs.declared.operand.Mem.{Mem}
use Rattle.fx_x64_forms.specs.declared.operand.Cond.{Cond}
use Rattle.fx_x64_forms.specs.declared.inst.ShiftOp.{ShiftOp}
use Rattle.fx_x64_forms.specs.declared.inst.UnaryOp.{UnaryOp}
use Rattle.fx_x64_forms.specs.declared.inst.AluOp.{AluOp}
use Rattle.fx_x64_forms.specs.declared.inst.Inst.{Inst}
use Rattle.fx_x64_forms.specs.declared.inst.Inst.TheVariants.{Mov, Load, LoadZero, LoadSign, Zero, Sign, Store, MovImm, MovImm64, Lea, Alu, AluImm, Imul, Shift, Unary, Cqo, Setcc, Jcc, Jmp, Call, Ret, Push, Pop, Hlt, Nop, Wrpkru, Rdpkru}
use Rattle.fx_x64_code.specs.Codes.{alu_opcode, alu_digit, shift_digit, unary_digit}
use Rattle.fx_x64_code.specs.Spelling.{spelling, IsRow, rex, wide, direct, le32, on_register, needs_rex, is_wide, is_short, is_part, has_constant}
use Rattle.fx_x64_code.specs.Guess.{guess}
use Rattle.fx_x64_code.proofs.Numbers.{register_number-below, condition_at-condition_code, condition_code-below, alu_at-alu_digit, alu_digit-below, shift_at-shift_digit, shift_digit-below, unary_at-unary_digit, unary_digit-below}
use Rattle.fx_x64_code.proofs.Forms.{low_half, front, wide_below, width_again, digit_again, low_again, signed_again, eight, mem_again, memory_absent, register_one, register_two, memory_one, memory_two, direct_field, direct_operand, memory_field, alu_opcode_again, alu_opcode_no_rex, alu_opcode_no_prefix, alu_again, zero_memory, sign_memory, zero_register, sign_register, store_again}

-- What is spelled at the front is guessed, row by row.

mov_again : (w : Width) (dst src : Reg) (rest : List ℕ) → IsTrue (is_wide w) → guess (spelling (Mov w dst src) ++ rest) ≡ Some (Mov w dst src)
mov_again w dst src rest row =
    register_one (wide w) (register_number src) (register_number dst) 0x89 rest (wide_below w) (register_number-below src) (register_number-below dst) (λ e. omega arith) (λ e. omega arith)
    ∙ ap Some (cond-false _ _ _ (memory_absent (register_number src) (register_number dst) 0x89 rest)
    ∙ rw (width_again w (register_number src) (register_number dst) row (register_number-below src) (register_number-below dst), direct_operand (wide w) (register_number src) dst 0x89 rest (wide_below w) (register_number-below src), direct_field (wide w) src (register_number dst) 0x89 rest (wide_below w) (register_number-below dst)))

load_again : (w : Width) (dst : Reg) (mem : Mem) (rest : List ℕ) → IsTrue (is_wide w) → FitsSigned w32 mem.disp → guess (spelling (Load w dst mem) ++ rest) ≡ Some (Load w dst mem)
load_again w dst mem rest row fits =
    memory_one false (wide w) (register_number dst) 0x8b mem rest (wide_below w) (register_number-below dst) (λ e. omega arith) (λ e. omega arith)
    ∙ rw (mem_again (wide w) (register_number dst) 0x8b mem rest (wide_below w) (register_number-below dst) fits, memory_field (wide w) dst 0x8b mem rest (wide_below w), width_again w (register_number dst) (register_number mem.base) row (register_number-below dst) (register_number-below mem.base))

lea_again : (dst : Reg) (mem : Mem) (rest : List ℕ) → FitsSigned w32 mem.disp → guess (spelling (Lea dst mem) ++ rest) ≡ Some (Lea dst mem)
lea_again dst mem rest fits =
    memory_one false 1 (register_number dst) 0x8d mem rest (lit< tt) (register_number-below dst) (λ e. omega arith) (λ e. omega arith)
    ∙ rw (mem_again 1 (register_number dst) 0x8d mem rest (lit< tt) (register_number-below dst) fits, memory_field 1 dst 0x8d mem rest (lit< tt))

imm_again : (dst : Reg) (imm : ℤ) (rest : List ℕ) → FitsSigned w32 imm → guess (spelling (MovImm dst imm) ++ rest) ≡ Some (MovImm dst imm)
imm_again dst imm rest fits =
    ap guess (append_assoc (on_register false 1 (0xc7 ∷ []) 0 (register_number dst)) (le32 imm) rest)
    ∙ register_one 1 0 (register_number dst) 0xc7 (le32 imm ++ rest) (lit< tt) (lit< tt) (register_number-below dst) (λ e. omega arith) (λ e. omega arith)
    ∙ rw (direct_operand 1 0 dst 0xc7 (le32 imm ++ rest) (lit< tt) (lit< tt), signed_again imm rest fits)

imm64_again : (dst : Reg) (imm : ℕ) (rest : List ℕ) → imm < 2 ^ 64 → guess (spelling (MovImm64 dst imm) ++ rest) ≡ Some (MovImm64 dst imm)
imm64_again dst imm rest fits =
    let h = register_number-below dst in
    let op = 0xb8 + register_number dst % 8 in
    ap guess (append_assoc (rex false 1 0 (register_number dst)) (op ∷ to_le_bytes w64 imm) rest)
    ∙ front false 1 0 (register_number dst) op (to_le_bytes w64 imm ++ rest) (lit< tt) (lit< tt) h (λ e. omega arith) (λ e. omega arith)
    ∙ cond-false _ _ _ (ne_eqb (op / 8) 10 (λ e. omega arith))
    ∙ cond-false _ _ _ (ne_eqb (op / 8) 11 (λ e. omega arith))
    ∙ cond-true _ _ _ (eq-eqb (op / 8) 23 (omega arith))
    ∙ rw (eight imm rest fits, low_again 1 0xb8 dst (lit< tt) refl)

alu_row_again : (op : AluOp) (w : Width) (dst src : Reg) (rest : List ℕ) → IsTrue (is_wide w) → guess (spelling (Alu op w dst src) ++ rest) ≡ Some (Alu op w dst src)
alu_row_again op w dst src rest row =
    let s = register_number src in
    let d = register_number dst in
    register_one (wide w) s d (alu_opcode op) rest (wide_below w) (register_number-below src) (register_number-below dst) (alu_opcode_no_rex op) (alu_opcode_no_prefix op)
    ∙ alu_opcode_again op (low_half (wide w) s d) (alu_opcode op ∷ direct s d ∷ rest)
    ∙ ap Some (alu_again op w dst src (alu_opcode op ∷ direct s d ∷ rest) (low_half (wide w) s d) (width_again w s d row (register_number-below src) (register_number-below dst)) (direct_operand (wide w) s dst (alu_opcode op) rest (wide_below w) (register_number-below src)) (direct_field (wide w) src d (alu_opcode op) rest (wide_below w) (register_number-below dst)))

alu_imm_again : (op : AluOp) (w : Width) (dst : Reg) (imm : ℤ) (rest : List ℕ) → IsTrue (is_wide w) → FitsSigned w32 imm → guess (spelling (AluImm op w dst imm) ++ rest) ≡ Some (AluImm op w dst imm)
alu_imm_again op w dst imm rest row fits =
    let d = alu_digit op in
    let k = alu_digit-below op in
    let k2 : d < 16 = omega arith in
    ap guess (append_assoc (on_register false (wide w) (0x81 ∷ []) d (register_number dst)) (le32 imm) rest)
    ∙ register_one (wide w) d (register_number dst) 0x81 (le32 imm ++ rest) (wide_below w) k2 (register_number-below dst) (λ e. omega arith) (λ e. omega arith)
    ∙ rw (width_again w d (register_number dst) row k2 (register_number-below dst), direct_operand (wide w) d dst 0x81 (le32 imm ++ rest) (wide_below w) k2, signed_again imm rest fits, digit_again d (register_number dst) 0x81 (le32 imm ++ rest) k, alu_at-alu_digit op)

imul_again : (w : Width) (dst src : Reg) (rest : List ℕ) → IsTrue (is_wide w) → guess (spelling (Imul w dst src) ++ rest) ≡ Some (Imul w dst src)
imul_again w dst src rest row =
    register_two false (wide w) (register_number dst) (register_number src) 0xaf rest (wide_below w) (register_number-below dst) (register_number-below src)
    ∙ rw (width_again w (register_number dst) (register_number src) row (register_number-below dst) (register_number-below src), direct_operand (wide w) (register_number dst) src 0xaf rest (wide_below w) (register_number-below dst), direct_field (wide w) dst (register_number src) 0xaf rest (wide_below w) (register_number-below src))

shift_again : (op : ShiftOp) (w : Width) (dst : Reg) (rest : List ℕ) → IsTrue (is_wide w) → guess (spelling (Shift op w dst) ++ rest) ≡ Some (Shift op w dst)
shift_again op w dst rest row =
    let d = shift_digit op in
    let k = shift_digit-below op in
    let k2 : d < 16 = omega arith in
    register_one (wide w) d (register_number dst) 0xd3 rest (wide_below w) k2 (register_number-below dst) (λ e. omega arith) (λ e. omega arith)
    ∙ rw (width_again w d (register_number dst) row k2 (register_number-below dst), direct_operand (wide w) d dst 0xd3 rest (wide_below w) k2, digit_again d (register_number dst) 0xd3 rest k, shift_at-shift_digit op)

unary_again : (op : UnaryOp) (w : Width) (reg : Reg) (rest : List ℕ) → IsTrue (is_wide w) → guess (spelling (Unary op w reg) ++ rest) ≡ Some (Unary op w reg)
unary_again op w reg rest row =
    let d = unary_digit op in
    let k = unary_digit-below op in
    let k2 : d < 16 = omega arith in
    register_one (wide w) d (register_number reg) 0xf7 rest (wide_below w) k2 (register_number-below reg) (λ e. omega arith) (λ e. omega arith)
    ∙ rw (width_again w d (register_number reg) row k2 (register_number-below reg), direct_operand (wide w) d reg 0xf7 rest (wide_below w) k2, digit_again d (register_number reg) 0xf7 rest k, unary_at-unary_digit op)

setcc_again : (cc : Cond) (dst : Reg) (rest : List ℕ) → guess (spelling (Setcc cc dst) ++ rest) ≡ Some (Setcc cc dst)
setcc_again cc dst rest =
    let h = condition_code-below cc in
    let op = 0x90 + condition_code cc in
    let code : op % 16 ≡ condition_code cc = omega arith in
    register_two (needs_rex W8 (register_number dst)) 0 0 (register_number dst) op rest (lit< tt) (lit< tt) (register_number-below dst)
    ∙ cond-false _ _ _ (ne_eqb (op / 16) 8 (λ e. omega arith))
    ∙ cond-true _ _ _ (eq-eqb (op / 16) 9 (omega arith))
    ∙ rw (direct_operand 0 0 dst op rest (lit< tt) (lit< tt), code, condition_at-condition_code cc)

jcc_again : (cc : Cond) (rel : ℤ) (rest : List ℕ) → FitsSigned w32 rel → guess (spelling (Jcc cc rel) ++ rest) ≡ Some (Jcc cc rel)
jcc_again cc rel rest fits =
    let h = condition_code-below cc in
    let op = 0x80 + condition_code cc in
    let code : op % 16 ≡ condition_code cc = omega arith in
    cond-true _ _ _ (eq-eqb (op / 16) 8 (omega arith))
    ∙ rw (signed_again rel rest fits, code, condition_at-condition_code cc)

push_again : (reg : Reg) (rest : List ℕ) → guess (spelling (Push reg) ++ rest) ≡ Some (Push reg)
push_again reg rest =
    let h = register_number-below reg in
    let op = 0x50 + register_number reg % 8 in
    ap guess (append_assoc (rex false 0 0 (register_number reg)) (op ∷ []) rest)
    ∙ front false 0 0 (register_number reg) op rest (lit< tt) (lit< tt) h (λ e. omega arith) (λ e. omega arith)
    ∙ cond-true _ _ _ (eq-eqb (op / 8) 10 (omega arith))
    ∙ rw (low_again 0 0x50 reg (lit< tt) refl)

pop_again : (reg : Reg) (rest : List ℕ) → guess (spelling (Pop reg) ++ rest) ≡ Some (Pop reg)
pop_again reg rest =
    let h = register_number-below reg in
    let op = 0x58 + register_number reg % 8 in
    ap guess (append_assoc (rex false 0 0 (register_number reg)) (op ∷ []) rest)
    ∙ front false 0 0 (register_number reg) op rest (lit< tt) (lit< tt) h (λ e. omega arith) (λ e. omega arith)
    ∙ cond-false _ _ _ (ne_eqb (op / 8) 10 (λ e. omega arith))
    ∙ cond-true _ _ _ (eq-eqb (op / 8) 11 (omega arith))
    ∙ rw (low_again 0 0x58 reg (lit< tt) refl)

load_zero_again : (from : Width) (dst : Reg) (mem : Mem) (rest : List ℕ) → IsTrue (is_short from) → FitsSigned w32 mem.disp → guess (spelling (LoadZero from dst mem) ++ rest) ≡ Some (LoadZero from dst mem)
load_zero_again W8 dst mem rest row fits = memory_two 0 (register_number dst) 0xb6 mem rest (lit< tt) (register_number-below dst) ∙ ap Some (zero_memory W8 dst 0xb6 mem rest fits)
load_zero_again W16 dst mem rest row fits = memory_two 0 (register_number dst) 0xb7 mem rest (lit< tt) (register_number-below dst) ∙ ap Some (zero_memory W16 dst 0xb7 mem rest fits)
load_zero_again W32 dst mem rest row fits = absurd (false≢true row)
load_zero_again W64 dst mem rest row fits = absurd (false≢true row)

load_sign_again : (from : Width) (dst : Reg) (mem : Mem) (rest : List ℕ) → IsTrue (is_part from) → FitsSigned w32 mem.disp → guess (spelling (LoadSign from dst mem) ++ rest) ≡ Some (LoadSign from dst mem)
load_sign_again W8 dst mem rest row fits = memory_two 1 (register_number dst) 0xbe mem rest (lit< tt) (register_number-below dst) ∙ ap Some (sign_memory W8 dst 0xbe mem rest fits)
load_sign_again W16 dst mem rest row fits = memory_two 1 (register_number dst) 0xbf mem rest (lit< tt) (register_number-below dst) ∙ ap Some (sign_memory W16 dst 0xbf mem rest fits)
load_sign_again W32 dst mem rest row fits = memory_one false 1 (register_number dst) 0x63 mem rest (lit< tt) (register_number-below dst) (λ e. omega arith) (λ e. omega arith) ∙ ap Some (sign_memory W32 dst 0x63 mem rest fits)
load_sign_again W64 dst mem rest row fits = absurd (false≢true row)

zero_again : (from : Width) (dst src : Reg) (rest : List ℕ) → IsTrue (is_short from) → guess (spelling (Zero from dst src) ++ rest) ≡ Some (Zero from dst src)
zero_again W8 dst src rest row = register_two (needs_rex W8 (register_number src)) 0 (register_number dst) (register_number src) 0xb6 rest (lit< tt) (register_number-below dst) (register_number-below src) ∙ ap Some (zero_register W8 dst src 0xb6 rest)
zero_again W16 dst src rest row = register_two false 0 (register_number dst) (register_number src) 0xb7 rest (lit< tt) (register_number-below dst) (register_number-below src) ∙ ap Some (zero_register W16 dst src 0xb7 rest)
zero_again W32 dst src rest row = absurd (false≢true row)
zero_again W64 dst src rest row = absurd (false≢true row)

sign_again : (from : Width) (dst src : Reg) (rest : List ℕ) → IsTrue (is_part from) → guess (spelling (Sign from dst src) ++ rest) ≡ Some (Sign from dst src)
sign_again W8 dst src rest row = register_two false 1 (register_number dst) (register_number src) 0xbe rest (lit< tt) (register_number-below dst) (register_number-below src) ∙ ap Some (sign_register W8 dst src 0xbe rest)
sign_again W16 dst src rest row = register_two false 1 (register_number dst) (register_number src) 0xbf rest (lit< tt) (register_number-below dst) (register_number-below src) ∙ ap Some (sign_register W16 dst src 0xbf rest)
sign_again W32 dst src rest row = register_one 1 (register_number dst) (register_number src) 0x63 rest (lit< tt) (register_number-below dst) (register_number-below src) (λ e. omega arith) (λ e. omega arith) ∙ ap Some (sign_register W32 dst src 0x63 rest)
sign_again W64 dst src rest row = absurd (false≢true row)

pub guess_again : (i : Inst) (rest : List ℕ) → IsRow i → guess (spelling i ++ rest) ≡ Some i
guess_again (Mov w dst src) rest row = mov_again w dst src rest row.0
guess_again (Load w dst mem) rest row = load_again w dst mem rest row.0 row.1
guess_again (LoadZero from dst mem) rest row = load_zero_again from dst mem rest row.0 row.1
guess_again (LoadSign from dst mem) rest row = load_sign_again from dst mem rest row.0 row.1
guess_again (Zero from dst src) rest row = zero_again from dst src rest row.0
guess_again (Sign from dst src) rest row = sign_again from dst src rest row.0
guess_again (Store w mem src) rest row = store_again w src mem rest row.1
guess_again (MovImm dst imm) rest row = imm_again dst imm rest row.1
guess_again (MovImm64 dst imm) rest row = imm64_again dst imm rest row.1
guess_again (Lea dst mem) rest row = lea_again dst mem rest row.1
guess_again (Alu op w dst src) rest row = alu_row_again op w dst src rest row.0
guess_again (AluImm op w dst imm) rest row = alu_imm_again op w dst imm rest ((and_parts (is_wide w) (has_constant op) row.0).0) row.1
guess_again (Imul w dst src) rest row = imul_again w dst src rest row.0
guess_again (Shift op w dst) rest row = shift_again op w dst rest row.0
guess_again (Unary op w reg) rest row = unary_again op w reg rest row.0
guess_again Cqo rest row = refl
guess_again (Setcc cc dst) rest row = setcc_again cc dst rest
guess_again (Jcc cc rel) rest row = jcc_again cc rel rest row.1
guess_again (Jmp rel) rest row = rw (signed_again rel rest row.1)
guess_again (Call rel) rest row = rw (signed_again rel rest row.1)
guess_again Ret rest row = refl
guess_again (Push reg) rest row = push_again reg rest
guess_again (Pop reg) rest row = pop_again reg rest
guess_again Hlt rest row = refl
guess_again Nop rest row = refl
guess_again Wrpkru rest row = refl
guess_again Rdpkru rest row = refl
