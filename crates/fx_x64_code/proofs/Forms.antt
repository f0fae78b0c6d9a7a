use Rattle.std.proofs.Common.{◌≡◌, ◌≢◌, ◌<◌, ◌+◌, ◌*◌, ◌/◌, ◌%◌, ◌^◌, ℕ, ℤ, refl, arith, Bool, true, false, ◌==◌, ap, sym, ◌∙◌, List, [], ◌∷◌, ◌++◌, Some, append_assoc, lit<, lt-ltb, le-ltb}
use Rattle.std.specs.Prelude.{◌&&◌, not, cond, IsTrue, FitsSigned}
use Rattle.std.specs.Int.{to_le_bytes, w32, w64, cast_unsigned, cast_signed}
use Rattle.std.proofs.lemmas.Bool.{cond-true, cond-false, eqb-true, ne_eqb, eq-eqb, and_parts, false≢true}
use Rattle.std.proofs.lemmas.Int.{ints, to_z-of_z}
use Rattle.fx_x64_forms.specs.Numbers.{register_number, register_at}
use Rattle.fx_x64_forms.specs.declared.operand.Reg.{Reg}
use Rattle.fx_x64_forms.specs.declared.operand.Width.{Width}
use Rattle.fx_x64_forms.specs.declared.operand.Width.TheVariants.{W8, W16, W32, W64}
use Rattle.fx_x64_forms.specs.declared.operand.Mem.{Mem}
use Rattle.fx_x64_forms.specs.declared.inst.AluOp.{AluOp}
use Rattle.fx_x64_forms.specs.declared.inst.AluOp.TheVariants.{Add, Sub, And, Or, Xor, Cmp, Test}
use Rattle.fx_x64_forms.specs.declared.inst.Inst.TheVariants.{LoadZero, LoadSign, Zero, Sign, Store, Alu}
use Rattle.fx_x64_code.specs.Codes.{alu_opcode}
use Rattle.fx_x64_code.specs.Spelling.{rex, wide, direct, based, sib, le32, memory, on_register, on_memory, needs_rex, is_wide, store_spelling}
use Rattle.fx_x64_code.specs.Guess.{guess, guess_behind, guess_opcode, guess_two, u32_at, i32_at, width_of, digit, field, operand, is_memory, mem_at, opcode_register, alu_of, zero_of, sign_of, mov_of}
use Rattle.fx_x64_code.proofs.Numbers.{register_at-register_number, register_number-below}

-- What is spelled at the front is guessed, whatever follows it.

-- ---- prefix and REX

-- the low half of REX
abbrev pub low_half : ℕ → ℕ → ℕ → ℕ
low_half w f o = 8 * w + 4 * (f / 8) + o / 8

pub rex_there : (small : Bool) (x op : ℕ) (t : List ℕ) → x / 16 ≡ 4 → guess_behind small (x ∷ op ∷ t) ≡ guess_opcode small (x % 16) op (op ∷ t)
rex_there small x op t e = cond-true _ _ _ (eq-eqb (x / 16) 4 e)

pub rex_absent : (small : Bool) (op : ℕ) (t : List ℕ) → op / 16 ≢ 4 → guess_behind small (op ∷ t) ≡ guess_opcode small 0 op (op ∷ t)
rex_absent small op t e = cond-false _ _ _ (ne_eqb (op / 16) 4 e)

pub rex_by : (c small : Bool) (w f o op : ℕ) (t : List ℕ) → w < 2 → f < 16 → o < 16 → op / 16 ≢ 4 → (c ≡ true → w + (f / 8 + o / 8) ≡ 0) →
    guess_behind small (cond c [] ((64 + 8 * w + 4 * (f / 8) + o / 8) ∷ []) ++ (op ∷ t)) ≡ guess_opcode small (low_half w f o) op (op ∷ t)
rex_by true small w f o op t p q s n e =
    let z = e refl in
    let l : 0 ≡ low_half w f o = omega arith in
    rex_absent small op t n ∙ ap (λ x. guess_opcode small x op (op ∷ t)) l
rex_by false small w f o op t p q s n e =
    let x = 64 + 8 * w + 4 * (f / 8) + o / 8 in
    let h : x / 16 ≡ 4 = omega arith in
    let l : x % 16 ≡ low_half w f o = omega arith in
    rex_there small x op t h ∙ ap (λ y. guess_opcode small y op (op ∷ t)) l

pub rex_gone : (small needed : Bool) (w f o op : ℕ) (t : List ℕ) → w < 2 → f < 16 → o < 16 → op / 16 ≢ 4 → guess_behind small (rex needed w f o ++ (op ∷ t)) ≡ guess_opcode small (low_half w f o) op (op ∷ t)
rex_gone small needed w f o op t p q s n = rex_by ((w + (f / 8 + o / 8) == 0) && not needed) small w f o op t p q s n (λ e. eqb-true (w + (f / 8 + o / 8)) 0 ((and_parts (w + (f / 8 + o / 8) == 0) (not needed) e).0))

pub not_small : (c : Bool) (x op : ℕ) (t : List ℕ) → x ≢ 0x66 → op ≢ 0x66 → guess (cond c [] (x ∷ []) ++ (op ∷ t)) ≡ guess_behind false (cond c [] (x ∷ []) ++ (op ∷ t))
not_small true x op t p q = cond-false _ _ _ (ne_eqb op 0x66 q)
not_small false x op t p q = cond-false _ _ _ (ne_eqb x 0x66 p)

-- a spelling with no prefix
pub front : (needed : Bool) (w f o op : ℕ) (t : List ℕ) → w < 2 → f < 16 → o < 16 → op / 16 ≢ 4 → op ≢ 0x66 → guess (rex needed w f o ++ (op ∷ t)) ≡ guess_opcode false (low_half w f o) op (op ∷ t)
front needed w f o op t p q s n m =
    let x = 64 + 8 * w + 4 * (f / 8) + o / 8 in
    let h : x ≢ 0x66 = λ e. omega arith in
    not_small ((w + (f / 8 + o / 8) == 0) && not needed) x op t h m ∙ rex_gone false needed w f o op t p q s n

-- ---- fields

pub wide_below : (w : Width) → wide w < 2
wide_below W8 = lit< tt
wide_below W16 = lit< tt
wide_below W32 = lit< tt
wide_below W64 = lit< tt

pub width_again : (w : Width) (f o : ℕ) → IsTrue (is_wide w) → f < 16 → o < 16 → width_of (low_half (wide w) f o) ≡ w
width_again W64 f o i q s = cond-true _ _ _ (eq-eqb (low_half 1 f o / 8 % 2) 1 (omega arith))
width_again W32 f o i q s = cond-false _ _ _ (ne_eqb (low_half 0 f o / 8 % 2) 1 (λ e. omega arith))
width_again W16 f o i q s = absurd (false≢true i)
width_again W8 f o i q s = absurd (false≢true i)

-- the register of the r/m field, and that of the reg field
pub operand_again : (w f : ℕ) (r : Reg) (m op : ℕ) (t : List ℕ) → w < 2 → f < 16 → m % 8 ≡ register_number r % 8 → register_at (operand (low_half w f (register_number r)) (op ∷ m ∷ t)) ≡ r
operand_again w f r m op t p q e = let s = register_number-below r in ap register_at (omega arith) ∙ register_at-register_number r

pub field_again : (w o : ℕ) (r : Reg) (m op : ℕ) (t : List ℕ) → w < 2 → o < 16 → m / 8 % 8 ≡ register_number r % 8 → register_at (field (low_half w (register_number r) o) (op ∷ m ∷ t)) ≡ r
field_again w o r m op t p q e = let s = register_number-below r in ap register_at (omega arith) ∙ register_at-register_number r

pub digit_again : (d o op : ℕ) (t : List ℕ) → d < 8 → digit (op ∷ direct d o ∷ t) ≡ d
digit_again d o op t p = omega arith

pub low_again : (w op : ℕ) (r : Reg) → w < 2 → op % 8 ≡ 0 → register_at (opcode_register (low_half w 0 (register_number r)) (op + register_number r % 8)) ≡ r
low_again w op r p e = let s = register_number-below r in ap register_at (omega arith) ∙ register_at-register_number r

-- ---- numbers of four and eight bytes

pub four : (n : ℕ) (t : List ℕ) → n < 2 ^ 32 → u32_at (to_le_bytes w32 n ++ t) 0 ≡ n
four n t p = omega arith

pub signed_again : (z : ℤ) (t : List ℕ) → FitsSigned w32 z → i32_at (le32 z ++ t) 0 ≡ z
signed_again z t f = ap (cast_signed w32) (four (cast_unsigned w32 z) t (omega (arith, ints))) ∙ to_z-of_z w32 z f

pub eight : (n : ℕ) (t : List ℕ) → n < 2 ^ 64 → u32_at (to_le_bytes w64 n ++ t) 0 + 2 ^ 32 * u32_at (to_le_bytes w64 n ++ t) 4 ≡ n
eight n t p = omega arith

-- ---- a memory operand

pub made : (b c : Reg) (d e : ℤ) → b ≡ c → d ≡ e → ◌≡◌ {A = Mem} (record { base = b; disp = d }) (record { base = c; disp = e })
made b c d e p q = rw (p, q)

pub mem_by : (c : Bool) (x op m : ℕ) (a : Mem) (t : List ℕ) → FitsSigned w32 a.disp → c ≡ (m % 8 == 4) → m % 8 + 8 * (x % 2) ≡ register_number a.base → mem_at x (op ∷ m ∷ (cond c (36 ∷ []) [] ++ (le32 a.disp ++ t))) ≡ a
mem_by true x op m a t f e b = made _ _ _ _ (ap register_at b ∙ register_at-register_number a.base) (cond-true _ _ _ (sym e) ∙ signed_again a.disp t f)
mem_by false x op m a t f e b = made _ _ _ _ (ap register_at b ∙ register_at-register_number a.base) (cond-false _ _ _ (sym e) ∙ signed_again a.disp t f)

-- what stands behind ModRM
abbrev pub tail : Mem → List ℕ → List ℕ
tail a rest = sib (register_number a.base) ++ (le32 a.disp ++ rest)

abbrev pub operand_bytes : ℕ → ℕ → Mem → List ℕ → List ℕ
operand_bytes op f a rest = op ∷ based f (register_number a.base) ∷ tail a rest

pub mem_again : (w f op : ℕ) (a : Mem) (rest : List ℕ) → w < 2 → f < 16 → FitsSigned w32 a.disp → mem_at (low_half w f (register_number a.base)) (operand_bytes op f a rest) ≡ a
mem_again w f op a rest p q r =
    let s = register_number-below a.base in
    let same : register_number a.base % 8 ≡ based f (register_number a.base) % 8 = omega arith in
    mem_by (register_number a.base % 8 == 4) (low_half w f (register_number a.base)) op (based f (register_number a.base)) a rest r (ap (λ k. k == 4) same) (omega arith)

pub memory_first : (f : ℕ) (a : Mem) (rest : List ℕ) → memory f a ++ rest ≡ based f (register_number a.base) ∷ tail a rest
memory_first f a rest = ap (λ u. based f (register_number a.base) ∷ u) (append_assoc (sib (register_number a.base)) (le32 a.disp) rest)

pub memory_there : (f op : ℕ) (a : Mem) (rest : List ℕ) → is_memory (operand_bytes op f a rest) ≡ true
memory_there f op a rest = lt-ltb (based f (register_number a.base)) 192 (omega arith)

pub memory_absent : (f o op : ℕ) (rest : List ℕ) → is_memory (op ∷ direct f o ∷ rest) ≡ false
memory_absent f o op rest = le-ltb (direct f o) 192 (omega arith)

-- ---- forms: one and two bytes of opcode, register and memory operands

pub register_one : (w f o op : ℕ) (rest : List ℕ) → w < 2 → f < 16 → o < 16 → op / 16 ≢ 4 → op ≢ 0x66 → guess (on_register false w (op ∷ []) f o ++ rest) ≡ guess_opcode false (low_half w f o) op (op ∷ direct f o ∷ rest)
register_one w f o op rest p q s n m = ap guess (append_assoc (rex false w f o) (op ∷ direct f o ∷ []) rest) ∙ front false w f o op (direct f o ∷ rest) p q s n m

pub register_two : (needed : Bool) (w f o op : ℕ) (rest : List ℕ) → w < 2 → f < 16 → o < 16 → guess (on_register needed w (0x0f ∷ op ∷ []) f o ++ rest) ≡ guess_two (low_half w f o) op (op ∷ direct f o ∷ rest)
register_two needed w f o op rest p q s = ap guess (append_assoc (rex needed w f o) (0x0f ∷ op ∷ direct f o ∷ []) rest) ∙ front needed w f o 0x0f (op ∷ direct f o ∷ rest) p q s (λ e. omega arith) (λ e. omega arith)

pub memory_one : (needed : Bool) (w f op : ℕ) (a : Mem) (rest : List ℕ) → w < 2 → f < 16 → op / 16 ≢ 4 → op ≢ 0x66 → guess (on_memory needed w (op ∷ []) f a ++ rest) ≡ guess_opcode false (low_half w f (register_number a.base)) op (operand_bytes op f a rest)
memory_one needed w f op a rest p q n m =
    let k = rex needed w f (register_number a.base) in
    ap guess (append_assoc k (op ∷ memory f a) rest ∙ ap (λ u. k ++ (op ∷ u)) (memory_first f a rest))
    ∙ front needed w f (register_number a.base) op (based f (register_number a.base) ∷ tail a rest) p q (register_number-below a.base) n m

pub memory_two : (w f op : ℕ) (a : Mem) (rest : List ℕ) → w < 2 → f < 16 → guess (on_memory false w (0x0f ∷ op ∷ []) f a ++ rest) ≡ guess_two (low_half w f (register_number a.base)) op (operand_bytes op f a rest)
memory_two w f op a rest p q =
    let k = rex false w f (register_number a.base) in
    ap guess (append_assoc k (0x0f ∷ op ∷ memory f a) rest ∙ ap (λ u. k ++ (0x0f ∷ op ∷ u)) (memory_first f a rest))
    ∙ front false w f (register_number a.base) 0x0f (op ∷ based f (register_number a.base) ∷ tail a rest) p q (register_number-below a.base) (λ e. omega arith) (λ e. omega arith)

-- fields in both forms
pub direct_field : (w : ℕ) (r : Reg) (o op : ℕ) (rest : List ℕ) → w < 2 → o < 16 → register_at (field (low_half w (register_number r) o) (op ∷ direct (register_number r) o ∷ rest)) ≡ r
direct_field w r o op rest p q = let s = register_number-below r in field_again w o r (direct (register_number r) o) op rest p q (omega arith)

pub direct_operand : (w f : ℕ) (r : Reg) (op : ℕ) (rest : List ℕ) → w < 2 → f < 16 → register_at (operand (low_half w f (register_number r)) (op ∷ direct f (register_number r) ∷ rest)) ≡ r
direct_operand w f r op rest p q = let s = register_number-below r in operand_again w f r (direct f (register_number r)) op rest p q (omega arith)

pub memory_field : (w : ℕ) (r : Reg) (op : ℕ) (a : Mem) (rest : List ℕ) → w < 2 → register_at (field (low_half w (register_number r) (register_number a.base)) (operand_bytes op (register_number r) a rest)) ≡ r
memory_field w r op a rest p =
    let s = register_number-below r in
    field_again w (register_number a.base) r (based (register_number r) (register_number a.base)) op (tail a rest) p (register_number-below a.base) (omega arith)

-- ---- the readings of a form

pub alu_opcode_again : (op : AluOp) (x : ℕ) (b : List ℕ) → guess_opcode false x (alu_opcode op) b ≡ Some (alu_of op x b)
alu_opcode_again Add x b = refl
alu_opcode_again Sub x b = refl
alu_opcode_again And x b = refl
alu_opcode_again Or x b = refl
alu_opcode_again Xor x b = refl
alu_opcode_again Cmp x b = refl
alu_opcode_again Test x b = refl

pub alu_opcode_no_rex : (op : AluOp) → alu_opcode op / 16 ≢ 4
alu_opcode_no_rex Add = λ e. omega arith
alu_opcode_no_rex Sub = λ e. omega arith
alu_opcode_no_rex And = λ e. omega arith
alu_opcode_no_rex Or = λ e. omega arith
alu_opcode_no_rex Xor = λ e. omega arith
alu_opcode_no_rex Cmp = λ e. omega arith
alu_opcode_no_rex Test = λ e. omega arith

pub alu_opcode_no_prefix : (op : AluOp) → alu_opcode op ≢ 0x66
alu_opcode_no_prefix Add = λ e. omega arith
alu_opcode_no_prefix Sub = λ e. omega arith
alu_opcode_no_prefix And = λ e. omega arith
alu_opcode_no_prefix Or = λ e. omega arith
alu_opcode_no_prefix Xor = λ e. omega arith
alu_opcode_no_prefix Cmp = λ e. omega arith
alu_opcode_no_prefix Test = λ e. omega arith

pub alu_again : (op : AluOp) (w : Width) (dst src : Reg) (b : List ℕ) (x : ℕ) → width_of x ≡ w → register_at (operand x b) ≡ dst → register_at (field x b) ≡ src → alu_of op x b ≡ Alu op w dst src
alu_again op w dst src b x p q r = rw (p, q, r)

pub zero_memory : (from : Width) (f : Reg) (op : ℕ) (a : Mem) (rest : List ℕ) → FitsSigned w32 a.disp → zero_of from (low_half 0 (register_number f) (register_number a.base)) (operand_bytes op (register_number f) a rest) ≡ LoadZero from f a
zero_memory from f op a rest r = cond-true _ _ _ (memory_there (register_number f) op a rest) ∙ rw (memory_field 0 f op a rest (lit< tt), mem_again 0 (register_number f) op a rest (lit< tt) (register_number-below f) r)

pub sign_memory : (from : Width) (f : Reg) (op : ℕ) (a : Mem) (rest : List ℕ) → FitsSigned w32 a.disp → sign_of from (low_half 1 (register_number f) (register_number a.base)) (operand_bytes op (register_number f) a rest) ≡ LoadSign from f a
sign_memory from f op a rest r = cond-true _ _ _ (memory_there (register_number f) op a rest) ∙ rw (memory_field 1 f op a rest (lit< tt), mem_again 1 (register_number f) op a rest (lit< tt) (register_number-below f) r)

pub zero_register : (from : Width) (f o : Reg) (op : ℕ) (rest : List ℕ) → zero_of from (low_half 0 (register_number f) (register_number o)) (op ∷ direct (register_number f) (register_number o) ∷ rest) ≡ Zero from f o
zero_register from f o op rest = cond-false _ _ _ (memory_absent (register_number f) (register_number o) op rest) ∙ rw (direct_field 0 f (register_number o) op rest (lit< tt) (register_number-below o), direct_operand 0 (register_number f) o op rest (lit< tt) (register_number-below f))

pub sign_register : (from : Width) (f o : Reg) (op : ℕ) (rest : List ℕ) → sign_of from (low_half 1 (register_number f) (register_number o)) (op ∷ direct (register_number f) (register_number o) ∷ rest) ≡ Sign from f o
sign_register from f o op rest = cond-false _ _ _ (memory_absent (register_number f) (register_number o) op rest) ∙ rw (direct_field 1 f (register_number o) op rest (lit< tt) (register_number-below o), direct_operand 1 (register_number f) o op rest (lit< tt) (register_number-below f))

pub store_wide : (w : Width) (f : Reg) (a : Mem) (rest : List ℕ) → IsTrue (is_wide w) → FitsSigned w32 a.disp → mov_of false (low_half (wide w) (register_number f) (register_number a.base)) (operand_bytes 0x89 (register_number f) a rest) ≡ Store w a f
store_wide w f a rest i r =
    cond-true _ _ _ (memory_there (register_number f) 0x89 a rest)
    ∙ rw (memory_field (wide w) f 0x89 a rest (wide_below w), mem_again (wide w) (register_number f) 0x89 a rest (wide_below w) (register_number-below f) r, width_again w (register_number f) (register_number a.base) i (register_number-below f) (register_number-below a.base))

pub store_again : (w : Width) (f : Reg) (a : Mem) (rest : List ℕ) → FitsSigned w32 a.disp → guess (store_spelling w (register_number f) a ++ rest) ≡ Some (Store w a f)
store_again W8 f a rest r =
    memory_one (needs_rex W8 (register_number f)) 0 (register_number f) 0x88 a rest (lit< tt) (register_number-below f) (λ e. omega arith) (λ e. omega arith)
    ∙ rw (memory_field 0 f 0x88 a rest (lit< tt), mem_again 0 (register_number f) 0x88 a rest (lit< tt) (register_number-below f) r)
store_again W16 f a rest r =
    let k = rex false 0 (register_number f) (register_number a.base) in
    ap (guess_behind true) (append_assoc k (0x89 ∷ memory (register_number f) a) rest ∙ ap (λ u. k ++ (0x89 ∷ u)) (memory_first (register_number f) a rest))
    ∙ rex_gone true false 0 (register_number f) (register_number a.base) 0x89 (based (register_number f) (register_number a.base) ∷ tail a rest) (lit< tt) (register_number-below f) (register_number-below a.base) (λ e. omega arith)
    ∙ ap Some (cond-true _ _ _ (memory_there (register_number f) 0x89 a rest)
    ∙ rw (memory_field 0 f 0x89 a rest (lit< tt), mem_again 0 (register_number f) 0x89 a rest (lit< tt) (register_number-below f) r))
store_again W32 f a rest r =
    memory_one false 0 (register_number f) 0x89 a rest (lit< tt) (register_number-below f) (λ e. omega arith) (λ e. omega arith)
    ∙ ap Some (store_wide W32 f a rest refl r)
store_again W64 f a rest r =
    memory_one false 1 (register_number f) 0x89 a rest (lit< tt) (register_number-below f) (λ e. omega arith) (λ e. omega arith)
    ∙ ap Some (store_wide W64 f a rest refl r)
