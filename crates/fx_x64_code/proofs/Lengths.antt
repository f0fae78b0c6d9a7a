use Rattle.std.proofs.Common.{◌≡◌, ◌≤◌, ◌+◌, ◌*◌, ◌/◌, ◌%◌, ℕ, ℤ, refl, arith, Bool, true, false, ◌==◌, List, [], ◌∷◌, ◌++◌, length, length-append, lit≤}
use Rattle.std.specs.Prelude.{◌&&◌, not, cond, IsTrue}
use Rattle.std.specs.Int.{to_le_bytes, w64}
use Rattle.std.proofs.lemmas.Bool.{false≢true}
use Rattle.fx_x64_forms.specs.Numbers.{register_number, condition_code}
use Rattle.fx_x64_forms.specs.declared.operand.Width.{Width}
use Rattle.fx_x64_forms.specs.declared.operand.Width.TheVariants.{W8, W16, W32, W64}
use Rattle.fx_x64_forms.specs.declared.operand.Mem.{Mem}
use Rattle.fx_x64_forms.specs.declared.inst.Inst.TheVariants.{Mov, Load, LoadZero, LoadSign, Zero, Sign, Store, MovImm, MovImm64, Lea, Alu, AluImm, Imul, Shift, Unary, Cqo, Setcc, Jcc, Jmp, Call, Ret, Push, Pop, Hlt, Nop, Wrpkru, Rdpkru}
use Rattle.fx_x64_code.specs.Codes.{alu_opcode, alu_digit, shift_digit, unary_digit, zero_opcode, sign_opcode}
use Rattle.fx_x64_code.specs.Spelling.{rex, wide, direct, sib, le32, memory, on_register, on_memory, needs_rex, is_short, is_part, store_spelling}
use Rattle.fx_x64_code.specs.Laws.{SpellingLengths}

-- How long spellings are.

one_by : (c : Bool) (x : ℕ) → length (cond c [] (x ∷ [])) ≤ 1
one_by true x = lit≤ tt
one_by false x = lit≤ tt

sib_by : (c : Bool) (x : ℕ) → length (cond c (x ∷ []) []) ≤ 1
sib_by true x = lit≤ tt
sib_by false x = lit≤ tt

rex_length : (needed : Bool) (w f o : ℕ) → length (rex needed w f o) ≤ 1
rex_length needed w f o = one_by ((w + (f / 8 + o / 8) == 0) && not needed) (64 + 8 * w + 4 * (f / 8) + o / 8)

-- a list behind REX
behind_length : (needed : Bool) (w f o : ℕ) (s : List ℕ) → (length s ≤ length (rex needed w f o ++ s)) × (length (rex needed w f o ++ s) ≤ 1 + length s)
behind_length needed w f o s = let r = rex_length needed w f o in let l = length-append (rex needed w f o) s in (omega (arith, r, l), omega (arith, r, l))

memory_length : (f : ℕ) (a : Mem) → length (memory f a) ≤ 6
memory_length f a =
    let s = sib_by (register_number a.base % 8 == 4) 36 in
    let l : length (sib (register_number a.base) ++ le32 a.disp) ≡ length (sib (register_number a.base)) + 4 = length-append (sib (register_number a.base)) (le32 a.disp) in
    let m : length (memory f a) ≡ length (sib (register_number a.base) ++ le32 a.disp) + 1 = omega arith in
    omega (arith, s, l, m)

abbrev Within : ℕ → List ℕ → Type 0
Within n s = (1 ≤ length s) × (length s ≤ n)

register_one : (needed : Bool) (w op f o : ℕ) → Within 3 (on_register needed w (op ∷ []) f o)
register_one needed w op f o = let b = behind_length needed w f o (op ∷ direct f o ∷ []) in (omega (arith, b.0), omega (arith, b.1))

register_two : (needed : Bool) (w x op f o : ℕ) → Within 4 (on_register needed w (x ∷ op ∷ []) f o)
register_two needed w x op f o = let b = behind_length needed w f o (x ∷ op ∷ direct f o ∷ []) in (omega (arith, b.0), omega (arith, b.1))

memory_one : (needed : Bool) (w op f : ℕ) (a : Mem) → Within 8 (on_memory needed w (op ∷ []) f a)
memory_one needed w op f a =
    let b = behind_length needed w f (register_number a.base) (op ∷ memory f a) in
    let m = memory_length f a in
    let l : length (op ∷ memory f a) ≡ length (memory f a) + 1 = omega arith in
    (omega (arith, b.0, l), omega (arith, b.1, m, l))

memory_two : (needed : Bool) (w x op f : ℕ) (a : Mem) → Within 9 (on_memory needed w (x ∷ op ∷ []) f a)
memory_two needed w x op f a =
    let b = behind_length needed w f (register_number a.base) (x ∷ op ∷ memory f a) in
    let m = memory_length f a in
    let l : length (x ∷ op ∷ memory f a) ≡ length (memory f a) + 2 = omega arith in
    (omega (arith, b.0, l), omega (arith, b.1, m, l))

constant_length : (w op f o : ℕ) (imm : ℤ) → Within 7 (on_register false w (op ∷ []) f o ++ le32 imm)
constant_length w op f o imm =
    let r = register_one false w op f o in
    let l : length (on_register false w (op ∷ []) f o ++ le32 imm) ≡ length (on_register false w (op ∷ []) f o) + 4 = length-append (on_register false w (op ∷ []) f o) (le32 imm) in
    (omega (arith, r.0, l), omega (arith, r.1, l))

opcode_length : (w op r : ℕ) (s : List ℕ) (n : ℕ) → length s ≡ n → Within (2 + n) (rex false w 0 r ++ (op ∷ s))
opcode_length w op r s n e =
    let b = behind_length false w 0 r (op ∷ s) in
    let l : length (op ∷ s) ≡ length s + 1 = omega arith in
    (omega (arith, b.0, l), omega (arith, b.1, l, e))

wider : (m n : ℕ) (s : List ℕ) → Within m s → m ≤ n → Within n s
wider m n s w h = (w.0, omega (arith, w.1, h))

load_zero : (from : Width) (f : ℕ) (a : Mem) → IsTrue (is_short from) → Within 10 (on_memory false 0 (zero_opcode from) f a)
load_zero W8 f a row = wider 9 10 _ (memory_two false 0 0x0f 0xb6 f a) (lit≤ tt)
load_zero W16 f a row = wider 9 10 _ (memory_two false 0 0x0f 0xb7 f a) (lit≤ tt)
load_zero W32 f a row = absurd (false≢true row)
load_zero W64 f a row = absurd (false≢true row)

load_sign : (from : Width) (f : ℕ) (a : Mem) → IsTrue (is_part from) → Within 10 (on_memory false 1 (sign_opcode from) f a)
load_sign W8 f a row = wider 9 10 _ (memory_two false 1 0x0f 0xbe f a) (lit≤ tt)
load_sign W16 f a row = wider 9 10 _ (memory_two false 1 0x0f 0xbf f a) (lit≤ tt)
load_sign W32 f a row = wider 8 10 _ (memory_one false 1 0x63 f a) (lit≤ tt)
load_sign W64 f a row = absurd (false≢true row)

zero_extend : (from : Width) (needed : Bool) (f o : ℕ) → IsTrue (is_short from) → Within 10 (on_register needed 0 (zero_opcode from) f o)
zero_extend W8 needed f o row = wider 4 10 _ (register_two needed 0 0x0f 0xb6 f o) (lit≤ tt)
zero_extend W16 needed f o row = wider 4 10 _ (register_two needed 0 0x0f 0xb7 f o) (lit≤ tt)
zero_extend W32 needed f o row = absurd (false≢true row)
zero_extend W64 needed f o row = absurd (false≢true row)

sign_extend : (from : Width) (f o : ℕ) → IsTrue (is_part from) → Within 10 (on_register false 1 (sign_opcode from) f o)
sign_extend W8 f o row = wider 4 10 _ (register_two false 1 0x0f 0xbe f o) (lit≤ tt)
sign_extend W16 f o row = wider 4 10 _ (register_two false 1 0x0f 0xbf f o) (lit≤ tt)
sign_extend W32 f o row = wider 3 10 _ (register_one false 1 0x63 f o) (lit≤ tt)
sign_extend W64 f o row = absurd (false≢true row)

store_length : (w : Width) (f : ℕ) (a : Mem) → Within 10 (store_spelling w f a)
store_length W8 f a = wider 8 10 _ (memory_one (needs_rex W8 f) 0 0x88 f a) (lit≤ tt)
store_length W16 f a =
    let m = memory_one false 0 0x89 f a in
    let l : length (store_spelling W16 f a) ≡ length (on_memory false 0 (0x89 ∷ []) f a) + 1 = omega arith in
    (omega (arith, m.0, l), omega (arith, m.1, l))
store_length W32 f a = wider 8 10 _ (memory_one false 0 0x89 f a) (lit≤ tt)
store_length W64 f a = wider 8 10 _ (memory_one false 1 0x89 f a) (lit≤ tt)

pub spelling_lengths : SpellingLengths
spelling_lengths (Mov w dst src) row = wider 3 10 _ (register_one false (wide w) 0x89 (register_number src) (register_number dst)) (lit≤ tt)
spelling_lengths (Load w dst mem) row = wider 8 10 _ (memory_one false (wide w) 0x8b (register_number dst) mem) (lit≤ tt)
spelling_lengths (LoadZero from dst mem) row = load_zero from (register_number dst) mem row.0
spelling_lengths (LoadSign from dst mem) row = load_sign from (register_number dst) mem row.0
spelling_lengths (Zero from dst src) row = zero_extend from (needs_rex from (register_number src)) (register_number dst) (register_number src) row.0
spelling_lengths (Sign from dst src) row = sign_extend from (register_number dst) (register_number src) row.0
spelling_lengths (Store w mem src) row = store_length w (register_number src) mem
spelling_lengths (MovImm dst imm) row = wider 7 10 _ (constant_length 1 0xc7 0 (register_number dst) imm) (lit≤ tt)
spelling_lengths (MovImm64 dst imm) row = opcode_length 1 (0xb8 + register_number dst % 8) (register_number dst) (to_le_bytes w64 imm) 8 refl
spelling_lengths (Lea dst mem) row = wider 8 10 _ (memory_one false 1 0x8d (register_number dst) mem) (lit≤ tt)
spelling_lengths (Alu op w dst src) row = wider 3 10 _ (register_one false (wide w) (alu_opcode op) (register_number src) (register_number dst)) (lit≤ tt)
spelling_lengths (AluImm op w dst imm) row = wider 7 10 _ (constant_length (wide w) 0x81 (alu_digit op) (register_number dst) imm) (lit≤ tt)
spelling_lengths (Imul w dst src) row = wider 4 10 _ (register_two false (wide w) 0x0f 0xaf (register_number dst) (register_number src)) (lit≤ tt)
spelling_lengths (Shift op w dst) row = wider 3 10 _ (register_one false (wide w) 0xd3 (shift_digit op) (register_number dst)) (lit≤ tt)
spelling_lengths (Unary op w reg) row = wider 3 10 _ (register_one false (wide w) 0xf7 (unary_digit op) (register_number reg)) (lit≤ tt)
spelling_lengths Cqo row = (lit≤ tt, lit≤ tt)
spelling_lengths (Setcc cc dst) row = wider 4 10 _ (register_two (needs_rex W8 (register_number dst)) 0 0x0f (0x90 + condition_code cc) 0 (register_number dst)) (lit≤ tt)
spelling_lengths (Jcc cc rel) row = (lit≤ tt, lit≤ tt)
spelling_lengths (Jmp rel) row = (lit≤ tt, lit≤ tt)
spelling_lengths (Call rel) row = (lit≤ tt, lit≤ tt)
spelling_lengths Ret row = (lit≤ tt, lit≤ tt)
spelling_lengths (Push reg) row = wider 2 10 _ (opcode_length 0 (0x50 + register_number reg % 8) (register_number reg) [] 0 refl) (lit≤ tt)
spelling_lengths (Pop reg) row = wider 2 10 _ (opcode_length 0 (0x58 + register_number reg % 8) (register_number reg) [] 0 refl) (lit≤ tt)
spelling_lengths Hlt row = (lit≤ tt, lit≤ tt)
spelling_lengths Nop row = (lit≤ tt, lit≤ tt)
spelling_lengths Wrpkru row = (lit≤ tt, lit≤ tt)
spelling_lengths Rdpkru row = (lit≤ tt, lit≤ tt)
