-- Which instructions spell no WRPKRU: all but WRPKRU whose numbers don't spell it. Prefixes,
-- opcodes
-- and operands never do, nor do they begin one that a number would end; and but for an addition of
-- RBP to EDI (01 EF) none begins with the end of one.
use Rattle.std.proofs.Common.{◌≡◌, ◌<◌, ◌≤◌, ◌+◌, ◌*◌, ◌/◌, ◌%◌, ◌==◌, ℕ, ℤ, Bool, true, false}
use Rattle.std.proofs.Common.{not, ◌&&◌, nat_eq, List, [], ◌∷◌, ◌++◌, refl, arith, lit≤}
use Rattle.std.specs.Prelude.{cond}
use Rattle.std.specs.List.{starts_with}
use Rattle.std.specs.Int.{w64, to_le_bytes}
use Rattle.std.proofs.lemmas.Bool.{and_from, and_parts, and_left, not_from_false, ne_eqb}
use Rattle.std.proofs.lemmas.Bool.{false≢true}
use Rattle.fx_x64_forms.specs.Numbers.{register_number, condition_code}
use Rattle.fx_x64_forms.specs.declared.operand.Width.{Width}
use Rattle.fx_x64_forms.specs.declared.operand.Width.TheVariants.{W8, W16, W32, W64}
use Rattle.fx_x64_forms.specs.declared.operand.Mem.{Mem}
use Rattle.fx_x64_forms.specs.declared.operand.Reg.{Reg}
use Rattle.fx_x64_forms.specs.declared.operand.Cond.{Cond}
use Rattle.fx_x64_forms.specs.declared.inst.AluOp.{AluOp}
use Rattle.fx_x64_forms.specs.declared.inst.AluOp.TheVariants.{Add, Sub, And, Or, Xor, Cmp, Test}
use Rattle.fx_x64_forms.specs.declared.inst.Inst.{Inst}
use Rattle.fx_x64_forms.specs.declared.inst.Inst.TheVariants.{Mov, Load, LoadZero, LoadSign, Zero}
use Rattle.fx_x64_forms.specs.declared.inst.Inst.TheVariants.{Sign, Store, MovImm, MovImm64, Lea}
use Rattle.fx_x64_forms.specs.declared.inst.Inst.TheVariants.{Alu, AluImm, Imul, Shift, Unary, Cqo}
use Rattle.fx_x64_forms.specs.declared.inst.Inst.TheVariants.{Setcc, Jcc, Jmp, Call, Ret, Push, Pop}
use Rattle.fx_x64_forms.specs.declared.inst.Inst.TheVariants.{Hlt, Nop, Wrpkru, Rdpkru}
use Rattle.fx_x64_code.specs.Codes.{alu_opcode, alu_digit, shift_digit, unary_digit}
use Rattle.fx_x64_code.specs.Codes.{zero_opcode, sign_opcode}
use Rattle.fx_x64_code.specs.Spelling.{wide, needs_rex, rex, direct, based, sib, le32, memory}
use Rattle.fx_x64_code.specs.Spelling.{on_register, on_memory, store_spelling, spelling}
use Rattle.fx_x64_code.specs.Spelling.{is_short, is_part}
use Rattle.fx_x64_code.proofs.Numbers.{register_number-below, alu_digit-below}
use Rattle.fx_x64_code.proofs.Numbers.{shift_digit-below, unary_digit-below}
use Rattle.fx_x64_code.proofs.Numbers.{condition_code-below}
use Rattle.fx_image.specs.Rules.{is_key_sequence, unlisted_from, has_none}
use Rattle.fx_linker_law.specs.Premises.{is_quiet}
use Rattle.fx_linker_law.proofs.Quiet.{is_clean, Quiet, unlisted}

-- ---- the test of an instruction, which looks at its numbers

-- whether an instruction of the subset that is no WRPKRU has none in its displacement or constant,
-- and doesn't begin with 01 EF
abbrev pub is_calm : Inst → Bool
is_calm (Mov w dst src) = true
is_calm (Load w dst mem) = is_clean (le32 mem.disp)
is_calm (LoadZero from dst mem) = is_clean (le32 mem.disp)
is_calm (LoadSign from dst mem) = is_clean (le32 mem.disp)
is_calm (Zero from dst src) = is_short from
is_calm (Sign from dst src) = is_part from
is_calm (Store w mem src) = is_clean (le32 mem.disp)
is_calm (MovImm dst imm) = is_clean (le32 imm)
is_calm (MovImm64 dst imm) = is_clean (to_le_bytes w64 imm)
is_calm (Lea dst mem) = is_clean (le32 mem.disp)
is_calm (Alu op w dst src) =
    not (nat_eq 0xef (direct (register_number src) (register_number dst)))
is_calm (AluImm op w dst imm) = is_clean (le32 imm)
is_calm (Imul w dst src) = true
is_calm (Shift op w dst) = true
is_calm (Unary op w reg) = true
is_calm Cqo = true
is_calm (Setcc cc dst) = true
is_calm (Jcc cc rel) = is_clean (le32 rel)
is_calm (Jmp rel) = is_clean (le32 rel)
is_calm (Call rel) = is_clean (le32 rel)
is_calm Ret = true
is_calm (Push reg) = true
is_calm (Pop reg) = true
is_calm Hlt = true
is_calm Nop = true
is_calm Wrpkru = false
is_calm Rdpkru = true

-- ---- bytes in front of others

-- a byte that is none of WRPKRU's
abbrev Neutral : ℕ → Type 0
Neutral b = (nat_eq 0x0f b ≡ false) × (nat_eq 0x01 b ≡ false) × (nat_eq 0xef b ≡ false)

neutral : (b : ℕ) → (0x0f ≡ b → ⊥) → (0x01 ≡ b → ⊥) → (0xef ≡ b → ⊥) → Neutral b
neutral b first second third = (ne_eqb 0x0f b first, ne_eqb 0x01 b second, ne_eqb 0xef b third)

-- a byte that begins no WRPKRU
pub before : (b : ℕ) (bs : List ℕ) → nat_eq 0x0f b ≡ false → is_clean bs ≡ true
    → is_clean (b ∷ bs) ≡ true
before b bs first rest =
    and_from (not (is_key_sequence (b ∷ bs) 0)) (is_clean bs)
    (not_from_false (is_key_sequence (b ∷ bs) 0) (and_left (nat_eq 0x0f b) _ first)) rest

front : (b : ℕ) (bs : List ℕ) → Neutral b → is_clean bs ≡ true → Quiet (b ∷ bs)
front b bs n rest = (
  before b bs n.0 rest,
  and_from (not (starts_with nat_eq (b ∷ bs) (0x01 ∷ 0xef ∷ [])))
      (not (starts_with nat_eq (b ∷ bs) (0xef ∷ [])))
      (not_from_false (starts_with nat_eq (b ∷ bs) (0x01 ∷ 0xef ∷ []))
      (and_left (nat_eq 0x01 b) _ n.1))
      (not_from_false (starts_with nat_eq (b ∷ bs) (0xef ∷ [])) (and_left (nat_eq 0xef b) _ n.2)),
)

-- an opcode of two bytes
escaped : (c : ℕ) (bs : List ℕ) → nat_eq 0x01 c ≡ false → is_clean (c ∷ bs) ≡ true
    → Quiet (0x0f ∷ c ∷ bs)
escaped c bs second rest = (
  and_from (not (is_key_sequence (0x0f ∷ c ∷ bs) 0)) (is_clean (c ∷ bs))
      (not_from_false (is_key_sequence (0x0f ∷ c ∷ bs) 0) (and_left (nat_eq 0x01 c) _ second)) rest,
  refl,
)

-- ---- prefixes

-- a byte that may be there
maybe : (c : Bool) (x : ℕ) (bs : List ℕ) → Neutral x → Quiet bs
    → Quiet (cond c [] (x ∷ []) ++ bs)
maybe true x bs n rest = rest
maybe false x bs n rest = front x bs n rest.0

rex_neutral : (w f o : ℕ) → w ≤ 1 → f < 16 → o < 16
    → Neutral (64 + 8 * w + 4 * (f / 8) + o / 8)
rex_neutral w f o small field operand =
    neutral (64 + 8 * w + 4 * (f / 8) + o / 8) (λ e. omega (arith, e)) (λ e. omega (arith, e))
    (λ e. omega (arith, e))

prefixed : (needed : Bool) (w f o : ℕ) (bs : List ℕ) → w ≤ 1 → f < 16 → o < 16 → Quiet bs
    → Quiet (rex needed w f o ++ bs)
prefixed needed w f o bs small field operand rest =
    maybe ((w + (f / 8 + o / 8) == 0) && not needed) (64 + 8 * w + 4 * (f / 8) + o / 8) bs
    (rex_neutral w f o small field operand) rest

wide-below : (w : Width) → wide w ≤ 1
wide-below W64 = lit≤ tt
wide-below W32 = lit≤ tt
wide-below W16 = lit≤ tt
wide-below W8 = lit≤ tt

-- ---- register operands

not_escape : (f o : ℕ) → nat_eq 0x0f (direct f o) ≡ false
not_escape f o = ne_eqb 0x0f (direct f o) (λ e. omega (arith, e))

operand_clean : (f o : ℕ) → is_clean (direct f o ∷ []) ≡ true
operand_clean f o = before (direct f o) [] (not_escape f o) refl

register_one : (c f o : ℕ) → Neutral c → Quiet (c ∷ direct f o ∷ [])
register_one c f o n = front c (direct f o ∷ []) n (operand_clean f o)

register_two : (c f o : ℕ) → Neutral c → Quiet (0x0f ∷ c ∷ direct f o ∷ [])
register_two c f o n =
    escaped c (direct f o ∷ []) n.1 (before c (direct f o ∷ []) n.0 (operand_clean f o))

-- the opcode of an addition is 01
alu_quiet : (op : AluOp) (f o : ℕ) → not (nat_eq 0xef (direct f o)) ≡ true
    → Quiet (alu_opcode op ∷ direct f o ∷ [])
alu_quiet Add f o other = (
  before 0x01 (direct f o ∷ []) refl (operand_clean f o),
  and_from (not (nat_eq 0xef (direct f o) && true)) true (added (nat_eq 0xef (direct f o)) other)
      refl,
)
  where
    added : (b : Bool) → not b ≡ true → not (b && true) ≡ true
    added true e = e
    added false e = refl
alu_quiet Or f o other = register_one 0x09 f o (refl, refl, refl)
alu_quiet And f o other = register_one 0x21 f o (refl, refl, refl)
alu_quiet Sub f o other = register_one 0x29 f o (refl, refl, refl)
alu_quiet Xor f o other = register_one 0x31 f o (refl, refl, refl)
alu_quiet Cmp f o other = register_one 0x39 f o (refl, refl, refl)
alu_quiet Test f o other = register_one 0x85 f o (refl, refl, refl)

-- ---- memory operands

based_neutral : (f b : ℕ) → Neutral (based f b)
based_neutral f b =
    neutral (based f b) (λ e. omega (arith, e)) (λ e. omega (arith, e)) (λ e. omega (arith, e))

scaled : (c : Bool) (bs : List ℕ) → is_clean bs ≡ true
    → is_clean (cond c (0x24 ∷ []) [] ++ bs) ≡ true
scaled true bs rest = before 0x24 bs refl rest
scaled false bs rest = rest

behind_sib : (mem : Mem) → is_clean (le32 mem.disp) ≡ true
    → is_clean (sib (register_number mem.base) ++ le32 mem.disp) ≡ true
behind_sib mem calm = scaled (register_number mem.base % 8 == 4) (le32 mem.disp) calm

memory_quiet : (f : ℕ) (mem : Mem) → is_clean (le32 mem.disp) ≡ true → Quiet (memory f mem)
memory_quiet f mem calm =
    let b = register_number mem.base in
    front (based f b) (sib b ++ le32 mem.disp) (based_neutral f b) (behind_sib mem calm)

memory_one : (needed : Bool) (w c : ℕ) (r : Reg) (mem : Mem) → w ≤ 1 → Neutral c
    → is_clean (le32 mem.disp) ≡ true
    → Quiet (on_memory needed w (c ∷ []) (register_number r) mem)
memory_one needed w c r mem small n calm =
    let f = register_number r in
    prefixed needed w f (register_number mem.base) (c ∷ memory f mem) small
    (register_number-below r) (register_number-below mem.base)
    (front c (memory f mem) n (memory_quiet f mem calm).0)

memory_two : (w c : ℕ) (r : Reg) (mem : Mem) → w ≤ 1 → Neutral c
    → is_clean (le32 mem.disp) ≡ true
    → Quiet (on_memory false w (0x0f ∷ c ∷ []) (register_number r) mem)
memory_two w c r mem small n calm =
    let f = register_number r in
    prefixed false w f (register_number mem.base) (0x0f ∷ c ∷ memory f mem) small
    (register_number-below r) (register_number-below mem.base)
    (escaped c (memory f mem) n.1 (before c (memory f mem) n.0 (memory_quiet f mem calm).0))

memory_none : (w : ℕ) (r : Reg) (mem : Mem) → w ≤ 1 → is_clean (le32 mem.disp) ≡ true
    → Quiet (on_memory false w [] (register_number r) mem)
memory_none w r mem small calm =
    let f = register_number r in
    prefixed false w f (register_number mem.base) (memory f mem) small
    (register_number-below r) (register_number-below mem.base) (memory_quiet f mem calm)

zero_load : (from : Width) (r : Reg) (mem : Mem) → is_clean (le32 mem.disp) ≡ true
    → Quiet (on_memory false 0 (zero_opcode from) (register_number r) mem)
zero_load W8 r mem calm = memory_two 0 0xb6 r mem (lit≤ tt) (refl, refl, refl) calm
zero_load W16 r mem calm = memory_two 0 0xb7 r mem (lit≤ tt) (refl, refl, refl) calm
zero_load W32 r mem calm = memory_none 0 r mem (lit≤ tt) calm
zero_load W64 r mem calm = memory_none 0 r mem (lit≤ tt) calm

sign_load : (from : Width) (r : Reg) (mem : Mem) → is_clean (le32 mem.disp) ≡ true
    → Quiet (on_memory false 1 (sign_opcode from) (register_number r) mem)
sign_load W8 r mem calm = memory_two 1 0xbe r mem (lit≤ tt) (refl, refl, refl) calm
sign_load W16 r mem calm = memory_two 1 0xbf r mem (lit≤ tt) (refl, refl, refl) calm
sign_load W32 r mem calm = memory_one false 1 0x63 r mem (lit≤ tt) (refl, refl, refl) calm
sign_load W64 r mem calm = memory_none 1 r mem (lit≤ tt) calm

store_quiet : (w : Width) (r : Reg) (mem : Mem) → is_clean (le32 mem.disp) ≡ true
    → Quiet (store_spelling w (register_number r) mem)
store_quiet W8 r mem calm =
    memory_one (needs_rex W8 (register_number r)) 0 0x88 r mem (lit≤ tt) (refl, refl, refl) calm
store_quiet W16 r mem calm =
    front 0x66 (on_memory false 0 (0x89 ∷ []) (register_number r) mem) (refl, refl, refl)
    (memory_one false 0 0x89 r mem (lit≤ tt) (refl, refl, refl) calm).0
store_quiet W32 r mem calm = memory_one false 0 0x89 r mem (lit≤ tt) (refl, refl, refl) calm
store_quiet W64 r mem calm = memory_one false 1 0x89 r mem (lit≤ tt) (refl, refl, refl) calm

-- ---- extensions of registers

zero_quiet : (from : Width) (needed : Bool) (dst src : Reg) → is_short from ≡ true
    → Quiet (on_register needed 0 (zero_opcode from) (register_number dst) (register_number src))
zero_quiet W8 needed dst src short =
    let f = register_number dst in
    let o = register_number src in
    prefixed needed 0 f o (0x0f ∷ 0xb6 ∷ direct f o ∷ []) (lit≤ tt) (register_number-below dst)
    (register_number-below src) (register_two 0xb6 f o (refl, refl, refl))
zero_quiet W16 needed dst src short =
    let f = register_number dst in
    let o = register_number src in
    prefixed needed 0 f o (0x0f ∷ 0xb7 ∷ direct f o ∷ []) (lit≤ tt) (register_number-below dst)
    (register_number-below src) (register_two 0xb7 f o (refl, refl, refl))
zero_quiet W32 needed dst src short = absurd (false≢true short)
zero_quiet W64 needed dst src short = absurd (false≢true short)

sign_quiet : (from : Width) (dst src : Reg) → is_part from ≡ true
    → Quiet (on_register false 1 (sign_opcode from) (register_number dst) (register_number src))
sign_quiet W8 dst src part =
    let f = register_number dst in
    let o = register_number src in
    prefixed false 1 f o (0x0f ∷ 0xbe ∷ direct f o ∷ []) (lit≤ tt) (register_number-below dst)
    (register_number-below src) (register_two 0xbe f o (refl, refl, refl))
sign_quiet W16 dst src part =
    let f = register_number dst in
    let o = register_number src in
    prefixed false 1 f o (0x0f ∷ 0xbf ∷ direct f o ∷ []) (lit≤ tt) (register_number-below dst)
    (register_number-below src) (register_two 0xbf f o (refl, refl, refl))
sign_quiet W32 dst src part =
    let f = register_number dst in
    let o = register_number src in
    prefixed false 1 f o (0x63 ∷ direct f o ∷ []) (lit≤ tt) (register_number-below dst)
    (register_number-below src) (register_one 0x63 f o (refl, refl, refl))
sign_quiet W64 dst src part = absurd (false≢true part)

-- ---- one register operand, whose field is an opcode's digit or 0

digit_quiet : (w c f : ℕ) (reg : Reg) → w ≤ 1 → f < 16 → Neutral c
    → Quiet (on_register false w (c ∷ []) f (register_number reg))
digit_quiet w c f reg small field n =
    let o = register_number reg in
    prefixed false w f o (c ∷ direct f o ∷ []) small field (register_number-below reg)
    (register_one c f o n)

-- a constant of 32 bits behind it
behind_operand : (c : Bool) (x op d : ℕ) (bs : List ℕ) → Neutral x → Neutral op
    → nat_eq 0x0f d ≡ false → is_clean bs ≡ true
    → Quiet ((cond c [] (x ∷ []) ++ (op ∷ d ∷ [])) ++ bs)
behind_operand true x op d bs first second third rest =
    front op (d ∷ bs) second (before d bs third rest)
behind_operand false x op d bs first second third rest =
    front x (op ∷ d ∷ bs) first (front op (d ∷ bs) second (before d bs third rest)).0

number_quiet : (w c f : ℕ) (reg : Reg) (imm : ℤ) → w ≤ 1 → f < 16 → Neutral c
    → is_clean (le32 imm) ≡ true
    → Quiet (on_register false w (c ∷ []) f (register_number reg) ++ le32 imm)
number_quiet w c f reg imm small field n calm =
    let o = register_number reg in
    behind_operand ((w + (f / 8 + o / 8) == 0) && not false) (64 + 8 * w + 4 * (f / 8) + o / 8) c
    (direct f o) (le32 imm) (rex_neutral w f o small field (register_number-below reg)) n
    (not_escape f o) calm

-- a register in the opcode
opcode_quiet : (w c : ℕ) (reg : Reg) (bs : List ℕ) → w ≤ 1 → Neutral c → is_clean bs ≡ true
    → Quiet (rex false w 0 (register_number reg) ++ (c ∷ bs))
opcode_quiet w c reg bs small n rest =
    prefixed false w 0 (register_number reg) (c ∷ bs) small (lit≤ tt) (register_number-below reg)
    (front c bs n rest)

in_opcode : (c n : ℕ) → 0x50 ≤ c → c ≤ 0xb8 → Neutral (c + n % 8)
in_opcode c n low high =
    neutral (c + n % 8) (λ e. omega (arith, e)) (λ e. omega (arith, e)) (λ e. omega (arith, e))

condition_neutral : (c : ℕ) (cc : Cond) → 0x80 ≤ c → c ≤ 0x90 → Neutral (c + condition_code cc)
condition_neutral c cc low high =
    let n = condition_code cc in
    neutral (c + n) (λ e. omega (arith, e)) (λ e. omega (arith, e))
    (λ e. omega (arith, e, condition_code-below cc))

-- ---- all instructions

pub calm_quiet : (i : Inst) → is_calm i ≡ true → Quiet (spelling i)
calm_quiet (Mov w dst src) calm =
    digit_quiet (wide w) 0x89 (register_number src) dst (wide-below w) (register_number-below src)
    (refl, refl, refl)
calm_quiet (Load w dst mem) calm =
    memory_one false (wide w) 0x8b dst mem (wide-below w) (refl, refl, refl) calm
calm_quiet (LoadZero from dst mem) calm = zero_load from dst mem calm
calm_quiet (LoadSign from dst mem) calm = sign_load from dst mem calm
calm_quiet (Zero from dst src) calm =
    zero_quiet from (needs_rex from (register_number src)) dst src calm
calm_quiet (Sign from dst src) calm = sign_quiet from dst src calm
calm_quiet (Store w mem src) calm = store_quiet w src mem calm
calm_quiet (MovImm dst imm) calm =
    number_quiet 1 0xc7 0 dst imm (lit≤ tt) (lit≤ tt) (refl, refl, refl) calm
calm_quiet (MovImm64 dst imm) calm =
    opcode_quiet 1 (0xb8 + register_number dst % 8) dst (to_le_bytes w64 imm) (lit≤ tt)
    (in_opcode 0xb8 (register_number dst) (lit≤ tt) (lit≤ tt)) calm
calm_quiet (Lea dst mem) calm =
    memory_one false 1 0x8d dst mem (lit≤ tt) (refl, refl, refl) calm
calm_quiet (Alu op w dst src) calm =
    let f = register_number src in
    let o = register_number dst in
    prefixed false (wide w) f o (alu_opcode op ∷ direct f o ∷ []) (wide-below w)
    (register_number-below src) (register_number-below dst) (alu_quiet op f o calm)
calm_quiet (AluImm op w dst imm) calm =
    number_quiet (wide w) 0x81 (alu_digit op) dst imm (wide-below w)
    (omega (arith, alu_digit-below op)) (refl, refl, refl) calm
calm_quiet (Imul w dst src) calm =
    let f = register_number dst in
    let o = register_number src in
    prefixed false (wide w) f o (0x0f ∷ 0xaf ∷ direct f o ∷ []) (wide-below w)
    (register_number-below dst) (register_number-below src)
    (register_two 0xaf f o (refl, refl, refl))
calm_quiet (Shift op w dst) calm =
    digit_quiet (wide w) 0xd3 (shift_digit op) dst (wide-below w)
    (omega (arith, shift_digit-below op)) (refl, refl, refl)
calm_quiet (Unary op w reg) calm =
    digit_quiet (wide w) 0xf7 (unary_digit op) reg (wide-below w)
    (omega (arith, unary_digit-below op)) (refl, refl, refl)
calm_quiet Cqo calm = (refl, refl)
calm_quiet (Setcc cc dst) calm =
    let o = register_number dst in
    let c = 0x90 + condition_code cc in
    prefixed (needs_rex W8 o) 0 0 o (0x0f ∷ c ∷ direct 0 o ∷ []) (lit≤ tt) (lit≤ tt)
    (register_number-below dst) (register_two c 0 o (condition_neutral 0x90 cc (lit≤ tt) (lit≤ tt)))
calm_quiet (Jcc cc rel) calm =
    let c = 0x80 + condition_code cc in
    let n = condition_neutral 0x80 cc (lit≤ tt) (lit≤ tt) in
    escaped c (le32 rel) n.1 (before c (le32 rel) n.0 calm)
calm_quiet (Jmp rel) calm = front 0xe9 (le32 rel) (refl, refl, refl) calm
calm_quiet (Call rel) calm = front 0xe8 (le32 rel) (refl, refl, refl) calm
calm_quiet Ret calm = (refl, refl)
calm_quiet (Push reg) calm =
    opcode_quiet 0 (0x50 + register_number reg % 8) reg [] (lit≤ tt)
    (in_opcode 0x50 (register_number reg) (lit≤ tt) (lit≤ tt)) refl
calm_quiet (Pop reg) calm =
    opcode_quiet 0 (0x58 + register_number reg % 8) reg [] (lit≤ tt)
    (in_opcode 0x58 (register_number reg) (lit≤ tt) (lit≤ tt)) refl
calm_quiet Hlt calm = (refl, refl)
calm_quiet Nop calm = (refl, refl)
calm_quiet Wrpkru calm = absurd (false≢true calm)
calm_quiet Rdpkru calm = (refl, refl)

-- ---- as the premise of linking says it

pub is_quiet_from : (bytes : List ℕ) → Quiet bytes → is_quiet bytes ≡ true
is_quiet_from bytes quiet =
    let clean = has_none (unlisted_from [] 0 bytes) in
    let second = not (starts_with nat_eq bytes (0x01 ∷ 0xef ∷ [])) in
    let third = not (starts_with nat_eq bytes (0xef ∷ [])) in
    let other = and_parts second third quiet.1 in
    and_from (clean && second) third
    (and_from clean second (unlisted [] 0 bytes quiet.0) other.0) other.1

pub calm_is_quiet : (i : Inst) → is_calm i ≡ true → is_quiet (spelling i) ≡ true
calm_is_quiet i calm = is_quiet_from (spelling i) (calm_quiet i calm)
