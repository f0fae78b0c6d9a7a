-- How many bytes linked code has.
use Rattle.std.proofs.Common.{◌≡◌, ◌≤◌, ◌<◌, ℕ, ℤ, zero, suc, ◌+◌, ◌-◌, ◌*◌, ◌/◌, ◌%◌, Bool, false, List, [], ◌∷◌, ◌++◌, length, length-append, Option, Some, None, refl, ap, ◌∙◌, arith}
use Rattle.std.specs.Prelude.{replicate, slice_index, slice_index_or}
use Rattle.std.proofs.lemmas.List.{length-replicate}
use Rattle.fx_x64_forms.specs.Numbers.{register_number, condition_code}
use Rattle.fx_x64_forms.specs.declared.operand.Width.{Width}
use Rattle.fx_x64_forms.specs.declared.operand.Width.TheVariants.{W8, W16, W32, W64}
use Rattle.fx_x64_forms.specs.declared.operand.Mem.{Mem}
use Rattle.fx_x64_forms.specs.declared.inst.Inst.{Inst}
use Rattle.fx_x64_forms.specs.declared.inst.Inst.TheVariants.{Mov, Load, LoadZero, LoadSign, Zero, Sign, Store, MovImm, MovImm64, Lea, Alu, AluImm, Imul, Shift, Unary, Cqo, Setcc, Jcc, Jmp, Call, Ret, Push, Pop, Hlt, Nop, Wrpkru, Rdpkru}
use Rattle.fx_x64_forms.specs.declared.piece.Piece.{Piece}
use Rattle.fx_x64_forms.specs.declared.piece.Target.{Target}
use Rattle.fx_x64_code.specs.Codes.{alu_opcode, alu_digit, shift_digit, unary_digit, zero_opcode, sign_opcode}
use Rattle.fx_x64_code.specs.Spelling.{spelling, rex, wide, direct, le32, memory, on_register, on_memory, needs_rex, store_spelling}
use Rattle.fx_c_ast.specs.declared.checked.TProgram.{TProgram}
use Rattle.fx_linker.specs.declared.parts.Parts.{Parts}
use Rattle.fx_linker.specs.declared.reach.Reach.{Reach}
use Rattle.fx_linker.specs.Code.{reached, displacement, with_displacement, linked, bytes_from, filled, range_code, ranges_code}
use Rattle.fx_linker.specs.Places.{piece_size, pieces_size, places_from, whole_pages, ranges_size}
use Rattle.fx_linker.specs.Linked.{parts_layout, inner_reach, outer_reach, code_of}

-- ---- a displacement is of 32 bits whatever it is

displaced : (i : Inst) (z : ℤ) → length (spelling (with_displacement i z)) ≡ length (spelling i)
displaced (Jcc cc rel) z = refl
displaced (Jmp rel) z = refl
displaced (Call rel) z = refl
displaced i z = refl

pub linked_length : (parts : Parts) (to : Reach) (own : List ℕ) (end : ℕ) (i : Inst) (t : Option Target) → length (spelling (linked parts to own end i t)) ≡ length (spelling i)
linked_length parts to own end i None = refl
linked_length parts to own end i (Some t) = displaced i (displacement end (reached parts to own t))

pub bytes_length : (parts : Parts) (to : Reach) (own : List ℕ) (k : ℕ) (ps : List Piece) → length (bytes_from parts to own k ps) ≡ pieces_size ps
bytes_length parts to own k [] = refl
bytes_length parts to own k (p ∷ ps) =
    let here = spelling (linked parts to own (slice_index own (k + 1)) p.inst p.target) in
    let both : length (here ++ bytes_from parts to own (k + 1) ps) ≡ length here + length (bytes_from parts to own (k + 1) ps) = length-append here (bytes_from parts to own (k + 1) ps) in
    let same : length here ≡ piece_size p = linked_length parts to own (slice_index own (k + 1)) p.inst p.target in
    let rest = bytes_length parts to own (k + 1) ps in
    omega (arith, both, same, rest)

-- ---- whole pages

rounded : (n : ℕ) → n + (4096 - n % 4096) % 4096 ≡ (n + 4095) / 4096 * 4096
rounded n = omega arith

filled_length : (bytes : List ℕ) → length (filled bytes) ≡ whole_pages (length bytes)
filled_length bytes =
    let missing = (4096 - length bytes % 4096) % 4096 in
    length-append bytes (replicate missing 0xf4) ∙ ap (λ n. length bytes + n) (length-replicate missing 0xf4) ∙ rounded (length bytes)

pub range_length : (parts : Parts) (to : Reach) (own : List ℕ) (ps : List Piece) → length (range_code parts to own ps) ≡ whole_pages (pieces_size ps)
range_length parts to own ps = filled_length (bytes_from parts to own 0 ps) ∙ ap whole_pages (bytes_length parts to own 0 ps)

pub ranges_length : (parts : Parts) (to : Reach) (places : List (List ℕ)) (c : ℕ) (rs : List (List Piece)) → length (ranges_code parts to places c rs) ≡ ranges_size rs
ranges_length parts to places c [] = refl
ranges_length parts to places c (r ∷ rs) =
    let here = range_code parts to (slice_index_or places c []) r in
    let both : length (here ++ ranges_code parts to places (c + 1) rs) ≡ length here + length (ranges_code parts to places (c + 1) rs) = length-append here (ranges_code parts to places (c + 1) rs) in
    let same : length here ≡ whole_pages (pieces_size r) = range_length parts to (slice_index_or places c []) r in
    both ∙ ap (λ n. n + length (ranges_code parts to places (c + 1) rs)) same ∙ ap (λ n. whole_pages (pieces_size r) + n) (ranges_length parts to places (c + 1) rs)

pub code_length : (parts : Parts) (p : TProgram) → length (code_of parts p (parts_layout parts)) ≡ (parts_layout parts).size
code_length parts p =
    let at = parts_layout parts in
    let first = ranges_code parts (inner_reach parts p at) at.ranges 0 parts.ranges in
    let last = range_code parts (outer_reach parts p at) at.runtime parts.runtime in
    length-append first last
    ∙ ap (λ n. n + length last) (ranges_length parts (inner_reach parts p at) at.ranges 0 parts.ranges)
    ∙ ap (λ n. ranges_size parts.ranges + n) (range_length parts (outer_reach parts p at) at.runtime parts.runtime)

pub page_whole : (n : ℕ) → whole_pages n % 4096 ≡ 0
page_whole n = omega arith

pub ranges_whole : (rs : List (List Piece)) → ranges_size rs % 4096 ≡ 0
ranges_whole [] = refl
ranges_whole (r ∷ rs) = omega (arith, page_whole (pieces_size r), ranges_whole rs)

pub size_whole : (parts : Parts) → (parts_layout parts).size % 4096 ≡ 0
size_whole parts = omega (arith, page_whole (pieces_size parts.runtime), ranges_whole parts.ranges)

pub page_least : (n : ℕ) → n ≤ whole_pages n
page_least n = omega arith

-- ---- an instruction has a byte at least

some : (xs ys : List ℕ) (y : ℕ) → 1 ≤ length (xs ++ (y ∷ ys))
some xs ys y =
    let both : length (xs ++ (y ∷ ys)) ≡ length xs + suc (length ys) = length-append xs (y ∷ ys) in
    omega (arith, both)

longer : (xs ys : List ℕ) → 1 ≤ length xs → 1 ≤ length (xs ++ ys)
longer xs ys h = omega (arith, length-append xs ys)

behind : (xs ys : List ℕ) → 1 ≤ length ys → 1 ≤ length (xs ++ ys)
behind xs ys h = omega (arith, length-append xs ys)

on_register_some : (needed : Bool) (w : ℕ) (opcode : List ℕ) (f o : ℕ) → 1 ≤ length (on_register needed w opcode f o)
on_register_some needed w opcode f o = behind (rex needed w f o) (opcode ++ direct f o ∷ []) (some opcode [] (direct f o))

on_memory_some : (needed : Bool) (w : ℕ) (opcode : List ℕ) (f : ℕ) (a : Mem) → 1 ≤ length (on_memory needed w opcode f a)
on_memory_some needed w opcode f a = behind (rex needed w f (register_number a.base)) (opcode ++ memory f a) (behind opcode (memory f a) (omega arith))

store_some : (w : Width) (r : ℕ) (a : Mem) → 1 ≤ length (store_spelling w r a)
store_some W8 r a = on_memory_some (needs_rex W8 r) 0 (0x88 ∷ []) r a
store_some W16 r a = omega arith
store_some W32 r a = on_memory_some false 0 (0x89 ∷ []) r a
store_some W64 r a = on_memory_some false 1 (0x89 ∷ []) r a

pub spelling_some : (i : Inst) → 1 ≤ length (spelling i)
spelling_some (Mov w dst src) = on_register_some false (wide w) (0x89 ∷ []) (register_number src) (register_number dst)
spelling_some (Load w dst mem) = on_memory_some false (wide w) (0x8b ∷ []) (register_number dst) mem
spelling_some (LoadZero from dst mem) = on_memory_some false 0 (zero_opcode from) (register_number dst) mem
spelling_some (LoadSign from dst mem) = on_memory_some false 1 (sign_opcode from) (register_number dst) mem
spelling_some (Zero from dst src) = on_register_some (needs_rex from (register_number src)) 0 (zero_opcode from) (register_number dst) (register_number src)
spelling_some (Sign from dst src) = on_register_some false 1 (sign_opcode from) (register_number dst) (register_number src)
spelling_some (Store w mem src) = store_some w (register_number src) mem
spelling_some (MovImm dst imm) = longer (on_register false 1 (0xc7 ∷ []) 0 (register_number dst)) (le32 imm) (on_register_some false 1 (0xc7 ∷ []) 0 (register_number dst))
spelling_some (MovImm64 dst imm) = behind (rex false 1 0 (register_number dst)) _ (omega arith)
spelling_some (Lea dst mem) = on_memory_some false 1 (0x8d ∷ []) (register_number dst) mem
spelling_some (Alu op w dst src) = on_register_some false (wide w) (alu_opcode op ∷ []) (register_number src) (register_number dst)
spelling_some (AluImm op w dst imm) =
    longer (on_register false (wide w) (0x81 ∷ []) (alu_digit op) (register_number dst)) (le32 imm) (on_register_some false (wide w) (0x81 ∷ []) (alu_digit op) (register_number dst))
spelling_some (Imul w dst src) = on_register_some false (wide w) (0x0f ∷ 0xaf ∷ []) (register_number dst) (register_number src)
spelling_some (Shift op w dst) = on_register_some false (wide w) (0xd3 ∷ []) (shift_digit op) (register_number dst)
spelling_some (Unary op w reg) = on_register_some false (wide w) (0xf7 ∷ []) (unary_digit op) (register_number reg)
spelling_some Cqo = omega arith
spelling_some (Setcc cc dst) = on_register_some (needs_rex W8 (register_number dst)) 0 (0x0f ∷ (0x90 + condition_code cc) ∷ []) 0 (register_number dst)
spelling_some (Jcc cc rel) = omega arith
spelling_some (Jmp rel) = omega arith
spelling_some (Call rel) = omega arith
spelling_some Ret = omega arith
spelling_some (Push reg) = some (rex false 0 0 (register_number reg)) [] (0x50 + register_number reg % 8)
spelling_some (Pop reg) = some (rex false 0 0 (register_number reg)) [] (0x58 + register_number reg % 8)
spelling_some Hlt = omega arith
spelling_some Nop = omega arith
spelling_some Wrpkru = omega arith
spelling_some Rdpkru = omega arith

-- a piece of a list stands behind the first one's place, and before where the last one ends
pub place_within : (at : ℕ) (ps : List Piece) (i : ℕ) → i < length ps → (at ≤ slice_index (places_from at ps) i) × (slice_index (places_from at ps) i < at + pieces_size ps)
place_within at [] i less = absurd (omega arith)
place_within at (p ∷ ps) zero less = (omega arith, omega (arith, spelling_some p.inst))
place_within at (p ∷ ps) (suc i) less =
    let rest = place_within (at + piece_size p) ps i (omega arith) in
    (omega (arith, rest.0), omega (arith, rest.1))
