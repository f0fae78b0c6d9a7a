-- Slots, constants, operands, calls and copies.
use Rattle.std.proofs.Common.{◌≡◌, ◌≤◌, ◌+◌, ◌/◌, ◌%◌, ◌^◌, ◌==◌, ℕ, zero, suc, pos, Bool, true}
use Rattle.std.proofs.Common.{false, not, ◌&&◌}
use Rattle.std.proofs.Common.{List, [], ◌∷◌, ◌++◌, length, nat_lt, if◌then◌else◌, refl, arith}
use Rattle.std.specs.Int.{w64, cast_unsigned}
use Rattle.std.proofs.lemmas.Bool.{and_from, and_parts, not-true, false≢true}
use Rattle.fx_x64_forms.specs.declared.operand.Width.{Width}
use Rattle.fx_x64_forms.specs.declared.operand.Width.TheVariants.{W8, W16, W32, W64}
use Rattle.fx_x64_forms.specs.declared.operand.Reg.{Reg}
use Rattle.fx_x64_forms.specs.declared.operand.Reg.TheVariants.{Rax, Rcx, Rdx, R11}
use Rattle.fx_x64_forms.specs.declared.operand.Mem.{Mem}
use Rattle.fx_x64_forms.specs.declared.inst.AluOp.{AluOp}
use Rattle.fx_x64_forms.specs.declared.inst.Inst.TheVariants as inst
use Rattle.fx_x64_forms.specs.declared.piece.Target.{Target}
use Rattle.fx_x64_forms.specs.declared.piece.Piece.{Piece}
use Rattle.fx_x64_code.specs.Spelling.{le32}
use Rattle.fx_linker_law.proofs.Quiet.{is_clean}
use Rattle.fx_templates_core.specs.declared.operands.Operand.{Operand}
use Rattle.fx_templates_core.specs.declared.operands.Operand.TheVariants.{Pending, Number, Local}
use Rattle.fx_templates_core.specs.Pieces.{plain, call, load_of, load_slot, spill, reload}
use Rattle.fx_templates_core.specs.Constants.{has_key, built, constant, immediate, is_immediate}
use Rattle.fx_templates_core.specs.Constants.{with_number}
use Rattle.fx_templates_core.specs.Operands.{fetch, fetched, combined, load_extended, fetch_count}
use Rattle.fx_templates_core.specs.Calls.{argument, load_arguments, arguments, call_with, return}
use Rattle.fx_templates_core.specs.Copying.{copy_ends, copy_byte, copied}
use Rattle.fx_templates_quiet_law.proofs.Numbers.{small_clean, unkeyed_word, immediate_clean}
use Rattle.fx_templates_quiet_law.proofs.Tested.{are_calm, both, first, HasSlots}

-- ---- slots

pub spill_calm : (locals count : ℕ) → HasSlots locals → count ≤ 1048576
    → are_calm (spill locals count) ≡ true
spill_calm locals zero slots few = refl
spill_calm locals (suc k) slots few = and_from _ true (slots k (omega arith)) refl

pub reload_calm : (locals count : ℕ) → HasSlots locals → count ≤ 1048576
    → are_calm (reload locals count) ≡ true
reload_calm locals zero slots few = refl
reload_calm locals (suc k) slots few = and_from _ true (slots k (omega arith)) refl

pub pushed : (locals count : ℕ) (ps : List Piece) → HasSlots locals → count ≤ 1048576
    → are_calm ps ≡ true → are_calm (spill locals count ++ ps) ≡ true
pushed locals count ps slots few rest =
    both (spill locals count) ps (spill_calm locals count slots few) rest

-- ---- variables

abbrev pub IsNearMem : Mem → Type 0
IsNearMem mem = is_clean (le32 mem.disp) ≡ true

pub load_of_calm : (w : Width) (dst : Reg) (mem : Mem) → IsNearMem mem
    → are_calm (plain (load_of w dst mem) ∷ []) ≡ true
load_of_calm W8 dst mem near = and_from _ true near refl
load_of_calm W16 dst mem near = and_from _ true near refl
load_of_calm W32 dst mem near = and_from _ true near refl
load_of_calm W64 dst mem near = and_from _ true near refl

load_extended_calm : (signed : Bool) (w : Width) (dst : Reg) (mem : Mem) → IsNearMem mem
    → are_calm (plain (load_extended signed w dst mem) ∷ []) ≡ true
load_extended_calm false w dst mem near = load_of_calm w dst mem near
load_extended_calm true W8 dst mem near = and_from _ true near refl
load_extended_calm true W16 dst mem near = and_from _ true near refl
load_extended_calm true W32 dst mem near = and_from _ true near refl
load_extended_calm true W64 dst mem near = and_from _ true near refl

-- ---- constants

part_clean : (n : ℕ) → is_clean (le32 (pos (n % 0x10000))) ≡ true
part_clean n = small_clean (n % 0x10000) (omega arith)

built_calm : (dst : Reg) (n : ℕ) → are_calm (built dst n) ≡ true
built_calm dst n =
    let a = is_clean (le32 (pos (n / 0x1000000000000 % 0x10000))) in
    let b = is_clean (le32 (pos (n / 0x100000000 % 0x10000))) in
    let c = is_clean (le32 (pos (n / 0x10000 % 0x10000))) in
    let d = is_clean (le32 (pos (n % 0x10000))) in
    and_from a (b && (c && (d && true))) (part_clean (n / 0x1000000000000))
    (and_from b (c && (d && true)) (part_clean (n / 0x100000000))
    (and_from c (d && true) (part_clean (n / 0x10000)) (and_from d true (part_clean n) refl)))

pub constant_calm : (dst : Reg) (n : ℕ) → are_calm (constant dst n) ≡ true
constant_calm dst n = by (has_key n) refl
  where
    by : (b : Bool) → has_key n ≡ b
        → are_calm (if b then built dst n else plain (inst.MovImm64 dst n) ∷ []) ≡ true
    by true e = built_calm dst n
    by false e = and_from _ true (unkeyed_word n e) refl

immediate_unkeyed : (w : Width) (n : ℕ) → is_immediate w n ≡ true → has_key n ≡ false
immediate_unkeyed W64 n room =
    not-true (has_key n)
    (and_parts (cast_unsigned w64 (immediate n) == n) (not (has_key n)) room).1
immediate_unkeyed W32 n room =
    not-true (has_key n) (and_parts (nat_lt n (2 ^ 32)) (not (has_key n)) room).1
immediate_unkeyed W16 n room = absurd (false≢true room)
immediate_unkeyed W8 n room = absurd (false≢true room)

pub with_number_calm : (op : AluOp) (w : Width) (n : ℕ) → are_calm (with_number op w n) ≡ true
with_number_calm op w n = by (is_immediate w n) refl
  where
    by : (b : Bool) → is_immediate w n ≡ b
        → are_calm (if b then plain (inst.AluImm op w Rax (immediate n)) ∷ []
        else constant Rcx n ++ plain (inst.Alu op w Rax Rcx) ∷ []) ≡ true
    by true e = and_from _ true (immediate_clean n (immediate_unkeyed w n e)) refl
    by false e =
        both (constant Rcx n) (plain (inst.Alu op w Rax Rcx) ∷ []) (constant_calm Rcx n) refl

-- ---- right operands

-- a variable near the frame pointer
abbrev pub IsNearOperand : Operand → Type 0
IsNearOperand Pending = Unit {0}
IsNearOperand (Number n) = Unit {0}
IsNearOperand (Local v) = IsNearMem v.mem

pub fetch_calm : (locals k : ℕ) (right : Operand) → HasSlots locals → k ≤ 1048576
    → IsNearOperand right → are_calm (fetch locals k right) ≡ true
fetch_calm locals k Pending slots few near = and_from _ true (slots k few) refl
fetch_calm locals k (Number n) slots few near = constant_calm Rcx n
fetch_calm locals k (Local v) slots few near = load_of_calm v.width Rcx v.mem near

pub fetch_count_calm : (locals k : ℕ) (right : Operand) → HasSlots locals → k ≤ 1048576
    → IsNearOperand right → are_calm (fetch_count locals k right) ≡ true
fetch_count_calm locals k Pending slots few near = and_from _ true (slots k few) refl
fetch_count_calm locals k (Number n) slots few near = constant_calm Rcx n
fetch_count_calm locals k (Local v) slots few near =
    load_extended_calm v.signed v.width Rcx v.mem near

fetched_calm : (op : AluOp) (w : Width) (locals k : ℕ) (right : Operand) → HasSlots locals
    → k ≤ 1048576 → IsNearOperand right → are_calm (fetched op w locals k right) ≡ true
fetched_calm op w locals k right slots few near =
    both (fetch locals k right) (plain (inst.Alu op w Rax Rcx) ∷ [])
    (fetch_calm locals k right slots few near) refl

pub combined_calm : (op : AluOp) (w : Width) (locals k : ℕ) (right : Operand) → HasSlots locals
    → k ≤ 1048576 → IsNearOperand right → are_calm (combined op w locals k right) ≡ true
combined_calm op w locals k Pending slots few near =
    fetched_calm op w locals k Pending slots few near
combined_calm op w locals k (Number n) slots few near = with_number_calm op w n
combined_calm op w locals k (Local v) slots few near =
    fetched_calm op w locals k (Local v) slots few near

-- ---- calls and copies

load_arguments_calm : (locals k i : ℕ) → HasSlots locals → k + i ≤ 1048576
    → are_calm (load_arguments locals k i) ≡ true
load_arguments_calm locals k zero slots few = refl
load_arguments_calm locals k (suc i) slots few =
    first (load_slot (argument i) locals (k + i)) (load_arguments locals k i)
    (slots (k + i) (omega arith)) (load_arguments_calm locals k i slots (omega arith))

arguments_calm : (locals k count : ℕ) → HasSlots locals → k + count ≤ 1048576
    → are_calm (arguments locals k count) ≡ true
arguments_calm locals k zero slots few = spill_calm locals k slots (omega arith)
arguments_calm locals k (suc i) slots few = load_arguments_calm locals k i slots (omega arith)

pub call_with_calm : (locals k count : ℕ) (to : Target) → HasSlots locals → k + count ≤ 1048576
    → are_calm (call_with locals k count to) ≡ true
call_with_calm locals k count to slots few =
    both (arguments locals k count) (call to ∷ []) (arguments_calm locals k count slots few) refl

pub return_calm : (due : Bool) (count : ℕ) → are_calm (return due count) ≡ true
return_calm true zero = refl
return_calm true (suc k) = refl
return_calm false count = refl

copy_ends_calm : (locals k bytes : ℕ) → HasSlots locals → k ≤ 1048576
    → are_calm (copy_ends locals k bytes) ≡ true
copy_ends_calm locals k bytes slots few =
    first (load_slot Rdx locals k) (constant R11 bytes) (slots k few) (constant_calm R11 bytes)

pub copied_calm : (here locals k bytes : ℕ) → HasSlots locals → k ≤ 1048576
    → are_calm (copied here locals k bytes) ≡ true
copied_calm here locals k bytes slots few =
    let ends : List Piece = copy_ends locals k bytes in
    let loop : List Piece = copy_byte (here + length ends) in
    both (ends ++ loop) (reload locals k)
    (both ends loop (copy_ends_calm locals k bytes slots few) refl)
    (reload_calm locals k slots few)
