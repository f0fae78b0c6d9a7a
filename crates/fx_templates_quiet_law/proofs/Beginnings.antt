-- The pieces of beginnings, part by part.
use Rattle.std.proofs.Common.{◌≡◌, ◌≤◌, ◌+◌, ◌-◌, ◌*◌, ◌/◌, ℕ, zero, suc, pos, Bool, true, false}
use Rattle.std.proofs.Common.{◌&&◌, nat_lt, nat_le, List, [], ◌∷◌, ◌++◌, length, slice_get}
use Rattle.std.proofs.Common.{if◌then◌else◌, refl, arith, mul-le-mul}
use Rattle.std.specs.Prelude.{Option, Some, None, All}
use Rattle.std.proofs.lemmas.Bool.{and_from}
use Rattle.std.proofs.lemmas.List.Elements.{All-head, All-tail}
use Rattle.fx_x64_forms.specs.declared.operand.Mem.{Mem}
use Rattle.fx_x64_forms.specs.declared.operand.Reg.TheVariants.{Rax, R10}
use Rattle.fx_x64_forms.specs.declared.piece.Piece.{Piece}
use Rattle.fx_x64_code.specs.Spelling.{le32}
use Rattle.fx_linker_law.proofs.Quiet.{is_clean}
use Rattle.fx_shadow.specs.Stacks.{has_halves}
use Rattle.fx_match_rel.specs.declared.addresses.Addresses.{Addresses}
use Rattle.fx_match_rel.specs.declared.frames.Scalar.{Scalar}
use Rattle.fx_match_rel.specs.declared.frames.Slot.{Slot}
use Rattle.fx_match_rel.specs.declared.frames.FrameTable.{FrameTable}
use Rattle.fx_match_rel.specs.Addresses.{stack_span, stack_number}
use Rattle.fx_match_rel.specs.Frames.{IsNear}
use Rattle.fx_templates_core.specs.Pieces.{set, store}
use Rattle.fx_templates.specs.Variables.{slot_mem}
use Rattle.fx_templates.specs.Beginnings.{stride, least_pointer, test_room, named_stack, stack_full}
use Rattle.fx_templates.specs.Beginnings.{make_frame, zero_words, zero_rounds, zero_bytes}
use Rattle.fx_templates.specs.Beginnings.{zero_local_as, store_parameter, zero_local, begin_slot}
use Rattle.fx_templates.specs.Beginnings.{begin_slots, zero_first, open_frame, begins_in}
use Rattle.fx_templates.specs.Beginnings.{pieces_of_enter}
use Rattle.fx_templates_quiet_law.specs.Quiet.{IsPlainFrame, ArePlain, BeginningsAreQuiet}
use Rattle.fx_templates_quiet_law.proofs.Numbers.{number_clean, small_clean}
use Rattle.fx_templates_quiet_law.proofs.Tested.{are_calm, quiet, both, first, either}
use Rattle.fx_templates_quiet_law.proofs.Parts.{IsNearMem}
use Rattle.fx_templates_quiet_law.proofs.Ops.{IfThere, found, slot_near}

-- ---- the stack

span_below : (a : Addresses) → a.stack_pages ≤ 64 → stack_span a ≤ 532480
span_below a pages = omega arith

-- so many spans
spans_below : (a : Addresses) (n : ℕ) → a.stack_pages ≤ 64 → n ≤ 16 → n * stack_span a ≤ 8519680
spans_below a n pages few = mul-le-mul few (span_below a pages)

stride_below : (a : Addresses) → ArePlain a → stride a ≤ 8519680
stride_below a is = by (has_halves a.mechanism)
  where
    by : (b : Bool) → (if b then a.compartments * stack_span a else stack_span a) ≤ 8519680
    by true = spans_below a a.compartments is.pages is.compartments
    by false = let span = span_below a is.pages in omega arith

number_below : (a : Addresses) (c : ℕ) → c ≤ 16 → stack_number a 0 c ≤ 16
number_below a c few = by (has_halves a.mechanism)
  where
    by : (b : Bool) → (if b then 0 * a.compartments + c else 0) ≤ 16
    by true = omega arith
    by false = omega arith

least_clean : (a : Addresses) (c size : ℕ) → ArePlain a → c ≤ 16 → size ≤ 65536
    → is_clean (le32 (pos (least_pointer a c size))) ≡ true
least_clean a c size is few small =
    let far = stack_number a 0 c * stack_span a in
    let near : far ≤ 8519680 = spans_below a (stack_number a 0 c) is.pages (number_below a c few) in
    number_clean (0x20001000 + far + 56 + size) (λ e. omega (arith, e)) (λ e. omega (arith, e))

test_room_calm : (a : Addresses) (c size over : ℕ) → ArePlain a → c ≤ 16 → size ≤ 65536
    → are_calm (test_room a c size over) ≡ true
test_room_calm a c size over is few small =
    let far = stride_below a is in
    and_from _ (is_clean (le32 (pos (least_pointer a c size))) && true)
    (small_clean (stride a) (omega arith))
    (and_from _ true (least_clean a c size is few small) refl)

named_below : (a : Addresses) (c : ℕ) → c ≤ 16 → named_stack a c ≤ 16
named_below a c few = by (has_halves a.mechanism)
  where
    by : (b : Bool) → (if b then c else 0) ≤ 16
    by true = few
    by false = omega arith

stack_full_calm : (a : Addresses) (c : ℕ) → c ≤ 16 → are_calm (stack_full a c) ≡ true
stack_full_calm a c few =
    let small = named_below a c few in
    and_from _ true (small_clean (named_stack a c) (omega arith)) refl

make_frame_calm : (size : ℕ) → size ≤ 65536 → are_calm (make_frame size) ≡ true
make_frame_calm size small = and_from _ true (small_clean (size - 16) (omega arith)) refl

-- ---- parameters and locals

zero_words_calm : (count : ℕ) → count ≤ 65536 → are_calm (zero_words count) ≡ true
zero_words_calm zero few = refl
zero_words_calm (suc n) few =
    first (store R10 (pos (8 * n)) Rax) (zero_words n) (small_clean (8 * n) (omega arith))
    (zero_words_calm n (omega arith))

zero_bytes_calm : (here bytes : ℕ) → bytes ≤ 65536 → are_calm (zero_bytes here bytes) ≡ true
zero_bytes_calm here bytes few =
    either (nat_le bytes 128) (zero_words (bytes / 8)) (zero_rounds here (bytes / 16))
    (zero_words_calm (bytes / 8) (omega arith))
    (and_from _ true (small_clean (bytes / 16) (omega arith)) refl)

zero_local_calm : (here : ℕ) (mem : Mem) (bytes : ℕ) (s : Option Scalar) → IsNearMem mem
    → bytes ≤ 65536 → are_calm (zero_local_as here mem bytes s) ≡ true
zero_local_calm here mem bytes None near few =
    and_from _ (are_calm (zero_bytes (here + 1) bytes)) near (zero_bytes_calm (here + 1) bytes few)
zero_local_calm here mem bytes (Some s) near few = and_from _ true near refl

begin_slot_calm : (a : Addresses) (params here i : ℕ) (s : Slot) → a.stack_pages ≤ 64 → IsNear s
    → are_calm (begin_slot a params here i s) ≡ true
begin_slot_calm a params here i s pages near =
    either (nat_lt i params) (store_parameter a i s) (zero_local a here s)
    (and_from _ true (slot_near a s pages near) refl)
    (zero_local_calm here (slot_mem a s) s.room s.scalar (slot_near a s pages near)
    (omega (arith, near.1, near.2)))

begin_slots_calm : (a : Addresses) (params here i : ℕ) (ss : List Slot) → a.stack_pages ≤ 64
    → All IsNear ss → are_calm (begin_slots a params here i ss) ≡ true
begin_slots_calm a params here i [] pages near = refl
begin_slots_calm a params here i (s ∷ ss) pages near =
    let one : List Piece = begin_slot a params here i s in
    both one (begin_slots a params (here + length one) (i + 1) ss)
    (begin_slot_calm a params here i s pages (All-head IsNear s ss near))
    (begin_slots_calm a params (here + length one) (i + 1) ss pages (All-tail IsNear s ss near))

-- ---- the whole

open_frame_calm : (a : Addresses) (c here : ℕ) (t : FrameTable) → ArePlain a → c ≤ 16
    → IsPlainFrame t → are_calm (open_frame a c here t) ≡ true
open_frame_calm a c here t is few frame =
    let room : List Piece = test_room a c t.size (here + 12) in
    let full : List Piece = stack_full a c in
    let made : List Piece = make_frame t.size in
    let zeroed : List Piece = zero_first t.params (length t.slots) in
    both (room ++ full ++ made) zeroed
    (both (room ++ full) made
    (both room full (test_room_calm a c t.size (here + 12) is few frame.frame.small)
    (stack_full_calm a c few))
    (make_frame_calm t.size frame.frame.small))
    (either (nat_lt t.params (length t.slots)) (set Rax (pos 0) ∷ []) [] refl refl)

begins_calm : (a : Addresses) (c here : ℕ) (t : Option FrameTable) → ArePlain a → c ≤ 16
    → IfThere IsPlainFrame t → are_calm (begins_in a c here t) ≡ true
begins_calm a c here None is few there = refl
begins_calm a c here (Some t) is few there =
    let opened : List Piece = open_frame a c here t in
    both opened (begin_slots a t.params (here + length opened) 0 t.slots)
    (open_frame_calm a c here t is few there)
    (begin_slots_calm a t.params (here + length opened) 0 t.slots is.pages there.frame.slots)

pub beginnings_quiet : BeginningsAreQuiet
beginnings_quiet a compartment function here is few =
    quiet (pieces_of_enter a compartment function here)
    (begins_calm a compartment here (slice_get a.frames function) is few
    (found IsPlainFrame a.frames function is.frames))
