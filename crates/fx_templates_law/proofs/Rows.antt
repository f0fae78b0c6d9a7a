-- The pieces of ops and of beginnings, op by op and part by part.
use Rattle.std.proofs.Common.{◌≡◌, ℕ, ◌+◌, ◌-◌, ◌/◌, zero, suc, pos, true, false, nat_lt, nat_le, List, [], ◌∷◌, length, slice_get, slice_index, refl}
use Rattle.std.specs.Prelude.{Option, Some, None}
use Rattle.fx_x64_forms.specs.declared.operand.Width.{Width}
use Rattle.fx_x64_forms.specs.declared.operand.Width.TheVariants.{W8, W16, W32, W64}
use Rattle.fx_x64_forms.specs.declared.operand.Mem.{Mem}
use Rattle.fx_x64_forms.specs.declared.operand.Reg.TheVariants.{Rax}
use Rattle.fx_x64_forms.specs.declared.inst.AluOp.TheVariants.{Add}
use Rattle.fx_x64_code.specs.Spelling.{is_wide}
use Rattle.fx_c_ast.specs.declared.operator.Binop.{Binop}
use Rattle.fx_c_lin.specs.declared.op.Compared.{Compared}
use Rattle.fx_c_lin.specs.declared.op.Compared.TheVariants.{Integers, Pointers}
use Rattle.fx_c_lin.specs.Ops.{Op}
use Rattle.fx_c_lin.specs.Ops as op
use Rattle.fx_match_rel.specs.declared.addresses.Addresses.{Addresses}
use Rattle.fx_match_rel.specs.declared.frames.Scalar.{Scalar}
use Rattle.fx_match_rel.specs.declared.frames.Slot.{Slot}
use Rattle.fx_match_rel.specs.declared.frames.FrameTable.{FrameTable}
use Rattle.fx_match_rel.specs.Frames.{width_of, is_signed, scalar_of}
use Rattle.fx_templates_core.specs.declared.operands.Operand.{Operand}
use Rattle.fx_templates_core.specs.Pieces.{set, plain, load_of}
use Rattle.fx_templates_core.specs.Constants.{constant}
use Rattle.fx_templates_core.specs.Operands.{below_left}
use Rattle.fx_templates_core.specs.Cores.{condition}
use Rattle.fx_templates_core.specs.Memory.{at_reg, thread_number}
use Rattle.fx_templates_core.specs.Functions.{width_in, params_at}
use Rattle.fx_linker.specs.Linked.{AreRows}
use Rattle.fx_templates.specs.Variables.{variable_at, operand_of, operator_width, promoted, slot_mem}
use Rattle.fx_templates.specs.Ops.{is_due, dropped, compare_jump_with, code_of, code_in, pieces_of}
use Rattle.fx_templates.specs.Beginnings.{open_frame, zero_words, zero_rounds, zero_bytes, zero_local_as, begin_slot, store_parameter, zero_local, begin_slots, begins_in, pieces_of_enter}
use Rattle.fx_templates_law.proofs.Tested.{are_rows, rows, both, either}
use Rattle.fx_templates_law.proofs.Parts.{reload_rows, pushed, load_of_rows, constant_rows, with_number_rows, call_with_rows, return_rows, copied_rows}
use Rattle.fx_templates_law.proofs.Operators.{compared_rows, binary_rows, unary_rows, compare_jump_rows, jump_zero_rows, converted_rows, index_rows, index_left_rows, back_rows, difference_rows}

-- ---- ops

promoted_wide : (w : Width) → is_wide (promoted w) ≡ true
promoted_wide W64 = refl
promoted_wide W32 = refl
promoted_wide W16 = refl
promoted_wide W8 = refl

compare_jump_with_rows : (o : Binop) (of : Compared) (locals count : ℕ) (right : Operand) (to : ℕ) → are_rows (compare_jump_with o of locals count right to) ≡ true
compare_jump_with_rows o (Integers i) locals count right to =
    compare_jump_rows (condition (is_signed i) o) (operator_width i) locals (below_left right count) right to (promoted_wide (width_of i))
compare_jump_with_rows o Pointers locals count right to = compare_jump_rows (condition false o) W64 locals (below_left right count) right to refl

dropped_rows : (locals k : ℕ) → are_rows (dropped locals k) ≡ true
dropped_rows locals zero = refl
dropped_rows locals (suc k) = refl

code_rows : (a : Addresses) (t : FrameTable) (here label count : ℕ) (o : Op) → are_rows (code_of a t here label count o) ≡ true
code_rows a t here label count (op.Number w) = pushed t.locals count (constant Rax w) (constant_rows Rax w)
code_rows a t here label count (op.LocalAddr n) = pushed t.locals count _ refl
code_rows a t here label count (op.LoadLocal n) =
    let v = variable_at a t.slots n in pushed t.locals count (plain (load_of v.width Rax v.mem) ∷ []) (load_of_rows v.width Rax v.mem)
code_rows a t here label count (op.StoreLocal n) = reload_rows t.locals (count - 1)
code_rows a t here label count (op.GlobalAddr n) = pushed t.locals count (constant Rax (slice_index a.globals n)) (constant_rows Rax (slice_index a.globals n))
code_rows a t here label count (op.LiteralAddr n) = pushed t.locals count (constant Rax (slice_index a.literals n)) (constant_rows Rax (slice_index a.literals n))
code_rows a t here label count (op.Load ty) = load_of_rows (width_in (scalar_of ty)) Rax (at_reg Rax)
code_rows a t here label count (op.Store ty) = reload_rows t.locals (count - 2)
code_rows a t here label count (op.Copy bytes) = copied_rows here t.locals (count - 2) bytes
code_rows a t here label count (op.Unary o i) = unary_rows o (operator_width i) (promoted_wide (width_of i))
code_rows a t here label count (op.Binary o i right) =
    let r = operand_of a t.slots right in
    binary_rows o (is_signed i) (operator_width i) t.locals (below_left r count) r (promoted_wide (width_of i))
code_rows a t here label count (op.PtrCompare o right) =
    let r = operand_of a t.slots right in compared_rows (condition false o) W64 t.locals (below_left r count) r refl
code_rows a t here label count (op.CompareJump o of right to) = compare_jump_with_rows o of t.locals count (operand_of a t.slots right) label
code_rows a t here label count (op.Convert from to) = converted_rows (width_of from) (is_signed from) (width_of to)
code_rows a t here label count (op.Index bytes right) =
    let r = operand_of a t.slots right in index_rows bytes t.locals (below_left r count) r
code_rows a t here label count (op.IndexLeft bytes) = index_left_rows bytes t.locals (count - 2)
code_rows a t here label count (op.Back bytes) = back_rows bytes t.locals (count - 2)
code_rows a t here label count (op.Difference bytes) = difference_rows bytes t.locals (count - 2)
code_rows a t here label count (op.Offset bytes) = with_number_rows Add W64 bytes refl refl
code_rows a t here label count (op.Jump to) = refl
code_rows a t here label count (op.JumpZero to) = jump_zero_rows t.locals (count - 1) label
code_rows a t here label count (op.Call f) = call_with_rows t.locals (count - params_at a f) (params_at a f) _
code_rows a t here label count (op.Gate f) = refl
code_rows a t here label count (op.Spawn f) = refl
code_rows a t here label count op.Switch = refl
code_rows a t here label count op.Me = pushed t.locals count (thread_number Rax Rax) refl
code_rows a t here label count (op.DevLoad device register) = pushed t.locals count _ refl
code_rows a t here label count (op.DevStore device register) = refl
code_rows a t here label count op.Getc = pushed t.locals count _ refl
code_rows a t here label count op.Putc = refl
code_rows a t here label count op.Drop = dropped_rows t.locals (count - 1)
code_rows a t here label count op.Return = return_rows (is_due t.result) count

in_rows : (a : Addresses) (here label count : ℕ) (o : Op) (t : Option FrameTable) → are_rows (code_in a here label count o t) ≡ true
in_rows a here label count o None = refl
in_rows a here label count o (Some t) = code_rows a t here label count o

pub pieces_of_rows : (a : Addresses) (function here label count : ℕ) (o : Op) → AreRows (pieces_of a function here label count o)
pieces_of_rows a function here label count o =
    rows (pieces_of a function here label count o) (in_rows a here label count o (slice_get a.frames function))

-- ---- beginnings

zero_words_rows : (count : ℕ) → are_rows (zero_words count) ≡ true
zero_words_rows zero = refl
zero_words_rows (suc n) = zero_words_rows n

zero_bytes_rows : (here bytes : ℕ) → are_rows (zero_bytes here bytes) ≡ true
zero_bytes_rows here bytes =
    either (nat_le bytes 128) (zero_words (bytes / 8)) (zero_rounds here (bytes / 16)) (zero_words_rows (bytes / 8)) refl

zero_local_rows : (here : ℕ) (mem : Mem) (bytes : ℕ) (s : Option Scalar) → are_rows (zero_local_as here mem bytes s) ≡ true
zero_local_rows here mem bytes None = zero_bytes_rows (here + 1) bytes
zero_local_rows here mem bytes (Some s) = refl

begin_slot_rows : (a : Addresses) (params here i : ℕ) (s : Slot) → are_rows (begin_slot a params here i s) ≡ true
begin_slot_rows a params here i s =
    either (nat_lt i params) (store_parameter a i s) (zero_local a here s) refl (zero_local_rows here (slot_mem a s) s.room s.scalar)

begin_slots_rows : (a : Addresses) (params here i : ℕ) (ss : List Slot) → are_rows (begin_slots a params here i ss) ≡ true
begin_slots_rows a params here i [] = refl
begin_slots_rows a params here i (s ∷ ss) =
    both (begin_slot a params here i s) (begin_slots a params (here + length (begin_slot a params here i s)) (i + 1) ss)
    (begin_slot_rows a params here i s)
    (begin_slots_rows a params (here + length (begin_slot a params here i s)) (i + 1) ss)

open_frame_rows : (a : Addresses) (compartment here : ℕ) (t : FrameTable) → are_rows (open_frame a compartment here t) ≡ true
open_frame_rows a compartment here t = either (nat_lt t.params (length t.slots)) (set Rax (pos 0) ∷ []) [] refl refl

begins_rows : (a : Addresses) (compartment here : ℕ) (t : Option FrameTable) → are_rows (begins_in a compartment here t) ≡ true
begins_rows a compartment here None = refl
begins_rows a compartment here (Some t) =
    both (open_frame a compartment here t) (begin_slots a t.params (here + length (open_frame a compartment here t)) 0 t.slots)
    (open_frame_rows a compartment here t)
    (begin_slots_rows a t.params (here + length (open_frame a compartment here t)) 0 t.slots)

pub pieces_of_enter_rows : (a : Addresses) (compartment function here : ℕ) → AreRows (pieces_of_enter a compartment function here)
pieces_of_enter_rows a compartment function here =
    rows (pieces_of_enter a compartment function here) (begins_rows a compartment here (slice_get a.frames function))
