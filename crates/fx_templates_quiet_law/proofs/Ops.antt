-- The pieces of ops, op by op.
use Rattle.std.proofs.Common.{◌≡◌, ◌≤◌, ◌-◌, ℕ, zero, suc, pos, Bool, true, false, ◌&&◌, List, []}
use Rattle.std.proofs.Common.{◌∷◌, slice_get, slice_index}
use Rattle.std.proofs.Common.{if◌then◌else◌, refl, arith}
use Rattle.std.specs.Prelude.{Option, Some, None, All, ◌-ℤ◌}
use Rattle.std.proofs.lemmas.Bool.{and_from}
use Rattle.std.proofs.lemmas.List.Elements.{All-head, All-tail}
use Rattle.fx_x64_forms.specs.declared.operand.Width.TheVariants.{W64}
use Rattle.fx_x64_forms.specs.declared.operand.Reg.TheVariants.{Rax, Rcx}
use Rattle.fx_x64_forms.specs.declared.inst.AluOp.TheVariants.{Add}
use Rattle.fx_x64_forms.specs.declared.inst.Inst.TheVariants as inst
use Rattle.fx_x64_forms.specs.declared.piece.Target.TheVariants.{Function}
use Rattle.fx_c_ast.specs.declared.operator.Binop.{Binop}
use Rattle.fx_c_lin.specs.declared.op.Compared.{Compared}
use Rattle.fx_c_lin.specs.declared.op.Compared.TheVariants.{Integers, Pointers}
use Rattle.fx_c_lin.specs.declared.op.Right.{Right}
use Rattle.fx_c_lin.specs.declared.op.Right.TheVariants as right
use Rattle.fx_c_lin.specs.Ops.{Op}
use Rattle.fx_c_lin.specs.Ops as op
use Rattle.fx_shadow.specs.Stacks.{has_halves}
use Rattle.fx_match_rel.specs.declared.addresses.Addresses.{Addresses}
use Rattle.fx_match_rel.specs.declared.frames.Slot.{Slot}
use Rattle.fx_match_rel.specs.declared.frames.FrameTable.{FrameTable}
use Rattle.fx_match_rel.specs.Addresses.{lift, stack_size}
use Rattle.fx_match_rel.specs.Frames.{width_of, is_signed, scalar_of, IsNear}
use Rattle.fx_templates_core.specs.declared.operands.Operand.{Operand}
use Rattle.fx_templates_core.specs.Pieces.{plain, set, load_of, load, load_slot, reload}
use Rattle.fx_templates_core.specs.Constants.{constant}
use Rattle.fx_templates_core.specs.Operands.{below_left}
use Rattle.fx_templates_core.specs.declared.operands.Operand.TheVariants as operand
use Rattle.fx_templates_core.specs.Cores.{condition}
use Rattle.fx_templates_core.specs.Memory.{at_reg, device_place, device_load, device_store}
use Rattle.fx_templates_core.specs.Memory.{thread_number}
use Rattle.fx_templates_core.specs.Functions.{width_in, params_in, params_at, called}
use Rattle.fx_templates.specs.Variables.{slot_mem, variable_in, variable_at, operand_of}
use Rattle.fx_templates.specs.Variables.{operator_width}
use Rattle.fx_templates.specs.Ops.{is_due, dropped, compare_jump_with, code_of, code_in, pieces_of}
use Rattle.fx_templates_quiet_law.specs.Quiet.{IsPlainFrame, ArePlain, HasRegister, OpsAreQuiet}
use Rattle.fx_templates_quiet_law.proofs.Numbers.{device_clean, apart_clean, slot_clean}
use Rattle.fx_templates_quiet_law.proofs.Tested.{are_calm, quiet, first, HasSlots}
use Rattle.fx_templates_quiet_law.proofs.Parts.{reload_calm, pushed, IsNearMem, load_of_calm}
use Rattle.fx_templates_quiet_law.proofs.Parts.{constant_calm, with_number_calm, IsNearOperand}
use Rattle.fx_templates_quiet_law.proofs.Parts.{call_with_calm, return_calm, copied_calm}
use Rattle.fx_templates_quiet_law.proofs.Operators.{compared_calm, binary_calm, unary_calm}
use Rattle.fx_templates_quiet_law.proofs.Operators.{compare_jump_calm, jump_zero_calm}
use Rattle.fx_templates_quiet_law.proofs.Operators.{converted_calm, index_calm, index_left_calm}
use Rattle.fx_templates_quiet_law.proofs.Operators.{back_calm, difference_calm}

-- ---- frames

pub has_slots : (t : FrameTable) → IsPlainFrame t → HasSlots t.locals
has_slots t is k few =
    let size = is.frame.size in
    let small = is.frame.small in
    slot_clean t.locals k is.even (omega arith)

-- what holds of an element of a list that is there
abbrev pub IfThere : {X : Type 0} → (X → Type 0) → Option X → Type 0
IfThere P None = Unit {0}
IfThere P (Some x) = P x

pub found : {X : Type 0} (P : X → Type 0) (xs : List X) (i : ℕ) → All P xs → IfThere P
    (slice_get xs i)
found P [] i all = tt
found P (x ∷ xs) zero all = All-head P x xs all
found P (x ∷ xs) (suc i) all = found P xs i (All-tail P x xs all)

-- ---- variables

lift_below : (a : Addresses) (shared : Bool) → a.stack_pages ≤ 64 → lift a shared ≤ 262144
lift_below a shared pages = by (shared && has_halves a.mechanism)
  where
    by : (b : Bool) → (if b then stack_size a else 0) ≤ 262144
    by true = omega arith
    by false = omega arith

pub slot_near : (a : Addresses) (s : Slot) → a.stack_pages ≤ 64 → IsNear s → IsNearMem
    (slot_mem a s)
slot_near a s pages near =
    apart_clean (pos (lift a s.shared) -ℤ pos s.below) (lift a s.shared) s.below refl
    (lift_below a s.shared pages) near.1

variable_near_in : (a : Addresses) (s : Option Slot) → a.stack_pages ≤ 64 → IfThere IsNear s
    → IsNearMem (variable_in a s).mem
variable_near_in a None pages near = refl
variable_near_in a (Some s) pages near = slot_near a s pages near

variable_near : (a : Addresses) (slots : List Slot) (n : ℕ) → a.stack_pages ≤ 64 → All IsNear slots
    → IsNearMem (variable_at a slots n).mem
variable_near a slots n pages all =
    variable_near_in a (slice_get slots n) pages (found IsNear slots n all)

operand_near : (a : Addresses) (slots : List Slot) (r : Right) → a.stack_pages ≤ 64
    → All IsNear slots → IsNearOperand (operand_of a slots r)
operand_near a slots right.Pending pages all = tt
operand_near a slots (right.Number n) pages all = tt
operand_near a slots (right.Local n) pages all = variable_near a slots n pages all

-- ---- counts

below_few : (right : Operand) (count : ℕ) → count ≤ 1048576 → below_left right count ≤ 1048576
below_few operand.Pending count few = omega arith
below_few (operand.Number n) count few = omega arith
below_few (operand.Local v) count few = omega arith

params_few : (a : Addresses) (f : ℕ) → ArePlain a → params_at a f ≤ 6
params_few a f is = by (slice_get a.frames f) (found IsPlainFrame a.frames f is.frames)
  where
    by : (t : Option FrameTable) → IfThere IsPlainFrame t → params_in t ≤ 6
    by None there = omega arith
    by (Some t) there = there.params

pub called_calm : (a : Addresses) (locals count f : ℕ) → ArePlain a → HasSlots locals
    → count ≤ 1048576 → are_calm (called a locals count f) ≡ true
called_calm a locals count f is slots few =
    let params = params_few a f is in
    call_with_calm locals (count - params_at a f) (params_at a f) (Function f) slots (omega arith)

-- ---- ops

compare_jump_with_calm : (o : Binop) (of : Compared) (locals count : ℕ) (right : Operand) (to : ℕ)
    → HasSlots locals → count ≤ 1048576 → IsNearOperand right
    → are_calm (compare_jump_with o of locals count right to) ≡ true
compare_jump_with_calm o (Integers i) locals count right to slots few near =
    compare_jump_calm (condition (is_signed i) o) (operator_width i) locals (below_left right count)
    right to slots (below_few right count few) near
compare_jump_with_calm o Pointers locals count right to slots few near =
    compare_jump_calm (condition false o) W64 locals (below_left right count) right to slots
    (below_few right count few) near

dropped_calm : (locals k : ℕ) → HasSlots locals → k ≤ 1048576
    → are_calm (dropped locals k) ≡ true
dropped_calm locals zero slots few = refl
dropped_calm locals (suc k) slots few = reload_calm locals (suc k) slots few

device_load_calm : (locals count device register : ℕ) → HasSlots locals → count ≤ 1048576
    → device ≤ 15 → register ≤ 511
    → are_calm (device_load locals count device register) ≡ true
device_load_calm locals count device register slots few one less =
    pushed locals count (set Rax (pos (device_place device register)) ∷ load Rax Rax (pos 0) ∷ [])
    slots few (and_from _ true (device_clean device register one less) refl)

device_store_calm : (device register : ℕ) → device ≤ 15 → register ≤ 511
    → are_calm (device_store device register) ≡ true
device_store_calm device register one less =
    and_from _ true (device_clean device register one less) refl

pub code_calm : (a : Addresses) (t : FrameTable) (here label count : ℕ) (o : Op) → ArePlain a
    → IsPlainFrame t → HasRegister o → count ≤ 1048576
    → are_calm (code_of a t here label count o) ≡ true
code_calm a t here label count (op.Number w) is frame has few =
    pushed t.locals count (constant Rax w) (has_slots t frame) few (constant_calm Rax w)
code_calm a t here label count (op.LocalAddr n) is frame has few =
    pushed t.locals count _ (has_slots t frame) few
    (and_from _ true (variable_near a t.slots n is.pages frame.frame.slots) refl)
code_calm a t here label count (op.LoadLocal n) is frame has few =
    let v = variable_at a t.slots n in
    pushed t.locals count (plain (load_of v.width Rax v.mem) ∷ []) (has_slots t frame) few
    (load_of_calm v.width Rax v.mem (variable_near a t.slots n is.pages frame.frame.slots))
code_calm a t here label count (op.StoreLocal n) is frame has few =
    and_from _ (are_calm (reload t.locals (count - 1)))
    (variable_near a t.slots n is.pages frame.frame.slots)
    (reload_calm t.locals (count - 1) (has_slots t frame) (omega arith))
code_calm a t here label count (op.GlobalAddr n) is frame has few =
    pushed t.locals count (constant Rax (slice_index a.globals n)) (has_slots t frame) few
    (constant_calm Rax (slice_index a.globals n))
code_calm a t here label count (op.LiteralAddr n) is frame has few =
    pushed t.locals count (constant Rax (slice_index a.literals n)) (has_slots t frame) few
    (constant_calm Rax (slice_index a.literals n))
code_calm a t here label count (op.Load ty) is frame has few =
    load_of_calm (width_in (scalar_of ty)) Rax (at_reg Rax) refl
code_calm a t here label count (op.Store ty) is frame has few =
    first (load_slot Rcx t.locals (count - 2))
    (plain (inst.Store (width_in (scalar_of ty)) (at_reg Rcx) Rax) ∷ reload t.locals (count - 2))
    (has_slots t frame (count - 2) (omega arith))
    (reload_calm t.locals (count - 2) (has_slots t frame) (omega arith))
code_calm a t here label count (op.Copy bytes) is frame has few =
    copied_calm here t.locals (count - 2) bytes (has_slots t frame) (omega arith)
code_calm a t here label count (op.Unary o i) is frame has few = unary_calm o (operator_width i)
code_calm a t here label count (op.Binary o i right) is frame has few =
    let r = operand_of a t.slots right in
    binary_calm o (is_signed i) (operator_width i) t.locals (below_left r count) r
    (has_slots t frame) (below_few r count few)
    (operand_near a t.slots right is.pages frame.frame.slots)
code_calm a t here label count (op.PtrCompare o right) is frame has few =
    let r = operand_of a t.slots right in
    compared_calm (condition false o) W64 t.locals (below_left r count) r (has_slots t frame)
    (below_few r count few) (operand_near a t.slots right is.pages frame.frame.slots)
code_calm a t here label count (op.CompareJump o of right to) is frame has few =
    compare_jump_with_calm o of t.locals count (operand_of a t.slots right) label
    (has_slots t frame) few (operand_near a t.slots right is.pages frame.frame.slots)
code_calm a t here label count (op.Convert from to) is frame has few =
    converted_calm (width_of from) (is_signed from) (width_of to)
code_calm a t here label count (op.Index bytes right) is frame has few =
    let r = operand_of a t.slots right in
    index_calm bytes t.locals (below_left r count) r (has_slots t frame) (below_few r count few)
    (operand_near a t.slots right is.pages frame.frame.slots)
code_calm a t here label count (op.IndexLeft bytes) is frame has few =
    index_left_calm bytes t.locals (count - 2) (has_slots t frame) (omega arith)
code_calm a t here label count (op.Back bytes) is frame has few =
    back_calm bytes t.locals (count - 2) (has_slots t frame) (omega arith)
code_calm a t here label count (op.Difference bytes) is frame has few =
    difference_calm bytes t.locals (count - 2) (has_slots t frame) (omega arith)
code_calm a t here label count (op.Offset bytes) is frame has few = with_number_calm Add W64 bytes
code_calm a t here label count (op.Jump to) is frame has few = refl
code_calm a t here label count (op.JumpZero to) is frame has few =
    jump_zero_calm t.locals (count - 1) label (has_slots t frame) (omega arith)
code_calm a t here label count (op.Call f) is frame has few =
    called_calm a t.locals count f is (has_slots t frame) few
code_calm a t here label count (op.Gate f) is frame has few = refl
code_calm a t here label count (op.Spawn f) is frame has few = refl
code_calm a t here label count op.Switch is frame has few = refl
code_calm a t here label count op.Me is frame has few =
    pushed t.locals count (thread_number Rax Rax) (has_slots t frame) few refl
code_calm a t here label count (op.DevLoad device register) is frame has few =
    device_load_calm t.locals count device register (has_slots t frame) few has.0 has.1
code_calm a t here label count (op.DevStore device register) is frame has few =
    device_store_calm device register has.0 has.1
code_calm a t here label count op.Getc is frame has few =
    device_load_calm t.locals count 0 0 (has_slots t frame) few (omega arith) (omega arith)
code_calm a t here label count op.Putc is frame has few = refl
code_calm a t here label count op.Drop is frame has few =
    dropped_calm t.locals (count - 1) (has_slots t frame) (omega arith)
code_calm a t here label count op.Return is frame has few = return_calm (is_due t.result) count

in_calm : (a : Addresses) (here label count : ℕ) (o : Op) (t : Option FrameTable) → ArePlain a
    → IfThere IsPlainFrame t → HasRegister o → count ≤ 1048576
    → are_calm (code_in a here label count o t) ≡ true
in_calm a here label count o None is there has few = refl
in_calm a here label count o (Some t) is there has few =
    code_calm a t here label count o is there has few

pub ops_quiet : OpsAreQuiet
ops_quiet a function here label count o is has few =
    quiet (pieces_of a function here label count o)
    (in_calm a here label count o (slice_get a.frames function) is
    (found IsPlainFrame a.frames function is.frames) has few)
