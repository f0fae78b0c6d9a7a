-- The beginning of a function: whether its frame fits in the stack, the frame, zeroed locals and parameters.
use Rattle.std.specs.Prelude.{ℕ, ◌+◌, ◌-◌, ◌*◌, ◌/◌, zero, suc, pos, nat_lt, nat_le, if◌then◌else◌}
use Rattle.std.specs.Prelude.{List, [], ◌∷◌, ◌++◌, length, slice_get, Option, Some, None}
use Rattle.fx_x64_forms.specs.declared.operand.Width.TheVariants.{W64}
use Rattle.fx_x64_forms.specs.declared.operand.Reg.TheVariants.{Rax, Rsi, Rdi, Rsp, Rbp, R10, R11}
use Rattle.fx_x64_forms.specs.declared.operand.Mem.{Mem}
use Rattle.fx_x64_forms.specs.declared.operand.Cond.TheVariants.{Ae, Ne}
use Rattle.fx_x64_forms.specs.declared.inst.AluOp.TheVariants.{Add, Sub, Cmp}
use Rattle.fx_x64_forms.specs.declared.inst.Inst.TheVariants as inst
use Rattle.fx_x64_forms.specs.declared.piece.Piece.{Piece}
use Rattle.fx_shadow.specs.Stacks.{has_halves}
use Rattle.fx_match_rel.specs.declared.addresses.Addresses.{Addresses}
use Rattle.fx_match_rel.specs.declared.frames.Scalar.{Scalar}
use Rattle.fx_match_rel.specs.declared.frames.Slot.{Slot}
use Rattle.fx_match_rel.specs.declared.frames.FrameTable.{FrameTable}
use Rattle.fx_match_rel.specs.Addresses.{stack_span, stack_low}
use Rattle.fx_templates_core.specs.Pieces.{plain, set, copy, store, alu, alu_number, branch}
use Rattle.fx_templates_core.specs.Memory.{thread_number}
use Rattle.fx_templates_core.specs.Calls.{argument}
use Rattle.fx_templates_core.specs.Functions.{width_in}
use Rattle.fx_templates.specs.Variables.{slot_mem}

-- ---- the stack

-- from the stack of a compartment in one thread to that in the next
abbrev pub stride : Addresses → ℕ
stride a = if has_halves a.mechanism then a.compartments * stack_span a else stack_span a

-- The least RSP, in thread 0, with which a function may begin whose frame has so many bytes: 96 bytes stay below the
-- frame, of which the return address is there, and 32 above all frames.
abbrev pub least_pointer : Addresses → (compartment size : ℕ) → ℕ
least_pointer a compartment size = stack_low a 0 compartment + 56 + size

-- R10 to the least RSP in the running thread, whose number is in R11
abbrev pub to_least_pointer : Addresses → (compartment size : ℕ) → List Piece
to_least_pointer a compartment size =
    set R10 (pos (stride a)) ∷ plain (inst.Imul W64 R10 R11)
    ∷ alu_number Add R10 (pos (least_pointer a compartment size)) ∷ []

-- The running thread's number to R11, the least RSP in it to R10, and on to a piece where RSP isn't below.
abbrev pub test_room : Addresses → (compartment size over : ℕ) → List Piece
test_room a compartment size over =
    thread_number R11 R10 ++ to_least_pointer a compartment size
    ++ (alu Cmp Rsp R10 ∷ branch Ae over ∷ [])

-- the stack that is named where it is full: where there is one a thread, it is 0
abbrev pub named_stack : Addresses → ℕ → ℕ
named_stack a compartment = if has_halves a.mechanism then compartment else 0

-- the machine stops with 1, the thread and the stack
abbrev pub stack_full : Addresses → ℕ → List Piece
stack_full a compartment =
    set Rax (pos 1) ∷ copy Rdi R11 ∷ set Rsi (pos (named_stack a compartment)) ∷ plain inst.Hlt ∷ []

-- the saved frame pointer, and the bytes below it
abbrev pub make_frame : ℕ → List Piece
make_frame size = plain (inst.Push Rbp) ∷ copy Rbp Rsp ∷ alu_number Sub Rsp (pos (size - 16)) ∷ []

-- ---- parameters and locals; RAX is 0

-- so many words from R10 on, the last one first
abbrev pub zero_words : ℕ → List Piece
zero_words zero = []
zero_words (suc n) = store R10 (pos (8 * n)) Rax ∷ zero_words n

abbrev pub zero_round : ℕ → List Piece
zero_round n = set R11 (pos n) ∷ store R10 (pos 0) Rax ∷ store R10 (pos 8) Rax ∷ []

abbrev pub next_round : ℕ → List Piece
next_round top = alu_number Add R10 (pos 16) ∷ alu_number Sub R11 (pos 1) ∷ branch Ne top ∷ []

-- so many times sixteen bytes from R10 on, by a loop; these pieces begin at the piece `here`
abbrev pub zero_rounds : (here n : ℕ) → List Piece
zero_rounds here n = zero_round n ++ next_round (here + 1)

-- up to sixteen words without a loop
abbrev pub zero_bytes : (here bytes : ℕ) → List Piece
zero_bytes here bytes =
    if nat_le bytes 128 then zero_words (bytes / 8) else zero_rounds here (bytes / 16)

abbrev pub zero_block : (here : ℕ) → Mem → (bytes : ℕ) → List Piece
zero_block here mem bytes = plain (inst.Lea R10 mem) ∷ zero_bytes (here + 1) bytes

-- an integer or a pointer lies within a word
abbrev pub zero_local_as : (here : ℕ) → Mem → (bytes : ℕ) → Option Scalar → List Piece
zero_local_as here mem bytes None = zero_block here mem bytes
zero_local_as here mem bytes (Some s) = plain (inst.Store W64 mem Rax) ∷ []

abbrev pub zero_local : Addresses → (here : ℕ) → Slot → List Piece
zero_local a here s = zero_local_as here (slot_mem a s) s.room s.scalar

abbrev pub store_parameter : Addresses → ℕ → Slot → List Piece
store_parameter a i s = plain (inst.Store (width_in s.scalar) (slot_mem a s) (argument i)) ∷ []

-- slot i, of which the first so many are parameters
abbrev pub begin_slot : Addresses → (params here i : ℕ) → Slot → List Piece
begin_slot a params here i s =
    if nat_lt i params then store_parameter a i s else zero_local a here s

-- the slots from number i on
abbrev pub begin_slots : Addresses → (params here i : ℕ) → List Slot → List Piece
begin_slots a params here i [] = []
begin_slots a params here i (s ∷ ss) =
    begin_slot a params here i s
    ++ begin_slots a params (here + length (begin_slot a params here i s)) (i + 1) ss

-- RAX is 0 where there are locals
abbrev pub zero_first : (params count : ℕ) → List Piece
zero_first params count = if nat_lt params count then set Rax (pos 0) ∷ [] else []

-- ---- the whole, which begins at the piece `here`

-- up to the slots
abbrev pub open_frame : Addresses → (compartment here : ℕ) → FrameTable → List Piece
open_frame a compartment here t =
    test_room a compartment t.size (here + 12) ++ stack_full a compartment ++ make_frame t.size
    ++ zero_first t.params (length t.slots)

abbrev pub begins_as : Addresses → (compartment here : ℕ) → FrameTable → List Piece
begins_as a compartment here t =
    open_frame a compartment here t
    ++ begin_slots a t.params (here + length (open_frame a compartment here t)) 0 t.slots

abbrev pub begins_in : Addresses → (compartment here : ℕ) → Option FrameTable → List Piece
begins_in a compartment here None = []
begins_in a compartment here (Some t) = begins_as a compartment here t

-- the beginning of a function; one that isn't there has none
abbrev pub pieces_of_enter : Addresses → (compartment function here : ℕ) → List Piece
pieces_of_enter a compartment function here =
    begins_in a compartment here (slice_get a.frames function)
