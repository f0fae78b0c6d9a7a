-- The machine code of each op. So many operands are pending before it: the latest one is in RAX, each other one in its
-- slot, each as its word, zero-extended; and so they are behind it.
use Rattle.std.specs.Prelude.{ℕ, ◌-◌, Bool, true, false, zero, suc, List, [], ◌∷◌, slice_get}
use Rattle.std.specs.Prelude.{slice_index, Option, Some, None}
use Rattle.fx_x64_forms.specs.declared.operand.Width.TheVariants.{W64}
use Rattle.fx_x64_forms.specs.declared.operand.Cond.{Cond}
use Rattle.fx_x64_forms.specs.declared.piece.Target.TheVariants.{Label}
use Rattle.fx_x64_forms.specs.declared.piece.Piece.{Piece}
use Rattle.fx_c_ast.specs.CheckedTrees.{TyTree}
use Rattle.fx_c_ast.specs.declared.operator.Binop.{Binop}
use Rattle.fx_c_ast.specs.declared.operator.IntType.{IntType}
use Rattle.fx_c_lin.specs.declared.op.Compared.{Compared}
use Rattle.fx_c_lin.specs.declared.op.Compared.TheVariants.{Integers, Pointers}
use Rattle.fx_c_lin.specs.declared.op.Right.{Right}
use Rattle.fx_c_lin.specs.Ops.{Op}
use Rattle.fx_c_lin.specs.Ops as op
use Rattle.fx_match_rel.specs.declared.addresses.Addresses.{Addresses}
use Rattle.fx_match_rel.specs.declared.frames.Scalar.{Scalar}
use Rattle.fx_match_rel.specs.declared.frames.FrameTable.{FrameTable}
use Rattle.fx_match_rel.specs.Frames.{width_of, is_signed, scalar_of}
use Rattle.fx_templates_core.specs.declared.operands.Operand.{Operand}
use Rattle.fx_templates_core.specs.Pieces.{jump, reload, nothing}
use Rattle.fx_templates_core.specs.Operands.{below_left}
use Rattle.fx_templates_core.specs.Cores.{condition, compared, binary, unary_of, compare_jump}
use Rattle.fx_templates_core.specs.Cores.{jump_zero, converted}
use Rattle.fx_templates_core.specs.Memory.{push_number, push_address, push_variable, store_variable}
use Rattle.fx_templates_core.specs.Memory.{load_through, store_through, device_load, device_store}
use Rattle.fx_templates_core.specs.Memory.{push_thread}
use Rattle.fx_templates_core.specs.Pointers.{index, index_left, back, difference, offset}
use Rattle.fx_templates_core.specs.Copying.{copied}
use Rattle.fx_templates_core.specs.Calls.{return, switch, spawn}
use Rattle.fx_templates_core.specs.Functions.{width_in, called}
use Rattle.fx_templates.specs.Variables.{variable_at, operand_of, operator_width}

-- whether a function gives a result
abbrev pub is_due : Option Scalar → Bool
is_due None = false
is_due (Some s) = true

-- A value is dropped, and k operands stay.
abbrev pub dropped : (locals k : ℕ) → List Piece
dropped locals zero = nothing
dropped locals (suc k) = reload locals (suc k)

abbrev pub binary_with : Binop → IntType → (locals count : ℕ) → Operand → List Piece
binary_with o i locals count right =
    binary o (is_signed i) (operator_width i) locals (below_left right count) right

-- pointers are compared as unsigned words
abbrev pub pointers_with : Binop → (locals count : ℕ) → Operand → List Piece
pointers_with o locals count right =
    compared (condition false o) W64 locals (below_left right count) right

abbrev pub compare_jump_with : Binop → Compared → (locals count : ℕ) → Operand → ℕ → List Piece
compare_jump_with o (Integers i) locals count right to =
    compare_jump (condition (is_signed i) o) (operator_width i) locals (below_left right count)
    right to
compare_jump_with o Pointers locals count right to =
    compare_jump (condition false o) W64 locals (below_left right count) right to

abbrev pub index_with : (bytes locals count : ℕ) → Operand → List Piece
index_with bytes locals count right = index bytes locals (below_left right count) right

-- The code of an op of a function whose table is t. It begins at the piece `here` of its list; an op that jumps leads to
-- the piece `label`. What a gate becomes depends on the mechanism, and isn't defined here.
abbrev pub code_of : Addresses → FrameTable → (here label count : ℕ) → Op → List Piece
code_of a t here label count (op.Number w) = push_number t.locals count w
code_of a t here label count (op.LocalAddr n) =
    push_address t.locals count (variable_at a t.slots n).mem
code_of a t here label count (op.LoadLocal n) =
    push_variable t.locals count (variable_at a t.slots n)
code_of a t here label count (op.StoreLocal n) =
    store_variable t.locals (count - 1) (variable_at a t.slots n)
code_of a t here label count (op.GlobalAddr n) =
    push_number t.locals count (slice_index a.globals n)
code_of a t here label count (op.LiteralAddr n) =
    push_number t.locals count (slice_index a.literals n)
code_of a t here label count (op.Load ty) = load_through (width_in (scalar_of ty))
code_of a t here label count (op.Store ty) =
    store_through (width_in (scalar_of ty)) t.locals (count - 2)
code_of a t here label count (op.Copy bytes) = copied here t.locals (count - 2) bytes
code_of a t here label count (op.Unary o i) = unary_of o (operator_width i)
code_of a t here label count (op.Binary o i right) =
    binary_with o i t.locals count (operand_of a t.slots right)
code_of a t here label count (op.PtrCompare o right) =
    pointers_with o t.locals count (operand_of a t.slots right)
code_of a t here label count (op.CompareJump o of right to) = compare_jump_with o of t.locals count (operand_of a t.slots right) label
code_of a t here label count (op.Convert from to) =
    converted (width_of from) (is_signed from) (width_of to)
code_of a t here label count (op.Index bytes right) =
    index_with bytes t.locals count (operand_of a t.slots right)
code_of a t here label count (op.IndexLeft bytes) = index_left bytes t.locals (count - 2)
code_of a t here label count (op.Back bytes) = back bytes t.locals (count - 2)
code_of a t here label count (op.Difference bytes) = difference bytes t.locals (count - 2)
code_of a t here label count (op.Offset bytes) = offset bytes
code_of a t here label count (op.Jump to) = jump (Label label) ∷ []
code_of a t here label count (op.JumpZero to) = jump_zero t.locals (count - 1) label
code_of a t here label count (op.Call f) = called a t.locals count f
code_of a t here label count (op.Gate f) = []
code_of a t here label count (op.Spawn f) = spawn here f
code_of a t here label count op.Switch = switch
code_of a t here label count op.Me = push_thread t.locals count
code_of a t here label count (op.DevLoad device register) =
    device_load t.locals count device register
code_of a t here label count (op.DevStore device register) = device_store device register
code_of a t here label count op.Getc = device_load t.locals count 0 0
code_of a t here label count op.Putc = device_store 0 0
code_of a t here label count op.Drop = dropped t.locals (count - 1)
code_of a t here label count op.Return = return (is_due t.result) count

abbrev pub code_in : Addresses → (here label count : ℕ) → Op → Option FrameTable → List Piece
code_in a here label count o None = []
code_in a here label count o (Some t) = code_of a t here label count o

-- the code of an op of a function; a function that isn't there has none
abbrev pub pieces_of : Addresses → (function here label count : ℕ) → Op → List Piece
pieces_of a function here label count o = code_in a here label count o (slice_get a.frames function)

-- a gate's code is written by the crate of its mechanism
abbrev pub IsNoGate : Op → Type 0
IsNoGate (op.Gate f) = ⊥
IsNoGate o = Unit {0}
