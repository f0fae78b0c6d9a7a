-- Ops on constants, variables, memory and devices. So many operands are pending before an op that pushes; k stay behind
-- one that takes some.
use Rattle.std.specs.Prelude.{ℕ, ◌+◌, ◌*◌, pos, List, [], ◌∷◌, ◌++◌}
use Rattle.fx_x64_forms.specs.declared.operand.Width.{Width}
use Rattle.fx_x64_forms.specs.declared.operand.Reg.{Reg}
use Rattle.fx_x64_forms.specs.declared.operand.Reg.TheVariants.{Rax, Rcx}
use Rattle.fx_x64_forms.specs.declared.operand.Mem.{Mem}
use Rattle.fx_x64_forms.specs.declared.inst.AluOp.TheVariants as alu_op
use Rattle.fx_x64_forms.specs.declared.inst.Inst.TheVariants as inst
use Rattle.fx_x64_forms.specs.declared.piece.Piece.{Piece}
use Rattle.fx_templates_core.specs.Pieces.{plain, set, load, store, alu_number, load_slot, load_of}
use Rattle.fx_templates_core.specs.Pieces.{spill, reload}
use Rattle.fx_templates_core.specs.Constants.{constant}
use Rattle.fx_templates_core.specs.declared.operands.Variable.{Variable}

-- what a register points to
abbrev pub at_reg : Reg → Mem
at_reg base = record { base = base; disp = pos 0 }

abbrev pub push_number : (locals count n : ℕ) → List Piece
push_number locals count n = spill locals count ++ constant Rax n

abbrev pub push_address : (locals count : ℕ) → Mem → List Piece
push_address locals count mem = spill locals count ++ plain (inst.Lea Rax mem) ∷ []

abbrev pub push_variable : (locals count : ℕ) → Variable → List Piece
push_variable locals count v = spill locals count ++ plain (load_of v.width Rax v.mem) ∷ []

abbrev pub store_variable : (locals k : ℕ) → Variable → List Piece
store_variable locals k v = plain (inst.Store v.width v.mem Rax) ∷ reload locals k

abbrev pub load_through : Width → List Piece
load_through w = plain (load_of w Rax (at_reg Rax)) ∷ []

-- the pointer is in slot k, the value in RAX
abbrev pub store_through : Width → (locals k : ℕ) → List Piece
store_through w locals k =
    load_slot Rcx locals k ∷ plain (inst.Store w (at_reg Rcx) Rax) ∷ reload locals k

-- ---- devices and the running thread (this project's own layout)

-- where a register of a device is
abbrev pub device_place : (device register : ℕ) → ℕ
device_place device register = 0xf100000 + 0x1000 * device + 8 * register

abbrev pub device_load : (locals count device register : ℕ) → List Piece
device_load locals count device register =
    spill locals count ++ set Rax (pos (device_place device register)) ∷ load Rax Rax (pos 0) ∷ []

-- what stays in RAX stands for the value Void
abbrev pub device_store : (device register : ℕ) → List Piece
device_store device register =
    set Rcx (pos (device_place device register)) ∷ store Rcx (pos 0) Rax ∷ []

-- where the running thread's number is
abbrev pub thread_place : ℕ
thread_place = 0xf000000

-- the running thread's number, of sixteen, by an address that stands in a register
abbrev pub thread_number : (dst base : Reg) → List Piece
thread_number dst base =
    set base (pos thread_place) ∷ load dst base (pos 0) ∷ alu_number alu_op.And dst (pos 15) ∷ []

abbrev pub push_thread : (locals count : ℕ) → List Piece
push_thread locals count = spill locals count ++ thread_number Rax Rax
