-- Where the variables of a function stand beside its frame pointer, and how values of types are held.
use Rattle.std.specs.Prelude.{ℕ, Bool, true, false, pos, ◌-ℤ◌, List, slice_get, Option, Some, None}
use Rattle.fx_x64_forms.specs.declared.operand.Width.{Width}
use Rattle.fx_x64_forms.specs.declared.operand.Width.TheVariants.{W8, W16, W32, W64}
use Rattle.fx_x64_forms.specs.declared.operand.Reg.TheVariants.{Rbp}
use Rattle.fx_x64_forms.specs.declared.operand.Mem.{Mem}
use Rattle.fx_c_ast.specs.declared.operator.IntType.{IntType}
use Rattle.fx_c_lin.specs.declared.op.Right.{Right}
use Rattle.fx_c_lin.specs.declared.op.Right.TheVariants as right
use Rattle.fx_match_rel.specs.declared.addresses.Addresses.{Addresses}
use Rattle.fx_match_rel.specs.declared.frames.Scalar.{Scalar}
use Rattle.fx_match_rel.specs.declared.frames.Slot.{Slot}
use Rattle.fx_match_rel.specs.Addresses.{lift}
use Rattle.fx_match_rel.specs.Frames.{width_of}
use Rattle.fx_templates_core.specs.Functions.{width_in}
use Rattle.fx_templates_core.specs.declared.operands.Variable.{Variable}
use Rattle.fx_templates_core.specs.declared.operands.Operand.{Operand}
use Rattle.fx_templates_core.specs.declared.operands.Operand.TheVariants as operand

abbrev pub signed_in : Option Scalar → Bool
signed_in None = false
signed_in (Some s) = s.signed

-- a shared variable stands higher where stacks have halves
abbrev pub slot_mem : Addresses → Slot → Mem
slot_mem a s = record { base = Rbp; disp = pos (lift a s.shared) -ℤ pos s.below }

abbrev pub variable_of : Addresses → Slot → Variable
variable_of a s =
    record { mem = slot_mem a s; width = width_in s.scalar; signed = signed_in s.scalar }

-- a variable that isn't there
abbrev pub no_variable : Variable
no_variable = record { mem = record { base = Rbp; disp = pos 0 }; width = W64; signed = false }

abbrev pub variable_in : Addresses → Option Slot → Variable
variable_in a None = no_variable
variable_in a (Some s) = variable_of a s

abbrev pub variable_at : Addresses → List Slot → ℕ → Variable
variable_at a slots n = variable_in a (slice_get slots n)

abbrev pub operand_of : Addresses → List Slot → Right → Operand
operand_of a slots right.Pending = operand.Pending
operand_of a slots (right.Number n) = operand.Number n
operand_of a slots (right.Local n) = operand.Local (variable_at a slots n)

-- operators are on 32 or 64 bits
abbrev pub promoted : Width → Width
promoted W64 = W64
promoted W32 = W32
promoted W16 = W32
promoted W8 = W32

abbrev pub operator_width : IntType → Width
operator_width i = promoted (width_of i)
