-- Right operands: the left one comes to RAX, the right one to RCX.
use Rattle.std.specs.Prelude.{ℕ, ◌-◌, Bool, true, false, List, [], ◌∷◌, ◌++◌}
use Rattle.fx_x64_forms.specs.declared.operand.Width.{Width}
use Rattle.fx_x64_forms.specs.declared.operand.Width.TheVariants.{W8, W16, W32, W64}
use Rattle.fx_x64_forms.specs.declared.operand.Reg.{Reg}
use Rattle.fx_x64_forms.specs.declared.operand.Reg.TheVariants.{Rax, Rcx}
use Rattle.fx_x64_forms.specs.declared.operand.Mem.{Mem}
use Rattle.fx_x64_forms.specs.declared.inst.AluOp.{AluOp}
use Rattle.fx_x64_forms.specs.declared.inst.Inst.{Inst}
use Rattle.fx_x64_forms.specs.declared.inst.Inst.TheVariants as inst
use Rattle.fx_x64_forms.specs.declared.piece.Piece.{Piece}
use Rattle.fx_templates_core.specs.Pieces.{plain, copy, load_slot, load_of}
use Rattle.fx_templates_core.specs.Constants.{constant, with_number}
use Rattle.fx_templates_core.specs.declared.operands.Operand.{Operand}
use Rattle.fx_templates_core.specs.declared.operands.Operand.TheVariants.{Pending, Number, Local}

-- how many operands stay below the left one, of so many that are pending
abbrev pub below_left : Operand → ℕ → ℕ
below_left Pending count = count - 2
below_left (Number n) count = count - 1
below_left (Local v) count = count - 1

-- With k operands below the left one: where the right one is pending, it is in RAX and the left one in its slot.
abbrev pub fetch : (locals k : ℕ) → Operand → List Piece
fetch locals k Pending = copy Rcx Rax ∷ load_slot Rax locals k ∷ []
fetch locals k (Number n) = constant Rcx n
fetch locals k (Local v) = plain (load_of v.width Rcx v.mem) ∷ []

-- an operation of both operands, whose result stands in RAX
abbrev pub fetched : AluOp → Width → (locals k : ℕ) → Operand → List Piece
fetched op w locals k right = fetch locals k right ++ plain (inst.Alu op w Rax Rcx) ∷ []

-- the same, where a number may stand in the instruction
abbrev pub combined : AluOp → Width → (locals k : ℕ) → Operand → List Piece
combined op w locals k Pending = fetched op w locals k Pending
combined op w locals k (Number n) = with_number op w n
combined op w locals k (Local v) = fetched op w locals k (Local v)

-- ---- numbers of elements

-- the number that a value stands for, as 64 bits
abbrev pub load_signed : Width → Reg → Mem → Inst
load_signed W64 dst mem = inst.Load W64 dst mem
load_signed W32 dst mem = inst.LoadSign W32 dst mem
load_signed W16 dst mem = inst.LoadSign W16 dst mem
load_signed W8 dst mem = inst.LoadSign W8 dst mem

abbrev pub load_extended : Bool → Width → Reg → Mem → Inst
load_extended true w dst mem = load_signed w dst mem
load_extended false w dst mem = load_of w dst mem

-- a right operand whose number counts elements
abbrev pub fetch_count : (locals k : ℕ) → Operand → List Piece
fetch_count locals k Pending = fetch locals k Pending
fetch_count locals k (Number n) = fetch locals k (Number n)
fetch_count locals k (Local v) = plain (load_extended v.signed v.width Rcx v.mem) ∷ []
