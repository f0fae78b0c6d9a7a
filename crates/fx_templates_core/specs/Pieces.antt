-- Single pieces, and where a frame has its operands.
use Rattle.std.specs.Prelude.{ℕ, ◌+◌, ◌*◌, zero, suc, ℤ, pos, negsuc, List, [], ◌∷◌, Some, None}
use Rattle.fx_x64_forms.specs.declared.operand.Width.{Width}
use Rattle.fx_x64_forms.specs.declared.operand.Width.TheVariants.{W8, W16, W32, W64}
use Rattle.fx_x64_forms.specs.declared.operand.Reg.{Reg}
use Rattle.fx_x64_forms.specs.declared.operand.Reg.TheVariants.{Rax, Rbp}
use Rattle.fx_x64_forms.specs.declared.operand.Mem.{Mem}
use Rattle.fx_x64_forms.specs.declared.operand.Cond.{Cond}
use Rattle.fx_x64_forms.specs.declared.inst.AluOp.{AluOp}
use Rattle.fx_x64_forms.specs.declared.inst.Inst.{Inst}
use Rattle.fx_x64_forms.specs.declared.inst.Inst.TheVariants as inst
use Rattle.fx_x64_forms.specs.declared.piece.Target.{Target}
use Rattle.fx_x64_forms.specs.declared.piece.Target.TheVariants.{Label}
use Rattle.fx_x64_forms.specs.declared.piece.Piece.{Piece}

-- an instruction that leads nowhere else
abbrev pub plain : Inst → Piece
plain i = record { inst = i; target = None }

-- an instruction whose displacement leads to a target
abbrev pub leading : Inst → Target → Piece
leading i to = record { inst = i; target = Some to }

-- ---- pieces of 64 bits, by what they do

abbrev pub set : Reg → ℤ → Piece
set dst n = plain (inst.MovImm dst n)

abbrev pub copy : Reg → Reg → Piece
copy dst src = plain (inst.Mov W64 dst src)

abbrev pub load : Reg → Reg → ℤ → Piece
load dst base at = plain (inst.Load W64 dst (record { base = base; disp = at }))

abbrev pub store : Reg → ℤ → Reg → Piece
store base at src = plain (inst.Store W64 (record { base = base; disp = at }) src)

abbrev pub alu : AluOp → Reg → Reg → Piece
alu op dst src = plain (inst.Alu op W64 dst src)

abbrev pub alu_number : AluOp → Reg → ℤ → Piece
alu_number op dst n = plain (inst.AluImm op W64 dst n)

-- to the piece of a number in the same list, where a condition holds
abbrev pub branch : Cond → ℕ → Piece
branch c to = leading (inst.Jcc c (pos 0)) (Label to)

abbrev pub jump : Target → Piece
jump to = leading (inst.Jmp (pos 0)) to

abbrev pub call : Target → Piece
call to = leading (inst.Call (pos 0)) to

-- ---- operands: the latest one is in RAX, each other one in its slot below the locals

-- slot k of a frame with so many bytes of locals
abbrev pub slot : (locals k : ℕ) → Mem
slot locals k = record { base = Rbp; disp = negsuc (locals + 8 * k + 7) }

abbrev pub load_slot : Reg → (locals k : ℕ) → Piece
load_slot dst locals k = plain (inst.Load W64 dst (slot locals k))

-- the latest of so many operands goes to its slot
abbrev pub spill : (locals count : ℕ) → List Piece
spill locals zero = []
spill locals (suc k) = plain (inst.Store W64 (slot locals k) Rax) ∷ []

-- the latest of so many operands comes back from its slot
abbrev pub reload : (locals count : ℕ) → List Piece
reload locals zero = []
reload locals (suc k) = load_slot Rax locals k ∷ []

-- a value of a width is loaded, zero-extended
abbrev pub load_of : Width → Reg → Mem → Inst
load_of W64 dst mem = inst.Load W64 dst mem
load_of W32 dst mem = inst.Load W32 dst mem
load_of W16 dst mem = inst.LoadZero W16 dst mem
load_of W8 dst mem = inst.LoadZero W8 dst mem

-- an op that has a cost and changes nothing has a piece
abbrev pub nothing : List Piece
nothing = plain inst.Nop ∷ []
