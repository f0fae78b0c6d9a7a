-- Copies of bytes, one by one, each read before it is written.
use Rattle.std.specs.Prelude.{ℕ, ◌+◌, pos, List, [], ◌∷◌, ◌++◌, length}
use Rattle.fx_x64_forms.specs.declared.operand.Width.TheVariants.{W8}
use Rattle.fx_x64_forms.specs.declared.operand.Reg.TheVariants.{Rax, Rcx, Rdx, R11}
use Rattle.fx_x64_forms.specs.declared.operand.Cond.TheVariants.{Ne}
use Rattle.fx_x64_forms.specs.declared.inst.AluOp.TheVariants.{Add, Sub}
use Rattle.fx_x64_forms.specs.declared.inst.Inst.TheVariants as inst
use Rattle.fx_x64_forms.specs.declared.piece.Piece.{Piece}
use Rattle.fx_templates_core.specs.Pieces.{plain, copy, alu_number, branch, load_slot, reload}
use Rattle.fx_templates_core.specs.Constants.{constant}
use Rattle.fx_templates_core.specs.Memory.{at_reg}

-- the source from RAX to RCX, the target from slot k to RDX, the number of bytes to R11
abbrev pub copy_ends : (locals k bytes : ℕ) → List Piece
copy_ends locals k bytes = copy Rcx Rax ∷ load_slot Rdx locals k ∷ constant R11 bytes

abbrev pub move_byte : List Piece
move_byte = plain (inst.LoadZero W8 Rax (at_reg Rcx)) ∷ plain (inst.Store W8 (at_reg Rdx) Rax) ∷ []

abbrev pub next_byte : ℕ → List Piece
next_byte top =
    alu_number Add Rcx (pos 1) ∷ alu_number Add Rdx (pos 1) ∷ alu_number Sub R11 (pos 1)
    ∷ branch Ne top ∷ []

-- one byte, and again from the piece `top` where there are more
abbrev pub copy_byte : ℕ → List Piece
copy_byte top = move_byte ++ next_byte top

-- these pieces begin at a place of their list; k operands stay
abbrev pub copied : (here locals k bytes : ℕ) → List Piece
copied here locals k bytes =
    copy_ends locals k bytes ++ copy_byte (here + length (copy_ends locals k bytes))
    ++ reload locals k
