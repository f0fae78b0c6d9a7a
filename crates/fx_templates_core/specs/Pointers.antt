-- Pointers moved by elements, and their differences. The left operand is in RAX, the right one in RCX.
use Rattle.std.specs.Prelude.{ℕ, ◌==◌, if◌then◌else◌, List, [], ◌∷◌, ◌++◌}
use Rattle.fx_x64_forms.specs.declared.operand.Width.TheVariants.{W64}
use Rattle.fx_x64_forms.specs.declared.operand.Reg.TheVariants.{Rax, Rcx, Rdx}
use Rattle.fx_x64_forms.specs.declared.inst.AluOp.TheVariants.{Add, Sub}
use Rattle.fx_x64_forms.specs.declared.inst.UnaryOp.TheVariants.{Idiv}
use Rattle.fx_x64_forms.specs.declared.inst.Inst.TheVariants as inst
use Rattle.fx_x64_forms.specs.declared.piece.Piece.{Piece}
use Rattle.fx_templates_core.specs.Pieces.{plain, alu, load_slot}
use Rattle.fx_templates_core.specs.Constants.{constant, with_number}
use Rattle.fx_templates_core.specs.Operands.{fetch, fetch_count}
use Rattle.fx_templates_core.specs.declared.operands.Operand.{Operand}
use Rattle.fx_templates_core.specs.declared.operands.Operand.TheVariants.{Pending}

-- RCX in elements of so many bytes
abbrev pub scaled : ℕ → List Piece
scaled size = if size == 1 then [] else constant Rdx size ++ plain (inst.Imul W64 Rcx Rdx) ∷ []

-- a pointer moved by a number of elements
abbrev pub index : (size locals k : ℕ) → Operand → List Piece
index size locals k right = fetch_count locals k right ++ scaled size ++ alu Add Rax Rcx ∷ []

-- a pointer in RAX moved by the number in slot k
abbrev pub index_left : (size locals k : ℕ) → List Piece
index_left size locals k = load_slot Rcx locals k ∷ scaled size ++ alu Add Rax Rcx ∷ []

-- a pointer moved back
abbrev pub back : (size locals k : ℕ) → List Piece
back size locals k = fetch locals k Pending ++ scaled size ++ alu Sub Rax Rcx ∷ []

-- RAX, a number of bytes, in elements
abbrev pub in_elements : ℕ → List Piece
in_elements size =
    if size == 1 then [] else plain inst.Cqo ∷ constant Rcx size
    ++ plain (inst.Unary Idiv W64 Rcx) ∷ []

-- the difference of two pointers
abbrev pub difference : (size locals k : ℕ) → List Piece
difference size locals k = fetch locals k Pending ++ alu Sub Rax Rcx ∷ in_elements size

-- a pointer so many bytes on
abbrev pub offset : ℕ → List Piece
offset bytes = with_number Add W64 bytes
