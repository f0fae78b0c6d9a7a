-- Operators, conversions and pointers.
use Rattle.std.proofs.Common.{◌≡◌, ℕ, ◌==◌, Bool, true, false, nat_lt, if◌then◌else◌, ◌&&◌, List, [], ◌∷◌, ◌++◌, refl, ap, ◌∙◌}
use Rattle.fx_x64_forms.specs.Numbers.{width_bytes}
use Rattle.fx_x64_forms.specs.declared.operand.Width.{Width}
use Rattle.fx_x64_forms.specs.declared.operand.Width.TheVariants.{W8, W16, W32, W64}
use Rattle.fx_x64_forms.specs.declared.operand.Reg.TheVariants.{Rax, Rcx, Rdx}
use Rattle.fx_x64_forms.specs.declared.operand.Cond.{Cond}
use Rattle.fx_x64_forms.specs.declared.operand.Cond.TheVariants as cond
use Rattle.fx_x64_forms.specs.declared.inst.AluOp.TheVariants as alu_op
use Rattle.fx_x64_forms.specs.declared.inst.ShiftOp.{ShiftOp}
use Rattle.fx_x64_forms.specs.declared.inst.ShiftOp.TheVariants.{Shl}
use Rattle.fx_x64_forms.specs.declared.inst.UnaryOp.TheVariants as unary
use Rattle.fx_x64_forms.specs.declared.inst.Inst.TheVariants as inst
use Rattle.fx_x64_forms.specs.declared.piece.Piece.{Piece}
use Rattle.fx_x64_code.specs.Spelling.{is_wide, is_part}
use Rattle.fx_c_ast.specs.declared.operator.Unop.{Unop}
use Rattle.fx_c_ast.specs.declared.operator.Unop.TheVariants as unop
use Rattle.fx_c_ast.specs.declared.operator.Binop.{Binop}
use Rattle.fx_c_ast.specs.declared.operator.Binop.TheVariants as op
use Rattle.fx_templates_core.specs.declared.operands.Operand.{Operand}
use Rattle.fx_templates_core.specs.Pieces.{plain, alu, branch, reload, nothing}
use Rattle.fx_templates_core.specs.Constants.{constant}
use Rattle.fx_templates_core.specs.Operands.{fetch, combined, fetch_count}
use Rattle.fx_templates_core.specs.Cores.{condition, opposite, truth, compared, multiplied, shifted, right_shift, division, divided, remainder, binary, unary_of, compare_jump, jump_zero, cut_to, widened, converted}
use Rattle.fx_templates_core.specs.Pointers.{scaled, index, index_left, back, in_elements, difference}
use Rattle.fx_templates_law.proofs.Tested.{are_rows, both, either}
use Rattle.fx_templates_law.proofs.Parts.{reload_rows, constant_rows, fetch_rows, fetch_count_rows, combined_rows}

-- ---- operators: of 32 and 64 bits

pub compared_rows : (c : Cond) (w : Width) (locals k : ℕ) (right : Operand) → is_wide w ≡ true → are_rows (compared c w locals k right) ≡ true
compared_rows c w locals k right wide =
    both (combined alu_op.Cmp w locals k right) (truth c) (combined_rows alu_op.Cmp w locals k right refl wide) refl

multiplied_rows : (w : Width) (locals k : ℕ) (right : Operand) → is_wide w ≡ true → are_rows (multiplied w locals k right) ≡ true
multiplied_rows w locals k right wide =
    both (fetch locals k right) (plain (inst.Imul w Rax Rcx) ∷ []) (fetch_rows locals k right) (ap (λ b. b && true) wide)

shifted_rows : (by : ShiftOp) (w : Width) (locals k : ℕ) (right : Operand) → is_wide w ≡ true → are_rows (shifted by w locals k right) ≡ true
shifted_rows by w locals k right wide =
    both (fetch locals k right) (plain (inst.Shift by w Rax) ∷ []) (fetch_rows locals k right) (ap (λ b. b && true) wide)

division_rows : (signed : Bool) (w : Width) → is_wide w ≡ true → are_rows (division signed w) ≡ true
division_rows true W64 wide = refl
division_rows true W32 wide = refl
division_rows true W16 wide = wide
division_rows true W8 wide = wide
division_rows false w wide = ap (λ b. b && true) wide

divided_rows : (signed : Bool) (w : Width) (locals k : ℕ) (right : Operand) → is_wide w ≡ true → are_rows (divided signed w locals k right) ≡ true
divided_rows signed w locals k right wide =
    both (fetch locals k right) (division signed w) (fetch_rows locals k right) (division_rows signed w wide)

remainder_rows : (signed : Bool) (w : Width) (locals k : ℕ) (right : Operand) → is_wide w ≡ true → are_rows (remainder signed w locals k right) ≡ true
remainder_rows signed w locals k right wide =
    both (divided signed w locals k right) (plain (inst.Mov w Rax Rdx) ∷ []) (divided_rows signed w locals k right wide) (ap (λ b. b && true) wide)

pub binary_rows : (o : Binop) (signed : Bool) (w : Width) (locals k : ℕ) (right : Operand) → is_wide w ≡ true → are_rows (binary o signed w locals k right) ≡ true
binary_rows op.Add signed w locals k right wide = combined_rows alu_op.Add w locals k right refl wide
binary_rows op.Sub signed w locals k right wide = combined_rows alu_op.Sub w locals k right refl wide
binary_rows op.And signed w locals k right wide = combined_rows alu_op.And w locals k right refl wide
binary_rows op.Xor signed w locals k right wide = combined_rows alu_op.Xor w locals k right refl wide
binary_rows op.Or signed w locals k right wide = combined_rows alu_op.Or w locals k right refl wide
binary_rows op.Mul signed w locals k right wide = multiplied_rows w locals k right wide
binary_rows op.Div signed w locals k right wide = divided_rows signed w locals k right wide
binary_rows op.Rem signed w locals k right wide = remainder_rows signed w locals k right wide
binary_rows op.Shl signed w locals k right wide = shifted_rows Shl w locals k right wide
binary_rows op.Shr signed w locals k right wide = shifted_rows (right_shift signed) w locals k right wide
binary_rows op.Lt signed w locals k right wide = compared_rows (condition signed op.Lt) w locals k right wide
binary_rows op.Gt signed w locals k right wide = compared_rows (condition signed op.Gt) w locals k right wide
binary_rows op.Le signed w locals k right wide = compared_rows (condition signed op.Le) w locals k right wide
binary_rows op.Ge signed w locals k right wide = compared_rows (condition signed op.Ge) w locals k right wide
binary_rows op.Eq signed w locals k right wide = compared_rows (condition signed op.Eq) w locals k right wide
binary_rows op.Ne signed w locals k right wide = compared_rows (condition signed op.Ne) w locals k right wide
binary_rows op.Land signed w locals k right wide = refl
binary_rows op.Lor signed w locals k right wide = refl

pub unary_rows : (o : Unop) (w : Width) → is_wide w ≡ true → are_rows (unary_of o w) ≡ true
unary_rows unop.Neg w wide = ap (λ b. b && true) wide
unary_rows unop.Not w wide = ap (λ b. b && true) wide
unary_rows unop.Lnot w wide = refl
unary_rows unop.Deref w wide = refl
unary_rows unop.Addr w wide = refl

-- ---- jumps

pub compare_jump_rows : (c : Cond) (w : Width) (locals k : ℕ) (right : Operand) (to : ℕ) → is_wide w ≡ true → are_rows (compare_jump c w locals k right to) ≡ true
compare_jump_rows c w locals k right to wide =
    let test : List Piece = combined alu_op.Cmp w locals k right in
    both (test ++ reload locals k) (branch (opposite c) to ∷ [])
    (both test (reload locals k) (combined_rows alu_op.Cmp w locals k right refl wide) (reload_rows locals k))
    refl

pub jump_zero_rows : (locals k to : ℕ) → are_rows (jump_zero locals k to) ≡ true
jump_zero_rows locals k to = both (reload locals k) (branch cond.E to ∷ []) (reload_rows locals k) refl

-- ---- conversions

cut_rows : (w : Width) → are_rows (cut_to w) ≡ true
cut_rows W64 = refl
cut_rows W32 = refl
cut_rows W16 = refl
cut_rows W8 = refl

widened_rows : (signed : Bool) (from to : Width) → is_part from ≡ true → are_rows (widened signed from to) ≡ true
widened_rows true from to part = ap (λ b. b && are_rows (cut_to to)) part ∙ cut_rows to
widened_rows false from to part = refl

from_part : (from : Width) (signed : Bool) (to : Width) → is_part from ≡ true → are_rows (converted from signed to) ≡ true
from_part from signed to part =
    let narrower : List Piece = if nat_lt (width_bytes to) (width_bytes from) then cut_to to else nothing in
    either (nat_lt (width_bytes from) (width_bytes to)) (widened signed from to) narrower
    (widened_rows signed from to part)
    (either (nat_lt (width_bytes to) (width_bytes from)) (cut_to to) nothing (cut_rows to) refl)

pub converted_rows : (from : Width) (signed : Bool) (to : Width) → are_rows (converted from signed to) ≡ true
converted_rows W8 signed to = from_part W8 signed to refl
converted_rows W16 signed to = from_part W16 signed to refl
converted_rows W32 signed to = from_part W32 signed to refl
converted_rows W64 signed W8 = refl
converted_rows W64 signed W16 = refl
converted_rows W64 signed W32 = refl
converted_rows W64 signed W64 = refl

-- ---- pointers

scaled_rows : (size : ℕ) → are_rows (scaled size) ≡ true
scaled_rows size =
    either (size == 1) [] (constant Rdx size ++ plain (inst.Imul W64 Rcx Rdx) ∷ []) refl
    (both (constant Rdx size) (plain (inst.Imul W64 Rcx Rdx) ∷ []) (constant_rows Rdx size) refl)

scaled_then : (size : ℕ) (p : Piece) → are_rows (p ∷ []) ≡ true → are_rows (scaled size ++ p ∷ []) ≡ true
scaled_then size p row = both (scaled size) (p ∷ []) (scaled_rows size) row

pub index_rows : (size locals k : ℕ) (right : Operand) → are_rows (index size locals k right) ≡ true
index_rows size locals k right =
    let count : List Piece = fetch_count locals k right in
    both (count ++ scaled size) (alu alu_op.Add Rax Rcx ∷ [])
    (both count (scaled size) (fetch_count_rows locals k right) (scaled_rows size))
    refl

pub index_left_rows : (size locals k : ℕ) → are_rows (index_left size locals k) ≡ true
index_left_rows size locals k = scaled_then size (alu alu_op.Add Rax Rcx) refl

pub back_rows : (size locals k : ℕ) → are_rows (back size locals k) ≡ true
back_rows size locals k = scaled_then size (alu alu_op.Sub Rax Rcx) refl

in_elements_rows : (size : ℕ) → are_rows (in_elements size) ≡ true
in_elements_rows size =
    either (size == 1) [] (plain inst.Cqo ∷ constant Rcx size ++ plain (inst.Unary unary.Idiv W64 Rcx) ∷ []) refl
    (both (constant Rcx size) (plain (inst.Unary unary.Idiv W64 Rcx) ∷ []) (constant_rows Rcx size) refl)

pub difference_rows : (size locals k : ℕ) → are_rows (difference size locals k) ≡ true
difference_rows size locals k = in_elements_rows size
