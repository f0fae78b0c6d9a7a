-- Operators, conversions and pointers.
use Rattle.std.proofs.Common.{◌≡◌, ◌≤◌, ℕ, ◌==◌, Bool, true, false, nat_lt, if◌then◌else◌, ◌&&◌}
use Rattle.std.proofs.Common.{List, [], ◌∷◌, ◌++◌, refl, ap, ◌∙◌}
use Rattle.fx_x64_forms.specs.Numbers.{width_bytes}
use Rattle.fx_x64_forms.specs.declared.operand.Width.{Width}
use Rattle.fx_x64_forms.specs.declared.operand.Width.TheVariants.{W8, W16, W32, W64}
use Rattle.fx_x64_forms.specs.declared.operand.Reg.TheVariants.{Rax, Rcx, Rdx}
use Rattle.fx_x64_forms.specs.declared.operand.Cond.{Cond}
use Rattle.fx_x64_forms.specs.declared.operand.Cond.TheVariants as cond
use Rattle.fx_x64_forms.specs.declared.inst.AluOp.TheVariants as alu_op
use Rattle.fx_x64_forms.specs.declared.inst.ShiftOp.{ShiftOp}
use Rattle.fx_x64_forms.specs.declared.inst.ShiftOp.TheVariants.{Shl}
use Rattle.fx_x64_forms.specs.declared.inst.UnaryOp.TheVariants as unary
use Rattle.fx_x64_forms.specs.declared.inst.Inst.TheVariants as inst
use Rattle.fx_x64_forms.specs.declared.piece.Piece.{Piece}
use Rattle.fx_x64_code.specs.Spelling.{is_part}
use Rattle.fx_c_ast.specs.declared.operator.Unop.{Unop}
use Rattle.fx_c_ast.specs.declared.operator.Unop.TheVariants as unop
use Rattle.fx_c_ast.specs.declared.operator.Binop.{Binop}
use Rattle.fx_c_ast.specs.declared.operator.Binop.TheVariants as op
use Rattle.fx_templates_core.specs.declared.operands.Operand.{Operand}
use Rattle.fx_templates_core.specs.Pieces.{plain, alu, branch, load_slot, reload, nothing}
use Rattle.fx_templates_core.specs.Constants.{constant}
use Rattle.fx_templates_core.specs.Operands.{fetch, combined, fetch_count}
use Rattle.fx_templates_core.specs.Cores.{condition, opposite, truth, compared, multiplied, shifted}
use Rattle.fx_templates_core.specs.Cores.{right_shift, division, divided, remainder, binary}
use Rattle.fx_templates_core.specs.Cores.{unary_of, compare_jump, jump_zero, cut_to, widened}
use Rattle.fx_templates_core.specs.Cores.{converted}
use Rattle.fx_templates_core.specs.Pointers.{scaled, index, index_left, back, in_elements}
use Rattle.fx_templates_core.specs.Pointers.{difference}
use Rattle.fx_templates_quiet_law.proofs.Tested.{are_calm, both, first, either, HasSlots}
use Rattle.fx_templates_quiet_law.proofs.Parts.{reload_calm, constant_calm, IsNearOperand}
use Rattle.fx_templates_quiet_law.proofs.Parts.{fetch_calm, fetch_count_calm, combined_calm}

-- ---- operators

pub compared_calm : (c : Cond) (w : Width) (locals k : ℕ) (right : Operand) → HasSlots locals
    → k ≤ 1048576 → IsNearOperand right → are_calm (compared c w locals k right) ≡ true
compared_calm c w locals k right slots few near =
    both (combined alu_op.Cmp w locals k right) (truth c)
    (combined_calm alu_op.Cmp w locals k right slots few near) refl

multiplied_calm : (w : Width) (locals k : ℕ) (right : Operand) → HasSlots locals → k ≤ 1048576
    → IsNearOperand right → are_calm (multiplied w locals k right) ≡ true
multiplied_calm w locals k right slots few near =
    both (fetch locals k right) (plain (inst.Imul w Rax Rcx) ∷ [])
    (fetch_calm locals k right slots few near) refl

shifted_calm : (by : ShiftOp) (w : Width) (locals k : ℕ) (right : Operand) → HasSlots locals
    → k ≤ 1048576 → IsNearOperand right → are_calm (shifted by w locals k right) ≡ true
shifted_calm by w locals k right slots few near =
    both (fetch locals k right) (plain (inst.Shift by w Rax) ∷ [])
    (fetch_calm locals k right slots few near) refl

division_calm : (signed : Bool) (w : Width) → are_calm (division signed w) ≡ true
division_calm true W64 = refl
division_calm true W32 = refl
division_calm true W16 = refl
division_calm true W8 = refl
division_calm false w = refl

divided_calm : (signed : Bool) (w : Width) (locals k : ℕ) (right : Operand) → HasSlots locals
    → k ≤ 1048576 → IsNearOperand right → are_calm (divided signed w locals k right) ≡ true
divided_calm signed w locals k right slots few near =
    both (fetch locals k right) (division signed w) (fetch_calm locals k right slots few near)
    (division_calm signed w)

remainder_calm : (signed : Bool) (w : Width) (locals k : ℕ) (right : Operand) → HasSlots locals
    → k ≤ 1048576 → IsNearOperand right → are_calm (remainder signed w locals k right) ≡ true
remainder_calm signed w locals k right slots few near =
    both (divided signed w locals k right) (plain (inst.Mov w Rax Rdx) ∷ [])
    (divided_calm signed w locals k right slots few near) refl

pub binary_calm : (o : Binop) (signed : Bool) (w : Width) (locals k : ℕ) (right : Operand)
    → HasSlots locals → k ≤ 1048576 → IsNearOperand right
    → are_calm (binary o signed w locals k right) ≡ true
binary_calm op.Add signed w locals k right slots few near =
    combined_calm alu_op.Add w locals k right slots few near
binary_calm op.Sub signed w locals k right slots few near =
    combined_calm alu_op.Sub w locals k right slots few near
binary_calm op.And signed w locals k right slots few near =
    combined_calm alu_op.And w locals k right slots few near
binary_calm op.Xor signed w locals k right slots few near =
    combined_calm alu_op.Xor w locals k right slots few near
binary_calm op.Or signed w locals k right slots few near =
    combined_calm alu_op.Or w locals k right slots few near
binary_calm op.Mul signed w locals k right slots few near =
    multiplied_calm w locals k right slots few near
binary_calm op.Div signed w locals k right slots few near =
    divided_calm signed w locals k right slots few near
binary_calm op.Rem signed w locals k right slots few near =
    remainder_calm signed w locals k right slots few near
binary_calm op.Shl signed w locals k right slots few near =
    shifted_calm Shl w locals k right slots few near
binary_calm op.Shr signed w locals k right slots few near =
    shifted_calm (right_shift signed) w locals k right slots few near
binary_calm op.Lt signed w locals k right slots few near =
    compared_calm (condition signed op.Lt) w locals k right slots few near
binary_calm op.Gt signed w locals k right slots few near =
    compared_calm (condition signed op.Gt) w locals k right slots few near
binary_calm op.Le signed w locals k right slots few near =
    compared_calm (condition signed op.Le) w locals k right slots few near
binary_calm op.Ge signed w locals k right slots few near =
    compared_calm (condition signed op.Ge) w locals k right slots few near
binary_calm op.Eq signed w locals k right slots few near =
    compared_calm (condition signed op.Eq) w locals k right slots few near
binary_calm op.Ne signed w locals k right slots few near =
    compared_calm (condition signed op.Ne) w locals k right slots few near
binary_calm op.Land signed w locals k right slots few near = refl
binary_calm op.Lor signed w locals k right slots few near = refl

pub unary_calm : (o : Unop) (w : Width) → are_calm (unary_of o w) ≡ true
unary_calm unop.Neg w = refl
unary_calm unop.Not w = refl
unary_calm unop.Lnot w = refl
unary_calm unop.Deref w = refl
unary_calm unop.Addr w = refl

-- ---- jumps

pub compare_jump_calm : (c : Cond) (w : Width) (locals k : ℕ) (right : Operand) (to : ℕ)
    → HasSlots locals → k ≤ 1048576 → IsNearOperand right
    → are_calm (compare_jump c w locals k right to) ≡ true
compare_jump_calm c w locals k right to slots few near =
    let test : List Piece = combined alu_op.Cmp w locals k right in
    both (test ++ reload locals k) (branch (opposite c) to ∷ [])
    (both test (reload locals k) (combined_calm alu_op.Cmp w locals k right slots few near)
    (reload_calm locals k slots few))
    refl

pub jump_zero_calm : (locals k to : ℕ) → HasSlots locals → k ≤ 1048576
    → are_calm (jump_zero locals k to) ≡ true
jump_zero_calm locals k to slots few =
    both (reload locals k) (branch cond.E to ∷ []) (reload_calm locals k slots few) refl

-- ---- conversions

cut_calm : (w : Width) → are_calm (cut_to w) ≡ true
cut_calm W64 = refl
cut_calm W32 = refl
cut_calm W16 = refl
cut_calm W8 = refl

widened_calm : (signed : Bool) (from to : Width) → is_part from ≡ true
    → are_calm (widened signed from to) ≡ true
widened_calm true from to part = ap (λ b. b && are_calm (cut_to to)) part ∙ cut_calm to
widened_calm false from to part = refl

from_part : (from : Width) (signed : Bool) (to : Width) → is_part from ≡ true
    → are_calm (converted from signed to) ≡ true
from_part from signed to part =
    let narrower : List Piece =
    if nat_lt (width_bytes to) (width_bytes from) then cut_to to else nothing in
    either (nat_lt (width_bytes from) (width_bytes to)) (widened signed from to) narrower
    (widened_calm signed from to part)
    (either (nat_lt (width_bytes to) (width_bytes from)) (cut_to to) nothing (cut_calm to) refl)

pub converted_calm : (from : Width) (signed : Bool) (to : Width)
    → are_calm (converted from signed to) ≡ true
converted_calm W8 signed to = from_part W8 signed to refl
converted_calm W16 signed to = from_part W16 signed to refl
converted_calm W32 signed to = from_part W32 signed to refl
converted_calm W64 signed W8 = refl
converted_calm W64 signed W16 = refl
converted_calm W64 signed W32 = refl
converted_calm W64 signed W64 = refl

-- ---- pointers

scaled_calm : (size : ℕ) → are_calm (scaled size) ≡ true
scaled_calm size =
    either (size == 1) [] (constant Rdx size ++ plain (inst.Imul W64 Rcx Rdx) ∷ []) refl
    (both (constant Rdx size) (plain (inst.Imul W64 Rcx Rdx) ∷ []) (constant_calm Rdx size) refl)

scaled_then : (size : ℕ) (p : Piece) → are_calm (p ∷ []) ≡ true
    → are_calm (scaled size ++ p ∷ []) ≡ true
scaled_then size p rest = both (scaled size) (p ∷ []) (scaled_calm size) rest

pub index_calm : (size locals k : ℕ) (right : Operand) → HasSlots locals → k ≤ 1048576
    → IsNearOperand right → are_calm (index size locals k right) ≡ true
index_calm size locals k right slots few near =
    let count : List Piece = fetch_count locals k right in
    both (count ++ scaled size) (alu alu_op.Add Rax Rcx ∷ [])
    (both count (scaled size) (fetch_count_calm locals k right slots few near) (scaled_calm size))
    refl

pub index_left_calm : (size locals k : ℕ) → HasSlots locals → k ≤ 1048576
    → are_calm (index_left size locals k) ≡ true
index_left_calm size locals k slots few =
    first (load_slot Rcx locals k) (scaled size ++ alu alu_op.Add Rax Rcx ∷ []) (slots k few)
    (scaled_then size (alu alu_op.Add Rax Rcx) refl)

pub back_calm : (size locals k : ℕ) → HasSlots locals → k ≤ 1048576
    → are_calm (back size locals k) ≡ true
back_calm size locals k slots few =
    first (load_slot Rax locals k) (scaled size ++ alu alu_op.Sub Rax Rcx ∷ []) (slots k few)
    (scaled_then size (alu alu_op.Sub Rax Rcx) refl)

in_elements_calm : (size : ℕ) → are_calm (in_elements size) ≡ true
in_elements_calm size =
    either (size == 1) []
    (plain inst.Cqo ∷ constant Rcx size ++ plain (inst.Unary unary.Idiv W64 Rcx) ∷ []) refl
    (both (constant Rcx size) (plain (inst.Unary unary.Idiv W64 Rcx) ∷ []) (constant_calm Rcx size)
    refl)

pub difference_calm : (size locals k : ℕ) → HasSlots locals → k ≤ 1048576
    → are_calm (difference size locals k) ≡ true
difference_calm size locals k slots few =
    first (load_slot Rax locals k) (alu alu_op.Sub Rax Rcx ∷ in_elements size) (slots k few)
    (in_elements_calm size)
