-- Slots, constants, operands, calls and copies.
use Rattle.std.proofs.Common.{◌≡◌, ℕ, ◌+◌, zero, suc, Bool, true, false, ◌&&◌, List, [], ◌∷◌, ◌++◌, length, refl, ap, ◌∙◌}
use Rattle.fx_x64_forms.specs.declared.operand.Width.{Width}
use Rattle.fx_x64_forms.specs.declared.operand.Width.TheVariants.{W8, W16, W32, W64}
use Rattle.fx_x64_forms.specs.declared.operand.Reg.{Reg}
use Rattle.fx_x64_forms.specs.declared.operand.Reg.TheVariants.{Rax, Rcx, R11}
use Rattle.fx_x64_forms.specs.declared.operand.Mem.{Mem}
use Rattle.fx_x64_forms.specs.declared.inst.AluOp.{AluOp}
use Rattle.fx_x64_forms.specs.declared.inst.Inst.TheVariants as inst
use Rattle.fx_x64_forms.specs.declared.piece.Target.{Target}
use Rattle.fx_x64_forms.specs.declared.piece.Piece.{Piece}
use Rattle.fx_x64_code.specs.Spelling.{is_wide, has_constant}
use Rattle.fx_templates_core.specs.declared.operands.Operand.{Operand}
use Rattle.fx_templates_core.specs.declared.operands.Operand.TheVariants.{Pending, Number, Local}
use Rattle.fx_templates_core.specs.Pieces.{plain, call, load_of, spill, reload}
use Rattle.fx_templates_core.specs.Constants.{has_key, built, constant, immediate, is_immediate, with_number}
use Rattle.fx_templates_core.specs.Operands.{fetch, fetched, combined, load_extended, fetch_count}
use Rattle.fx_templates_core.specs.Calls.{load_arguments, arguments, call_with, return}
use Rattle.fx_templates_core.specs.Copying.{copy_ends, copy_byte, copied}
use Rattle.fx_templates_law.proofs.Tested.{are_rows, both, either}

pub spill_rows : (locals count : ℕ) → are_rows (spill locals count) ≡ true
spill_rows locals zero = refl
spill_rows locals (suc k) = refl

pub reload_rows : (locals k : ℕ) → are_rows (reload locals k) ≡ true
reload_rows locals zero = refl
reload_rows locals (suc k) = refl

-- an op that pushes
pub pushed : (locals count : ℕ) (ps : List Piece) → are_rows ps ≡ true → are_rows (spill locals count ++ ps) ≡ true
pushed locals count ps test = both (spill locals count) ps (spill_rows locals count) test

pub load_of_rows : (w : Width) (dst : Reg) (mem : Mem) → are_rows (plain (load_of w dst mem) ∷ []) ≡ true
load_of_rows W8 dst mem = refl
load_of_rows W16 dst mem = refl
load_of_rows W32 dst mem = refl
load_of_rows W64 dst mem = refl

load_extended_rows : (signed : Bool) (w : Width) (dst : Reg) (mem : Mem) → are_rows (plain (load_extended signed w dst mem) ∷ []) ≡ true
load_extended_rows false w dst mem = load_of_rows w dst mem
load_extended_rows true W8 dst mem = refl
load_extended_rows true W16 dst mem = refl
load_extended_rows true W32 dst mem = refl
load_extended_rows true W64 dst mem = refl

-- ---- constants

pub constant_rows : (dst : Reg) (n : ℕ) → are_rows (constant dst n) ≡ true
constant_rows dst n = either (has_key n) (built dst n) (plain (inst.MovImm64 dst n) ∷ []) refl refl

-- an operation of a width that has a row
alu_row : (op : AluOp) (w : Width) → is_wide w ≡ true → are_rows (plain (inst.Alu op w Rax Rcx) ∷ []) ≡ true
alu_row op w wide = ap (λ b. b && true) wide

alu_imm_row : (op : AluOp) (w : Width) (n : ℕ) → has_constant op ≡ true → is_wide w ≡ true
    → are_rows (plain (inst.AluImm op w Rax (immediate n)) ∷ []) ≡ true
alu_imm_row op w n has wide = ap (λ b. (b && has_constant op) && true) wide ∙ ap (λ b. b && true) has

pub with_number_rows : (op : AluOp) (w : Width) (n : ℕ) → has_constant op ≡ true → is_wide w ≡ true → are_rows (with_number op w n) ≡ true
with_number_rows op w n has wide =
    either (is_immediate w n) (plain (inst.AluImm op w Rax (immediate n)) ∷ []) (constant Rcx n ++ plain (inst.Alu op w Rax Rcx) ∷ [])
    (alu_imm_row op w n has wide)
    (both (constant Rcx n) (plain (inst.Alu op w Rax Rcx) ∷ []) (constant_rows Rcx n) (alu_row op w wide))

-- ---- right operands

pub fetch_rows : (locals k : ℕ) (right : Operand) → are_rows (fetch locals k right) ≡ true
fetch_rows locals k Pending = refl
fetch_rows locals k (Number n) = constant_rows Rcx n
fetch_rows locals k (Local v) = load_of_rows v.width Rcx v.mem

pub fetch_count_rows : (locals k : ℕ) (right : Operand) → are_rows (fetch_count locals k right) ≡ true
fetch_count_rows locals k Pending = refl
fetch_count_rows locals k (Number n) = constant_rows Rcx n
fetch_count_rows locals k (Local v) = load_extended_rows v.signed v.width Rcx v.mem

fetched_rows : (op : AluOp) (w : Width) (locals k : ℕ) (right : Operand) → is_wide w ≡ true → are_rows (fetched op w locals k right) ≡ true
fetched_rows op w locals k right wide =
    both (fetch locals k right) (plain (inst.Alu op w Rax Rcx) ∷ []) (fetch_rows locals k right) (alu_row op w wide)

pub combined_rows : (op : AluOp) (w : Width) (locals k : ℕ) (right : Operand) → has_constant op ≡ true → is_wide w ≡ true
    → are_rows (combined op w locals k right) ≡ true
combined_rows op w locals k Pending has wide = fetched_rows op w locals k Pending wide
combined_rows op w locals k (Number n) has wide = with_number_rows op w n has wide
combined_rows op w locals k (Local v) has wide = fetched_rows op w locals k (Local v) wide

-- ---- calls and copies

load_arguments_rows : (locals k i : ℕ) → are_rows (load_arguments locals k i) ≡ true
load_arguments_rows locals k zero = refl
load_arguments_rows locals k (suc i) = load_arguments_rows locals k i

arguments_rows : (locals k count : ℕ) → are_rows (arguments locals k count) ≡ true
arguments_rows locals k zero = spill_rows locals k
arguments_rows locals k (suc i) = load_arguments_rows locals k i

pub call_with_rows : (locals k count : ℕ) (to : Target) → are_rows (call_with locals k count to) ≡ true
call_with_rows locals k count to = both (arguments locals k count) (call to ∷ []) (arguments_rows locals k count) refl

pub return_rows : (due : Bool) (count : ℕ) → are_rows (return due count) ≡ true
return_rows true zero = refl
return_rows true (suc k) = refl
return_rows false count = refl

pub copied_rows : (here locals k bytes : ℕ) → are_rows (copied here locals k bytes) ≡ true
copied_rows here locals k bytes =
    let ends : List Piece = copy_ends locals k bytes in
    let loop : List Piece = copy_byte (here + length ends) in
    both (ends ++ loop) (reload locals k) (both ends loop (constant_rows R11 bytes) refl) (reload_rows locals k)
