-- Each piece is an instruction of the subset: by the parts of which code is made.
use Rattle.std.proofs.Common.{◌≡◌, ℕ, ◌+◌, ◌-◌, ◌==◌, zero, suc, Bool, true, false, pos, List, [], ◌∷◌, ◌++◌, length, refl, ◌∙◌, Option, Some, None}
use Rattle.std.specs.Prelude.{cond, slice_get}
use Rattle.std.specs.List.{list_all}
use Rattle.std.proofs.lemmas.Bool.{and_from}
use Rattle.std.proofs.lemmas.List.Folds.{list_all-append}
use Rattle.std.proofs.lemmas.List.Sums.{AllPass-from_list_all}
use Rattle.fx_x64_forms.specs.declared.operand.Width.{Width}
use Rattle.fx_x64_forms.specs.declared.operand.Width.TheVariants.{W8, W16, W32, W64}
use Rattle.fx_x64_forms.specs.declared.operand.Reg.TheVariants.{Rsp}
use Rattle.fx_x64_forms.specs.declared.inst.AluOp.TheVariants.{Add, Sub}
use Rattle.fx_x64_forms.specs.declared.piece.Target.{Target}
use Rattle.fx_x64_forms.specs.declared.piece.Target.TheVariants.{Function}
use Rattle.fx_x64_forms.specs.declared.piece.Piece.{Piece}
use Rattle.fx_x64_code.specs.Spelling.{has_row}
use Rattle.fx_c_ast.specs.declared.operator.IntType.{IntType}
use Rattle.fx_c_ast.specs.declared.operator.IntType.TheVariants.{Char, Uchar, Short, Ushort, Int, Uint, Long, Ulong}
use Rattle.fx_c_ast.specs.declared.checked.TFunction.{TFunction}
use Rattle.fx_c_ast.specs.declared.checked.TProgram.{TProgram}
use Rattle.fx_c_ast.specs.CheckedTrees.{TyTree, VoidTy, IntTy, StructTy, PtrTy, ArrayTy, ty_tree}
use Rattle.fx_config.specs.declared.configuration.Config.{Config}
use Rattle.fx_sections.specs.declared.placement.Placement.{Placement}
use Rattle.fx_match_rel.specs.declared.addresses.Addresses.{Addresses}
use Rattle.fx_match_rel.specs.declared.frames.FrameTable.{FrameTable}
use Rattle.fx_match_rel.specs.declared.context.GateSite.{GateSite}
use Rattle.fx_templates_core.specs.Pieces.{alu_number, call, spill}
use Rattle.fx_templates_core.specs.Cores.{cut_to}
use Rattle.fx_templates_core.specs.Calls.{load_arguments, arguments, call_with}
use Rattle.fx_templates_core.specs.Functions.{params_at, result_width_at, called}
use Rattle.fx_gates_call.specs.Threads.{stop, thread_switch}
use Rattle.fx_gates_call.specs.Gates.{between, gate, gate_in, pieces_of_gate}
use Rattle.fx_gates_call.specs.Runtime.{integer_value, exit_value, exit_value_in, start, switch_at, up_to_abort, runtime_pieces}
use Rattle.fx_gates_call_law.specs.Rows.{GatesAreRows, RuntimesAreRows}

abbrev is_row : Piece → Bool
is_row p = has_row p.inst

-- the test of a list
abbrev Rows : List Piece → Type 0
Rows ps = list_all is_row ps ≡ true

joined : (xs ys : List Piece) → Rows xs → Rows ys → Rows (xs ++ ys)
joined xs ys x y = list_all-append is_row xs ys ∙ and_from (list_all is_row xs) (list_all is_row ys) x y

either : (b : Bool) (xs ys : List Piece) → Rows xs → Rows ys → Rows (cond b xs ys)
either true xs ys x y = x
either false xs ys x y = y

-- ---- calls

spilled : (locals count : ℕ) → Rows (spill locals count)
spilled locals zero = refl
spilled locals (suc k) = refl

loaded : (locals k i : ℕ) → Rows (load_arguments locals k i)
loaded locals k zero = refl
loaded locals k (suc i) = loaded locals k i

given : (locals k count : ℕ) → Rows (arguments locals k count)
given locals k zero = spilled locals k
given locals k (suc i) = loaded locals k i

call_rows : (locals k count : ℕ) (to : Target) → Rows (call_with locals k count to)
call_rows locals k count to = joined (arguments locals k count) (call to ∷ []) (given locals k count) refl

called_rows : (a : Addresses) (locals count f : ℕ) → Rows (called a locals count f)
called_rows a locals count f = call_rows locals (count - params_at a f) (params_at a f) (Function f)

cut_rows : (w : Width) → Rows (cut_to w)
cut_rows W8 = refl
cut_rows W16 = refl
cut_rows W32 = refl
cut_rows W64 = refl

-- ---- gates

between_rows : (a : Addresses) (locals count f : ℕ) → Rows (between a locals count f)
between_rows a locals count f =
    joined (alu_number Sub Rsp (pos 16) ∷ called a locals count f) (alu_number Add Rsp (pos 16) ∷ cut_to (result_width_at a f))
    (called_rows a locals count f) (cut_rows (result_width_at a f))

gate_rows : (a : Addresses) (locals count : ℕ) (site : GateSite) → Rows (gate a locals count site)
gate_rows a locals count site =
    either (site.from == site.to) (called a locals count site.function) (between a locals count site.function)
    (called_rows a locals count site.function) (between_rows a locals count site.function)

gate_in_rows : (a : Addresses) (count : ℕ) (site : GateSite) (t : Option FrameTable) → Rows (gate_in a count site t)
gate_in_rows a count site None = refl
gate_in_rows a count site (Some t) = gate_rows a t.locals count site

pub gates_are_rows : GatesAreRows
gates_are_rows a function count site =
    AllPass-from_list_all is_row (pieces_of_gate a function count site) (gate_in_rows a count site (slice_get a.frames function))

-- ---- runtimes

integer_rows : (i : IntType) → Rows (integer_value i)
integer_rows Char = refl
integer_rows Uchar = refl
integer_rows Short = refl
integer_rows Ushort = refl
integer_rows Int = refl
integer_rows Uint = refl
integer_rows Long = refl
integer_rows Ulong = refl

exit_rows : (t : TyTree) → Rows (exit_value t)
exit_rows (IntTy i) = integer_rows i
exit_rows VoidTy = refl
exit_rows (StructTy n) = refl
exit_rows (PtrTy t) = refl
exit_rows (ArrayTy t n) = refl

exit_in_rows : (f : Option TFunction) → Rows (exit_value_in f)
exit_in_rows None = refl
exit_in_rows (Some f) = exit_rows (ty_tree f.result)

start_rows : (p : TProgram) → Rows (start p)
start_rows p = joined (exit_value_in (slice_get p.functions p.main)) (stop 0) (exit_in_rows (slice_get p.functions p.main)) refl

switch_rows : (table stride top here : ℕ) → Rows (thread_switch table stride top here)
switch_rows table stride top here = refl

up_to_abort_rows : (p : TProgram) (at : Placement) (k : Config) (here : ℕ) → Rows (up_to_abort p at k here)
up_to_abort_rows p at k here =
    joined (start p) (switch_at at k (here + length (start p))) (start_rows p) refl

runtime_rows : (p : TProgram) (at : Placement) (k : Config) (here : ℕ) → Rows (runtime_pieces p at k here)
runtime_rows p at k here = joined (up_to_abort p at k here) (stop 4) (up_to_abort_rows p at k here) refl

pub runtimes_are_rows : RuntimesAreRows
runtimes_are_rows p at k here = AllPass-from_list_all is_row (runtime_pieces p at k here) (runtime_rows p at k here)
