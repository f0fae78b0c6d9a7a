-- The pieces of plain gates and of the runtime under plain calls, part by part.
use Rattle.std.proofs.Common.{◌≡◌, ◌≤◌, ◌+◌, ◌%◌, ℕ, zero, suc, pos, true, ◌&&◌, ◌==◌, List, []}
use Rattle.std.proofs.Common.{◌∷◌, length, slice_get, slice_index}
use Rattle.std.proofs.Common.{refl, arith}
use Rattle.std.specs.Prelude.{Option, Some, None, All}
use Rattle.std.specs.Int.{w64, to_le_bytes}
use Rattle.std.proofs.lemmas.Bool.{and_from}
use Rattle.std.proofs.lemmas.List.Elements.{All-head, All-tail}
use Rattle.fx_x64_forms.specs.declared.operand.Width.{Width}
use Rattle.fx_x64_forms.specs.declared.operand.Width.TheVariants.{W8, W16, W32, W64}
use Rattle.fx_x64_forms.specs.declared.operand.Reg.TheVariants.{Rsp}
use Rattle.fx_x64_forms.specs.declared.inst.AluOp.TheVariants.{Add, Sub}
use Rattle.fx_x64_code.specs.Spelling.{le32}
use Rattle.fx_c_ast.specs.declared.operator.IntType.{IntType}
use Rattle.fx_c_ast.specs.declared.operator.IntType.TheVariants.{Char, Uchar, Short, Ushort, Int}
use Rattle.fx_c_ast.specs.declared.operator.IntType.TheVariants.{Uint, Long, Ulong}
use Rattle.fx_c_ast.specs.declared.checked.TFunction.{TFunction}
use Rattle.fx_c_ast.specs.declared.checked.TProgram.{TProgram}
use Rattle.fx_c_ast.specs.CheckedTrees.{TyTree, VoidTy, IntTy, StructTy, PtrTy, ArrayTy, ty_tree}
use Rattle.fx_config.specs.declared.configuration.Config.{Config}
use Rattle.fx_shadow.specs.Stacks.{stack_span}
use Rattle.fx_sections.specs.declared.placement.PlacedSection.{PlacedSection}
use Rattle.fx_sections.specs.declared.placement.Placement.{Placement}
use Rattle.fx_linker_law.proofs.Quiet.{is_clean}
use Rattle.fx_match_rel.specs.declared.addresses.Addresses.{Addresses}
use Rattle.fx_match_rel.specs.declared.frames.FrameTable.{FrameTable}
use Rattle.fx_match_rel.specs.declared.context.GateSite.{GateSite}
use Rattle.fx_match_rel.specs.Addresses.{runtime_addresses}
use Rattle.fx_templates_core.specs.Pieces.{alu_number}
use Rattle.fx_templates_core.specs.Cores.{cut_to}
use Rattle.fx_templates_core.specs.Functions.{result_width_at, called}
use Rattle.fx_gates_call.specs.Threads.{stop, thread_switch}
use Rattle.fx_gates_call.specs.Gates.{between, gate, gate_in, pieces_of_gate}
use Rattle.fx_gates_call.specs.Runtime.{integer_value, exit_value, exit_value_in, start, table_at}
use Rattle.fx_gates_call.specs.Runtime.{first_word, switch_at, up_to_abort, runtime_pieces}
use Rattle.fx_templates_quiet_law.specs.Quiet.{IsPlainFrame, ArePlain, GatesAreQuiet}
use Rattle.fx_templates_quiet_law.specs.Quiet.{RuntimesAreQuiet}
use Rattle.fx_templates_quiet_law.proofs.Numbers.{number_clean, small_clean, unkeyed_word}
use Rattle.fx_templates_quiet_law.proofs.Numbers.{place_unkeyed}
use Rattle.fx_templates_quiet_law.proofs.Tested.{are_calm, quiet, both, either, HasSlots}
use Rattle.fx_templates_quiet_law.proofs.Ops.{IfThere, found, has_slots, called_calm}

-- ---- gates

cut_calm : (w : Width) → are_calm (cut_to w) ≡ true
cut_calm W8 = refl
cut_calm W16 = refl
cut_calm W32 = refl
cut_calm W64 = refl

between_calm : (a : Addresses) (locals count f : ℕ) → ArePlain a → HasSlots locals
    → count ≤ 1048576 → are_calm (between a locals count f) ≡ true
between_calm a locals count f is slots few =
    both (alu_number Sub Rsp (pos 16) ∷ called a locals count f)
    (alu_number Add Rsp (pos 16) ∷ cut_to (result_width_at a f))
    (called_calm a locals count f is slots few) (cut_calm (result_width_at a f))

gate_calm : (a : Addresses) (locals count : ℕ) (site : GateSite) → ArePlain a → HasSlots locals
    → count ≤ 1048576 → are_calm (gate a locals count site) ≡ true
gate_calm a locals count site is slots few =
    either (site.from == site.to) (called a locals count site.function)
    (between a locals count site.function)
    (called_calm a locals count site.function is slots few)
    (between_calm a locals count site.function is slots few)

gate_in_calm : (a : Addresses) (count : ℕ) (site : GateSite) (t : Option FrameTable) → ArePlain a
    → IfThere IsPlainFrame t → count ≤ 1048576 → are_calm (gate_in a count site t) ≡ true
gate_in_calm a count site None is there few = refl
gate_in_calm a count site (Some t) is there few =
    gate_calm a t.locals count site is (has_slots t there) few

pub gates_quiet : GatesAreQuiet
gates_quiet a function count site is few =
    quiet (pieces_of_gate a function count site)
    (gate_in_calm a count site (slice_get a.frames function) is
    (found IsPlainFrame a.frames function is.frames) few)

-- ---- the start

integer_calm : (i : IntType) → are_calm (integer_value i) ≡ true
integer_calm Char = refl
integer_calm Uchar = refl
integer_calm Short = refl
integer_calm Ushort = refl
integer_calm Int = refl
integer_calm Uint = refl
integer_calm Long = refl
integer_calm Ulong = refl

exit_calm : (t : TyTree) → are_calm (exit_value t) ≡ true
exit_calm (IntTy i) = integer_calm i
exit_calm VoidTy = refl
exit_calm (StructTy n) = refl
exit_calm (PtrTy t) = refl
exit_calm (ArrayTy t n) = refl

exit_in_calm : (f : Option TFunction) → are_calm (exit_value_in f) ≡ true
exit_in_calm None = refl
exit_in_calm (Some f) = exit_calm (ty_tree f.result)

start_calm : (p : TProgram) → are_calm (start p) ≡ true
start_calm p =
    both (exit_value_in (slice_get p.functions p.main)) (stop 0)
    (exit_in_calm (slice_get p.functions p.main)) refl

-- ---- the thread switch

-- the place of a section's first page, or 0
table_is : (ss : List PlacedSection) (c : ℕ)
    → All (λ (s : PlacedSection). s.page ≤ 1048576) ss
    → (slice_index (runtime_addresses ss) c % 4096 ≡ 0)
    × (slice_index (runtime_addresses ss) c ≤ 4294967296)
table_is [] c all = (refl, omega arith)
table_is (s ∷ ss) zero all =
    let page = All-head (λ (x : PlacedSection). x.page ≤ 1048576) s ss all in
    (omega arith, omega arith)
table_is (s ∷ ss) (suc c) all =
    table_is ss c (All-tail (λ (x : PlacedSection). x.page ≤ 1048576) s ss all)

switch_calm : (table stride top here : ℕ)
    → is_clean (to_le_bytes w64 table) ≡ true → is_clean (to_le_bytes w64 (table + 256)) ≡ true
    → is_clean (le32 (pos stride)) ≡ true → is_clean (le32 (pos top)) ≡ true
    → are_calm (thread_switch table stride top here) ≡ true
switch_calm table stride top here one two three four =
    let a = is_clean (to_le_bytes w64 table) in
    let b = is_clean (to_le_bytes w64 (table + 256)) in
    let c = is_clean (le32 (pos stride)) in
    let d = is_clean (le32 (pos top)) in
    and_from a (a && (a && (b && (a && (c && (d && true)))))) one
    (and_from a (a && (b && (a && (c && (d && true))))) one
    (and_from a (b && (a && (c && (d && true)))) one
    (and_from b (a && (c && (d && true))) two
    (and_from a (c && (d && true)) one
    (and_from c (d && true) three (and_from d true four refl))))))

switch_at_calm : (at : Placement) (k : Config) (here : ℕ) → k.stack_pages ≤ 64
    → All (λ (s : PlacedSection). s.page ≤ 1048576) at.sections
    → are_calm (switch_at at k here) ≡ true
switch_at_calm at k here pages all =
    let place = table_is at.sections k.scheduler all in
    let table = table_at at k in
    let low = place.0 in
    let small = place.1 in
    let top = first_word k in
    switch_calm table (stack_span k) top here
    (unkeyed_word table (place_unkeyed table (omega arith) (omega arith)))
    (unkeyed_word (table + 256) (place_unkeyed (table + 256) (omega arith) (omega arith)))
    (small_clean (stack_span k) (omega arith))
    (number_clean top (λ e. omega (arith, e)) (λ e. omega (arith, e)))

-- ---- the whole

up_to_abort_calm : (p : TProgram) (at : Placement) (k : Config) (here : ℕ) → k.stack_pages ≤ 64
    → All (λ (s : PlacedSection). s.page ≤ 1048576) at.sections
    → are_calm (up_to_abort p at k here) ≡ true
up_to_abort_calm p at k here pages all =
    both (start p) (switch_at at k (here + length (start p))) (start_calm p)
    (switch_at_calm at k (here + length (start p)) pages all)

pub runtimes_quiet : RuntimesAreQuiet
runtimes_quiet p at k here pages all =
    quiet (runtime_pieces p at k here)
    (both (up_to_abort p at k here) (stop 4) (up_to_abort_calm p at k here pages all) refl)
