-- The runtime leads to no function but `main`, whose jump is the first of its compartment's range.
use Rattle.std.proofs.Common.{◌≡◌, ℕ, zero, suc, ◌+◌, ◌≤◌, Bool, true, false, ◌&&◌}
use Rattle.std.proofs.Common.{if◌then◌else◌, List, [], ◌∷◌, ◌++◌, length, slice_index, slice_get}
use Rattle.std.proofs.Common.{refl, ap, ◌∙◌, arith}
use Rattle.std.specs.Prelude.{Option, Some, None, All, cond}
use Rattle.std.proofs.lemmas.Bool.{and_parts, eq-eqb, false≢true}
use Rattle.std.proofs.lemmas.List.Elements.{All-nil, All-cons}
use Rattle.fx_x64_forms.specs.declared.piece.Piece.{Piece}
use Rattle.fx_x64_forms.specs.declared.piece.Target.{Target}
use Rattle.fx_x64_forms.specs.declared.piece.Target.TheVariants.{Label, Function, Stub, Abort, Idle}
use Rattle.fx_x64_forms.specs.declared.piece.Target.TheVariants.{Switch}
use Rattle.fx_c_ast.specs.declared.operator.IntType.{IntType}
use Rattle.fx_c_ast.specs.declared.operator.IntType.TheVariants.{Char, Uchar, Short, Ushort, Int}
use Rattle.fx_c_ast.specs.declared.operator.IntType.TheVariants.{Uint, Long, Ulong}
use Rattle.fx_c_ast.specs.declared.checked.TFunction.{TFunction}
use Rattle.fx_c_ast.specs.declared.checked.TProgram.{TProgram}
use Rattle.fx_c_ast.specs.CheckedTrees.{TyTree, VoidTy, IntTy, StructTy, PtrTy, ArrayTy, ty_tree}
use Rattle.fx_config.specs.declared.configuration.Config.{Config}
use Rattle.fx_sections.specs.declared.placement.Placement.{Placement}
use Rattle.fx_linker.specs.declared.parts.Parts.{Parts}
use Rattle.fx_linker.specs.declared.parts.PartSpot.{PartSpot}
use Rattle.fx_linker.specs.declared.layout.Layout.{Layout}
use Rattle.fx_linker.specs.Entries.{homes, is_counted, counted, numbers_from, first_numbers}
use Rattle.fx_linker.specs.Entries.{entry_numbers_of, entry_places}
use Rattle.fx_linker.specs.Places.{pieces_size, whole_pages, range_starts, ranges_size}
use Rattle.fx_linker.specs.Linked.{parts_layout, outer_reach}
use Rattle.fx_linker_law.specs.Premises.{LeadsInto}
use Rattle.fx_gates_call.specs.Threads.{stop, thread_switch}
use Rattle.fx_gates_call.specs.Runtime.{integer_value, exit_value, exit_value_in, start, switch_at}
use Rattle.fx_gates_call.specs.Runtime.{runtime_pieces}

-- ---- targets

abbrev is_near : Option Target → Bool
is_near None = true
is_near (Some (Label k)) = true
is_near (Some (Function f)) = false
is_near (Some (Stub n)) = true
is_near (Some Abort) = true
is_near (Some Idle) = true
is_near (Some Switch) = true

-- whether pieces lead to no function
abbrev are_near : List Piece → Bool
are_near [] = true
are_near (q ∷ qs) = is_near q.target && are_near qs

near_leads : (functions : List ℕ) (size : ℕ) (t : Option Target) → is_near t ≡ true
    → LeadsInto functions size t
near_leads functions size None near = tt
near_leads functions size (Some (Label k)) near = tt
near_leads functions size (Some (Function f)) near = absurd (false≢true near)
near_leads functions size (Some (Stub n)) near = tt
near_leads functions size (Some Abort) near = tt
near_leads functions size (Some Idle) near = tt
near_leads functions size (Some Switch) near = tt

all_lead : (functions : List ℕ) (size : ℕ) (qs : List Piece) → are_near qs ≡ true
    → All (λ (q : Piece). LeadsInto functions size q.target) qs
all_lead functions size [] near = All-nil (λ (q : Piece). LeadsInto functions size q.target)
all_lead functions size (q ∷ qs) near =
    let parts = and_parts (is_near q.target) (are_near qs) near in
    All-cons (λ (r : Piece). LeadsInto functions size r.target) q qs
    (near_leads functions size q.target parts.0) (all_lead functions size qs parts.1)

joined : (ps qs : List Piece) → are_near ps ≡ true → are_near qs ≡ true
    → are_near (ps ++ qs) ≡ true
joined [] qs first second = second
joined (p ∷ ps) qs first second =
    let parts = and_parts (is_near p.target) (are_near ps) first in
    ap (λ b. b && are_near (ps ++ qs)) parts.0 ∙ joined ps qs parts.1 second

-- ---- the runtime behind its call of `main`

integer_near : (i : IntType) → are_near (integer_value i) ≡ true
integer_near Char = refl
integer_near Uchar = refl
integer_near Short = refl
integer_near Ushort = refl
integer_near Int = refl
integer_near Uint = refl
integer_near Long = refl
integer_near Ulong = refl

exit_near : (t : TyTree) → are_near (exit_value t) ≡ true
exit_near (IntTy i) = integer_near i
exit_near VoidTy = refl
exit_near (StructTy n) = refl
exit_near (PtrTy t) = refl
exit_near (ArrayTy t n) = refl

exit_in_near : (f : Option TFunction) → are_near (exit_value_in f) ≡ true
exit_in_near None = refl
exit_in_near (Some f) = exit_near (ty_tree f.result)

switch_near : (table stride top here : ℕ) → are_near (thread_switch table stride top here) ≡ true
switch_near table stride top here = refl

abbrev ended : TProgram → List Piece
ended p = exit_value_in (slice_get p.functions p.main) ++ stop 0

ended_near : (p : TProgram) → are_near (ended p) ≡ true
ended_near p =
    joined (exit_value_in (slice_get p.functions p.main)) (stop 0)
    (exit_in_near (slice_get p.functions p.main)) refl

behind_near : (p : TProgram) (at : Placement) (k : Config) (here : ℕ)
    → are_near (ended p ++ switch_at at k here ++ stop 4) ≡ true
behind_near p at k here =
    joined (ended p ++ switch_at at k here) (stop 4)
    (joined (ended p) (switch_at at k here) (ended_near p) refl) refl

-- ---- the jump to `main`

numbers_main : (main : ℕ) (next spots : List ℕ) (i : ℕ) (fs : List TFunction) (j : ℕ) → i + j ≡ main
    → slice_index (numbers_from main next spots i fs) j ≡ 0
numbers_main main next spots i [] j e = refl
numbers_main main next spots i (f ∷ fs) zero e =
    let same : i ≡ main = omega (arith, e) in
    ap (λ b. cond b 0 (slice_index next (slice_index spots i))) (eq-eqb i main same)
numbers_main main next spots i (f ∷ fs) (suc j) e =
    numbers_main main (if is_counted main i f then counted next (slice_index spots i) else next)
    spots (i + 1) fs j (omega (arith, e))

starts_within : (at n : ℕ) (rs : List (List Piece)) (c : ℕ) → at + ranges_size rs ≤ n
    → slice_index (range_starts at rs) c ≤ n
starts_within at n [] zero le = omega arith
starts_within at n [] (suc c) le = omega arith
starts_within at n (r ∷ rs) zero le = omega arith
starts_within at n (r ∷ rs) (suc c) le =
    starts_within (at + whole_pages (pieces_size r)) n rs c (omega arith)

main_within : (at : Layout) (numbers : List ℕ) (n main i : ℕ) (spots : List PartSpot) (j : ℕ)
    → i + j ≡ main → slice_index numbers main ≡ 0 → ((c : ℕ) → slice_index at.starts c ≤ n)
    → slice_index (entry_places at numbers i spots) j ≤ n
main_within at numbers n main i [] j e none within = omega arith
main_within at numbers n main i (s ∷ ss) zero e none within =
    let same : i ≡ main = omega (arith, e) in
    let first : slice_index numbers i ≡ 0 = ap (slice_index numbers) same ∙ none in
    omega (arith, first, within s.compartment)
main_within at numbers n main i (s ∷ ss) (suc j) e none within =
    main_within at numbers n main (i + 1) ss j (omega (arith, e)) none within

main_inside : (parts : Parts) (p : TProgram)
    → slice_index (outer_reach parts p (parts_layout parts)).functions p.main
    ≤ (parts_layout parts).size
main_inside parts p =
    let at = parts_layout parts in
    let homed = homes parts.spots in
    let zeroth : 0 + p.main ≡ p.main = omega arith in
    main_within at (entry_numbers_of p parts.spots) at.size p.main 0 parts.spots p.main zeroth
    (numbers_main p.main (first_numbers (slice_index homed p.main)) homed 0 p.functions p.main
    zeroth)
    (λ c. starts_within 0 at.size parts.ranges c (omega arith))

-- the runtime's pieces lead into the code, wherever parts have them
pub inside : (parts : Parts) (p : TProgram) (at : Placement) (k : Config)
    → All (λ (q : Piece). LeadsInto (outer_reach parts p (parts_layout parts)).functions
    (parts_layout parts).size q.target) (runtime_pieces p at k 0)
inside parts p at k =
    let functions = (outer_reach parts p (parts_layout parts)).functions in
    let size = (parts_layout parts).size in
    let here = 0 + length (start p) in
    All-cons (λ (q : Piece). LeadsInto functions size q.target) _
    (ended p ++ switch_at at k here ++ stop 4) (main_inside parts p)
    (all_lead functions size (ended p ++ switch_at at k here ++ stop 4) (behind_near p at k here))
