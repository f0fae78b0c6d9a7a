-- The runtime of a program's image leads into the code.
use Rattle.std.proofs.Common.{◌≡◌, ◌≤◌, ℕ, zero, suc, ◌+◌, Bool, true, false, ◌==◌, List, [], ◌∷◌}
use Rattle.std.proofs.Common.{◌++◌, length, Option, Some, None, refl, ap, ◌∙◌, arith}
use Rattle.std.specs.Prelude.{slice_index, slice_get, if◌then◌else◌}
use Rattle.std.specs.List.{All, list_all}
use Rattle.std.proofs.lemmas.Bool.{and_from, and_parts, eq-eqb}
use Rattle.std.proofs.lemmas.List.Folds.{list_all-append}
use Rattle.std.proofs.lemmas.List.Elements.{All-nil, All-cons, All-append}
use Rattle.fx_x64_forms.specs.declared.piece.Piece.{Piece}
use Rattle.fx_x64_forms.specs.declared.piece.Target.{Target}
use Rattle.fx_x64_forms.specs.declared.piece.Target.TheVariants.{Label, Function, Stub, Abort}
use Rattle.fx_x64_forms.specs.declared.piece.Target.TheVariants.{Idle, Switch}
use Rattle.fx_c_ast.specs.declared.operator.IntType.{IntType}
use Rattle.fx_c_ast.specs.declared.operator.IntType.TheVariants.{Char, Uchar, Short, Ushort, Int}
use Rattle.fx_c_ast.specs.declared.operator.IntType.TheVariants.{Uint, Long, Ulong}
use Rattle.fx_c_ast.specs.declared.checked.TFunction.{TFunction}
use Rattle.fx_c_ast.specs.declared.checked.TProgram.{TProgram}
use Rattle.fx_c_ast.specs.CheckedTrees.{TyTree, VoidTy, IntTy, StructTy, PtrTy, ArrayTy, ty_tree}
use Rattle.fx_config.specs.declared.configuration.Config.{Config}
use Rattle.fx_sections.specs.declared.placement.Placement.{Placement}
use Rattle.fx_templates_core.specs.Pieces.{call}
use Rattle.fx_gates_call.specs.Threads.{stop}
use Rattle.fx_gates_call.specs.Runtime.{integer_value, exit_value, exit_value_in, start, switch_at}
use Rattle.fx_gates_call.specs.Runtime.{up_to_abort, runtime_pieces}
use Rattle.fx_linker.specs.declared.layout.Layout.{Layout}
use Rattle.fx_linker.specs.declared.parts.PartSpot.{PartSpot}
use Rattle.fx_linker.specs.declared.parts.Parts.{Parts}
use Rattle.fx_linker.specs.Places.{pieces_size, whole_pages, range_starts, ranges_size}
use Rattle.fx_linker.specs.Entries.{homes, counted, is_counted, numbers_from, first_numbers}
use Rattle.fx_linker.specs.Entries.{entry_numbers_of, entry_places}
use Rattle.fx_linker.specs.Linked.{parts_layout}
use Rattle.fx_linker_law.specs.Premises.{LeadsInto}

-- ---- which pieces of a runtime lead to functions

-- a piece that leads nowhere, or to a piece of its own list
abbrev stays : Option Target → Bool
stays None = true
stays (Some (Label n)) = true
stays (Some (Function f)) = false
stays (Some (Stub n)) = false
stays (Some Abort) = false
stays (Some Idle) = false
stays (Some Switch) = false

abbrev stays_in : Piece → Bool
stays_in q = stays q.target

abbrev Stay : List Piece → Type 0
Stay ps = list_all stays_in ps ≡ true

joined : (xs ys : List Piece) → Stay xs → Stay ys → Stay (xs ++ ys)
joined xs ys x y =
    list_all-append stays_in xs ys
    ∙ and_from (list_all stays_in xs) (list_all stays_in ys) x y

integer_stays : (i : IntType) → Stay (integer_value i)
integer_stays Char = refl
integer_stays Uchar = refl
integer_stays Short = refl
integer_stays Ushort = refl
integer_stays Int = refl
integer_stays Uint = refl
integer_stays Long = refl
integer_stays Ulong = refl

exit_stays : (t : TyTree) → Stay (exit_value t)
exit_stays (IntTy i) = integer_stays i
exit_stays VoidTy = refl
exit_stays (StructTy n) = refl
exit_stays (PtrTy t) = refl
exit_stays (ArrayTy t n) = refl

exit_in_stays : (f : Option TFunction) → Stay (exit_value_in f)
exit_in_stays None = refl
exit_in_stays (Some f) = exit_stays (ty_tree f.result)

switch_stays : (at : Placement) (k : Config) (here : ℕ) → Stay (switch_at at k here)
switch_stays at k here = refl

module _ (functions : List ℕ) (size : ℕ) where
  abbrev Leads : Piece → Type 0
  Leads q = LeadsInto functions size q.target

  led : (t : Option Target) → stays t ≡ true → LeadsInto functions size t
  led None is = tt
  led (Some (Label n)) is = tt
  led (Some (Function f)) is = absurd cc
  led (Some (Stub n)) is = tt
  led (Some Abort) is = tt
  led (Some Idle) is = tt
  led (Some Switch) is = tt

  all_led : (ps : List Piece) → Stay ps → All Leads ps
  all_led [] stay = All-nil Leads
  all_led (p ∷ ps) stay =
      let parts = and_parts (stays_in p) (list_all stays_in ps) stay in
      All-cons Leads p ps (led p.target parts.0) (all_led ps parts.1)

  start_led : (p : TProgram) → slice_index functions p.main ≤ size → All Leads (start p)
  start_led p inside =
      let rest : List Piece = exit_value_in (slice_get p.functions p.main) ++ stop 0 in
      All-cons Leads (call (Function p.main)) rest inside
      (all_led rest (joined (exit_value_in (slice_get p.functions p.main)) (stop 0)
      (exit_in_stays (slice_get p.functions p.main)) refl))

  -- where the jump to `main` has its place in the code
  pub runtime_led : (p : TProgram) (at : Placement) (k : Config) (here : ℕ)
      → slice_index functions p.main ≤ size → All Leads (runtime_pieces p at k here)
  runtime_led p at k here inside =
      let switch : List Piece = switch_at at k (here + length (start p)) in
      All-append Leads (up_to_abort p at k here) (stop 4)
      (All-append Leads (start p) switch (start_led p inside)
      (all_led switch (switch_stays at k (here + length (start p)))))
      (all_led (stop 4) refl)

-- ---- where the jump to `main` is

-- ranges begin no later than the last one ends
starts_within : (at : ℕ) (rs : List (List Piece)) (c : ℕ)
    → slice_index (range_starts at rs) c ≤ at + ranges_size rs
starts_within at [] zero = omega arith
starts_within at [] (suc c) = omega arith
starts_within at (r ∷ rs) zero = omega arith
starts_within at (r ∷ rs) (suc c) =
    omega (arith, starts_within (at + whole_pages (pieces_size r)) rs c)

-- a jump of number 0 stands where its compartment's range begins
first_within : (at : Layout) (numbers : List ℕ) (i : ℕ) (spots : List PartSpot) (j bound : ℕ)
    → slice_index numbers (i + j) ≡ 0 → ((c : ℕ) → slice_index at.starts c ≤ bound)
    → slice_index (entry_places at numbers i spots) j ≤ bound
first_within at numbers i [] j bound none within = omega arith
first_within at numbers i (s ∷ ss) zero bound none within =
    let same : i ≡ i + 0 = omega arith in
    let zeroth : slice_index numbers i ≡ 0 = ap (slice_index numbers) same ∙ none in
    let less = within s.compartment in
    omega (arith, zeroth, less)
first_within at numbers i (s ∷ ss) (suc j) bound none within =
    let same : i + 1 + j ≡ i + suc j = omega arith in
    first_within at numbers (i + 1) ss j bound (ap (slice_index numbers) same ∙ none) within

-- `main` has number 0
main_number : (main : ℕ) (numbers places : List ℕ) (i : ℕ) (fs : List TFunction) (j : ℕ)
    → i + j ≡ main → slice_index (numbers_from main numbers places i fs) j ≡ 0
main_number main numbers places i [] j is = refl
main_number main numbers places i (f ∷ fs) zero is =
    let same : (i == main) ≡ true = eq-eqb i main (omega arith) in
    ap (λ b. if b then 0 else slice_index numbers (slice_index places i)) same
main_number main numbers places i (f ∷ fs) (suc j) is =
    main_number main
    (if is_counted main i f then counted numbers (slice_index places i) else numbers) places
    (i + 1) fs j (omega arith)

-- the jump to `main` stands in the code
pub main_inside : (parts : Parts) (p : TProgram)
    → slice_index (entry_places (parts_layout parts) (entry_numbers_of p parts.spots) 0 parts.spots)
    p.main ≤ (parts_layout parts).size
main_inside parts p =
    let zero_first : 0 + p.main ≡ p.main = omega arith in
    let numbers : List ℕ = entry_numbers_of p parts.spots in
    let none : slice_index numbers p.main ≡ 0 =
    main_number p.main (first_numbers (slice_index (homes parts.spots) p.main))
    (homes parts.spots) 0 p.functions p.main zero_first in
    first_within (parts_layout parts) numbers 0 parts.spots p.main (parts_layout parts).size
    (ap (slice_index numbers) zero_first ∙ none)
    (λ c. omega (arith, starts_within 0 parts.ranges c))
