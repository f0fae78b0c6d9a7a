-- The parts of a program's image have what the image asks of them.
use Rattle.std.proofs.Common.{◌≡◌, ◌≤◌, ◌<◌, ℕ, ◌+◌, Bool, true, false, ◌==◌, List, [], ◌∷◌, length}
use Rattle.std.proofs.Common.{length-append, inr, refl, sym, ap, ◌∙◌, arith}
use Rattle.std.specs.Prelude.{slice_index_or, if◌then◌else◌}
use Rattle.std.specs.List.{All}
use Rattle.std.proofs.lemmas.List.Elements.{All-nil, All-cons}
use Rattle.fx_x64_forms.specs.declared.piece.Piece.{Piece}
use Rattle.fx_config.specs.declared.configuration.Compartment.{Compartment}
use Rattle.fx_config.specs.declared.configuration.Config.{Config}
use Rattle.fx_c_ast.specs.declared.checked.TProgram.{TProgram}
use Rattle.fx_c_lin.specs.Ops.{Step}
use Rattle.fx_c_mean_model.specs.Programs.{program_of}
use Rattle.fx_c_lower_model.specs.Code.{code_of}
use Rattle.fx_grants.specs.declared.grants.Grants.{Grants}
use Rattle.fx_sections.specs.declared.placement.Placement.{Placement}
use Rattle.fx_gates_call.specs.Threads.{stop}
use Rattle.fx_gates_call.specs.Runtime.{first_table, table_of, tables_from, up_to_abort}
use Rattle.fx_gates_call.specs.Runtime.{runtime_pieces}
use Rattle.fx_linker.specs.Data.{mechanism_number}
use Rattle.fx_linker.specs.Places.{pieces_size, whole_pages}
use Rattle.fx_linker.specs.Linked.{parts_layout, outer_reach}
use Rattle.fx_linker_law.specs.Premises.{IsMade, IsShort, HasEntries}
use Rattle.fx_build_parts.specs.declared.plan.Plan.{Plan}
use Rattle.fx_build_parts.specs.Ranges.{range_of, ranges_from, all_begins_from}
use Rattle.fx_build_parts.specs.Parts.{plan_of, parts_of, IsBuildable}
use Rattle.fx_built_parts_law.specs.Whole.{HasFunctions, PartsAreWhole}
use Rattle.fx_built_parts_law.proofs.Sizes.{size_append, page_some, ranges_length, range_at}
use Rattle.fx_built_parts_law.proofs.Counted.{all_counted, all_few}
use Rattle.fx_built_parts_law.proofs.Records.{all_fit}
use Rattle.fx_built_parts_law.proofs.Homes.{main_within}
use Rattle.fx_built_parts_law.proofs.Inside.{runtime_led, main_inside}

-- ---- tables

abbrev Fits : List ℕ → Type 0
Fits bytes = length bytes ≤ 4096

first_fits : length first_table ≤ 4096
first_fits = let same : length first_table ≡ 257 = refl in omega (arith, same)

table_fits : (b : Bool) → Fits (if b then first_table else [])
table_fits true = first_fits
table_fits false = omega arith

tables_fit : (scheduler c : ℕ) (xs : List Compartment) → All Fits (tables_from scheduler c xs)
tables_fit scheduler c [] = All-nil Fits
tables_fit scheduler c (x ∷ xs) =
    All-cons Fits (table_of scheduler c) (tables_from scheduler (c + 1) xs)
    (table_fits (c == scheduler)) (tables_fit scheduler (c + 1) xs)

-- ---- ranges and runtime

abbrev lowered : TProgram → List (List Step)
lowered p = code_of (program_of p)

-- the abort stub is the last of the runtime
abort_inside : (p : TProgram) (at : Placement) (k : Config)
    → 0 + length (up_to_abort p at k 0) < length (runtime_pieces p at k 0)
abort_inside p at k = omega (arith, length-append (up_to_abort p at k 0) (stop 4))

made : (p : TProgram) (g : Grants) (at : Placement) (k : Config) → IsBuildable p at k
    → HasFunctions p g k → IsMade (parts_of p g at k) p k
made p g at k buildable has =
    let runtime : List Piece = runtime_pieces p at k 0 in
    let abort = abort_inside p at k in
    record {
      ranges = ranges_length p (plan_of p g at k) (lowered p) 0 k.compartments;
      home =
          main_within (all_begins_from p (plan_of p g at k) (lowered p) 0 k.compartments) p g k
          has.homes has.main;
      abort = abort;
      starts =
          All-cons (λ (piece : ℕ). piece < length runtime) 0 [] (omega arith)
          (All-nil (λ (piece : ℕ). piece < length runtime));
      vcpus =
          sym (ap (λ m. if mechanism_number m == 3 then length k.compartments else 1)
          buildable.plain);
    }

-- ---- entries

-- the runtime has a page at least
runtime_page : (p : TProgram) (at : Placement) (k : Config)
    → 4096 ≤ whole_pages (pieces_size (runtime_pieces p at k 0))
runtime_page p at k =
    let both = size_append (up_to_abort p at k 0) (stop 4) in
    let last : 1 ≤ pieces_size (stop 4) = omega arith in
    page_some (pieces_size (runtime_pieces p at k 0)) (omega (arith, both, last))

entries : (p : TProgram) (g : Grants) (at : Placement) (k : Config) → HasFunctions p g k
    → IsShort (parts_of p g at k) → HasEntries (parts_of p g at k) k
entries p g at k has short =
    let plan : Plan = plan_of p g at k in
    let ranges : List (List Piece) = ranges_from p plan (lowered p) 0 k.compartments in
    let many = ranges_length p plan (lowered p) 0 k.compartments in
    let page = runtime_page p at k in
    let few = all_few p plan (lowered p) k 0 k.compartments in
    record {
      few = omega (arith, few, page);
      each =
          all_fit k ranges p plan (lowered p) 0 k.compartments has.names
          (λ j less. stands p plan k j (omega arith)) (omega arith);
      counted =
          all_counted p plan (lowered p) k 0 0 0 k.compartments has.main (inr (refl, refl))
          (omega arith);
    }
  where
    stands : (q : TProgram) (plan : Plan) (c : Config) (j : ℕ) → j < length c.compartments
        → slice_index_or (ranges_from q plan (lowered q) 0 c.compartments) j []
        ≡ range_of q plan (lowered q) j
    stands q plan c j less =
        let same : 0 + j ≡ j = omega arith in
        range_at q plan (lowered q) 0 c.compartments j less ∙ ap (range_of q plan (lowered q)) same

pub whole : PartsAreWhole
whole p g at k buildable has short = record {
  made = made p g at k buildable has;
  inside =
      let parts = parts_of p g at k in
      runtime_led (outer_reach parts p (parts_layout parts)).functions (parts_layout parts).size
      p at k 0 (main_inside parts p);
  entries = entries p g at k has short;
  tables = tables_fit k.scheduler 0 k.compartments;
  stubs = refl;
}
