-- Pieces of functions and of compartments are rows where those of ops, gates and beginnings are.
use Rattle.std.proofs.Common.{ℕ, ◌+◌, ◌==◌, true, false, Bool, if◌then◌else◌, List, [], ◌∷◌}
use Rattle.std.proofs.Common.{◌++◌, length, slice_index, refl}
use Rattle.std.specs.Prelude.{Option, Some, None, IsTrue}
use Rattle.std.specs.List.{All}
use Rattle.std.proofs.lemmas.List.Elements.{All-nil, All-cons, All-append}
use Rattle.fx_x64_forms.specs.declared.piece.Piece.{Piece}
use Rattle.fx_x64_code.specs.Spelling.{has_row}
use Rattle.fx_config.specs.declared.configuration.Config.{Config}
use Rattle.fx_config.specs.declared.configuration.Compartment.{Compartment}
use Rattle.fx_c_ast.specs.declared.checked.TProgram.{TProgram}
use Rattle.fx_c_mean_model.specs.Programs.{program_of}
use Rattle.fx_c_lin.specs.Ops.{Op, Step}
use Rattle.fx_c_lower_model.specs.Code.{code_of}
use Rattle.fx_grants.specs.declared.grants.Grants.{Grants}
use Rattle.fx_sections.specs.declared.placement.Placement.{Placement}
use Rattle.fx_linker.specs.Entries.{homes}
use Rattle.fx_linker.specs.Linked.{AreRows, IsLinkable}
use Rattle.fx_linker.specs.Tables.{entries_of, entry_pieces, table_pieces}
use Rattle.fx_templates.specs.Beginnings.{pieces_of_enter}
use Rattle.fx_templates_law.proofs.Tested.{rows}
use Rattle.fx_templates_law.specs.Rows.{OpsAreRows, BeginningsAreRows}
use Rattle.fx_gates_call_law.specs.Rows.{GatesAreRows, RuntimesAreRows}
use Rattle.fx_build_parts.specs.declared.plan.Plan.{Plan}
use Rattle.fx_build_parts.specs.Pending.{leads_to, pending_before}
use Rattle.fx_build_parts.specs.Functions.{site_of, gate_of, gate_or_op, label_of, step_pieces}
use Rattle.fx_build_parts.specs.Functions.{places_from, body_from, function_pieces}
use Rattle.fx_build_parts.specs.Ranges.{own_pieces, functions_from, entry_table, range_of}
use Rattle.fx_build_parts.specs.Ranges.{ranges_from}
use Rattle.fx_build_parts.specs.Parts.{plan_of, parts_of, IsBuildable}

abbrev row : Piece → Type 0
row = λ (p : Piece). IsTrue (has_row p.inst)

both : (ps qs : List Piece) → AreRows ps → AreRows qs → AreRows (ps ++ qs)
both ps qs first second = All-append row ps qs first second

-- what is known of the crates below
pub record Known : Type 0 where
  pub ops : OpsAreRows
  pub beginnings : BeginningsAreRows
  pub gates : GatesAreRows
  pub runtimes : RuntimesAreRows

gate_or_op_rows : (x : Known) (plan : Plan) (c f here label count : ℕ) (o : Op) (gate : Option ℕ)
    → AreRows (gate_or_op plan c f here label count o gate)
gate_or_op_rows x plan c f here label count o None = x.ops plan.at f here label count o
gate_or_op_rows x plan c f here label count o (Some to) =
    x.gates plan.at f count (site_of plan c to)

step_rows : (x : Known) (plan : Plan) (c f : ℕ) (counts places : List ℕ) (k here : ℕ) (o : Op)
    → AreRows (step_pieces plan c f counts places k here o)
step_rows x plan c f counts places k here o =
    gate_or_op_rows x plan c f here (label_of places (leads_to o)) (slice_index counts k) o
    (gate_of o)

body_rows : (x : Known) (plan : Plan) (c f : ℕ) (counts places : List ℕ) (k here : ℕ)
    (steps : List Step) → AreRows (body_from plan c f counts places k here steps)
body_rows x plan c f counts places k here [] = All-nil row
body_rows x plan c f counts places k here (s ∷ ss) =
    let one : List Piece = step_pieces plan c f counts places k here s.op in
    both one (body_from plan c f counts places (k + 1) (here + length one) ss)
    (step_rows x plan c f counts places k here s.op)
    (body_rows x plan c f counts places (k + 1) (here + length one) ss)

function_rows : (x : Known) (plan : Plan) (c f here : ℕ) (steps : List Step)
    → AreRows (function_pieces plan c f here steps)
function_rows x plan c f here steps =
    let enter : List Piece = pieces_of_enter plan.at c f here in
    let counts : List ℕ = pending_before plan.at steps in
    let start : ℕ = here + length enter in
    let places : List ℕ = places_from plan c f counts 0 start steps in
    both enter (body_from plan c f counts places 0 start steps)
    (x.beginnings plan.at c f here) (body_rows x plan c f counts places 0 start steps)

own_if : (b : Bool) (ps : List Piece) → AreRows ps → AreRows (if b then ps else [])
own_if true ps all = all
own_if false ps all = All-nil row

own_rows : (x : Known) (plan : Plan) (c f here : ℕ) (steps : List Step)
    → AreRows (own_pieces plan c f here steps)
own_rows x plan c f here steps =
    own_if (slice_index (homes plan.spots) f == c) (function_pieces plan c f here steps)
    (function_rows x plan c f here steps)

functions_rows : (x : Known) (plan : Plan) (c f here : ℕ) (code : List (List Step))
    → AreRows (functions_from plan c f here code)
functions_rows x plan c f here [] = All-nil row
functions_rows x plan c f here (steps ∷ more) =
    let own : List Piece = own_pieces plan c f here steps in
    both own (functions_from plan c (f + 1) (here + length own) more)
    (own_rows x plan c f here steps) (functions_rows x plan c (f + 1) (here + length own) more)

table_rows : (entries : List ℕ) → AreRows (table_pieces entries)
table_rows [] = All-nil row
table_rows (f ∷ fs) =
    both (entry_pieces f) (table_pieces fs) (rows (entry_pieces f) refl) (table_rows fs)

range_rows : (x : Known) (p : TProgram) (plan : Plan) (code : List (List Step)) (c : ℕ)
    → AreRows (range_of p plan code c)
range_rows x p plan code c =
    let table : List Piece = entry_table p plan c in
    both table (functions_from plan c 0 (length table) code)
    (table_rows (entries_of p plan.spots c)) (functions_rows x plan c 0 (length table) code)

ranges_rows : (x : Known) (p : TProgram) (plan : Plan) (code : List (List Step)) (c : ℕ)
    (comps : List Compartment) → All AreRows (ranges_from p plan code c comps)
ranges_rows x p plan code c [] = All-nil AreRows
ranges_rows x p plan code c (k ∷ ks) =
    All-cons AreRows (range_of p plan code c) (ranges_from p plan code (c + 1) ks)
    (range_rows x p plan code c) (ranges_rows x p plan code (c + 1) ks)

pub linkable : (x : Known) (p : TProgram) (g : Grants) (at : Placement) (k : Config)
    → IsBuildable p at k → IsLinkable (parts_of p g at k) p at k
linkable x p g at k b = record {
  ranges = ranges_rows x p (plan_of p g at k) (code_of (program_of p)) 0 k.compartments;
  runtime = x.runtimes p at k 0;
  structs = b.frames.structs;
  globals = b.globals;
  few = b.compartments;
  sections = b.sections;
}
