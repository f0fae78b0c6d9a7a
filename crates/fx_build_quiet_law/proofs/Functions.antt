-- Pieces of functions and of compartments spell no WRPKRU where those of ops, gates and beginnings
-- don't.
use Rattle.std.proofs.Common.{◌≡◌, ℕ, suc, ◌+◌, ◌==◌, ◌≤◌, true, false, Bool, if◌then◌else◌}
use Rattle.std.proofs.Common.{List, [], ◌∷◌}
use Rattle.std.proofs.Common.{◌++◌, length, length-append, slice_index, slice_get, refl, sym, ap}
use Rattle.std.proofs.Common.{◌∙◌, subst, arith}
use Rattle.std.specs.Prelude.{Option, Some, None, IsTrue, All}
use Rattle.std.proofs.lemmas.List.Elements.{All-nil, All-cons, All-append, All-head, All-tail}
use Rattle.fx_x64_forms.specs.declared.piece.Piece.{Piece}
use Rattle.fx_x64_code.specs.Spelling.{spelling}
use Rattle.fx_config.specs.declared.configuration.Compartment.{Compartment}
use Rattle.fx_c_ast.specs.declared.checked.TProgram.{TProgram}
use Rattle.fx_c_lin.specs.Ops.{Op, Step}
use Rattle.fx_linker.specs.Entries.{homes}
use Rattle.fx_linker.specs.Tables.{entries_of, entry_pieces, table_pieces}
use Rattle.fx_linker_law.specs.Premises.{is_quiet, AreQuiet}
use Rattle.fx_match_rel.specs.declared.frames.FrameTable.{FrameTable}
use Rattle.fx_templates.specs.Beginnings.{pieces_of_enter}
use Rattle.fx_templates_quiet_law.specs.Quiet.{ArePlain, HasRegister, OpsAreQuiet}
use Rattle.fx_templates_quiet_law.specs.Quiet.{BeginningsAreQuiet}
use Rattle.fx_templates_quiet_law.specs.Quiet.{GatesAreQuiet, RuntimesAreQuiet}
use Rattle.fx_templates_quiet_law.proofs.Tested.{quiet}
use Rattle.fx_build_parts.specs.declared.plan.Plan.{Plan}
use Rattle.fx_build_parts.specs.Pending.{behind, leads_to, with_mark, pending_at, pending_from}
use Rattle.fx_build_parts.specs.Pending.{pending_before, no_marks}
use Rattle.fx_build_parts.specs.Functions.{site_of, gate_of, gate_or_op, label_of, step_pieces}
use Rattle.fx_build_parts.specs.Functions.{places_from, body_from, function_pieces}
use Rattle.fx_build_parts.specs.Ranges.{own_pieces, functions_from, entry_table, range_of}
use Rattle.fx_build_parts.specs.Ranges.{ranges_from}
use Rattle.fx_build_quiet_law.specs.Quiet.{HasRegisters}
use Rattle.fx_build_quiet_law.proofs.Pending.{AreWithin, at_within, more_within, mark_within}
use Rattle.fx_build_quiet_law.proofs.Pending.{none_within}
use Rattle.fx_build_quiet_law.proofs.Growth.{coded, is_coded, none_coded, grown}

abbrev still : Piece → Type 0
still = λ (q : Piece). IsTrue (is_quiet (spelling q.inst))

both : (ps qs : List Piece) → AreQuiet ps → AreQuiet qs → AreQuiet (ps ++ qs)
both ps qs first second = All-append still ps qs first second

-- what is known of the crate below
pub record Known : Type 0 where
  pub ops : OpsAreQuiet
  pub beginnings : BeginningsAreQuiet
  pub gates : GatesAreQuiet
  pub runtimes : RuntimesAreQuiet

-- ---- ops

gate_or_op_quiet : (x : Known) (plan : Plan) (c f here label count : ℕ) (o : Op) (gate : Option ℕ)
    → ArePlain plan.at → HasRegister o → count ≤ 1048576
    → AreQuiet (gate_or_op plan c f here label count o gate)
gate_or_op_quiet x plan c f here label count o None plain has few =
    x.ops plan.at f here label count o plain has few
gate_or_op_quiet x plan c f here label count o (Some to) plain has few =
    x.gates plan.at f count (site_of plan c to) plain few

step_quiet : (x : Known) (plan : Plan) (c f : ℕ) (counts places : List ℕ) (k here : ℕ) (o : Op)
    → ArePlain plan.at → HasRegister o → slice_index counts k ≤ 1048576
    → AreQuiet (step_pieces plan c f counts places k here o)
step_quiet x plan c f counts places k here o plain has few =
    gate_or_op_quiet x plan c f here (label_of places (leads_to o)) (slice_index counts k) o
    (gate_of o) plain has few

-- ---- bodies

-- of a function that isn't there
nothing_quiet : (plan : Plan) (c f : ℕ) (counts places : List ℕ) (k here : ℕ) (steps : List Step)
    → slice_get plan.at.frames f ≡ None → AreQuiet (body_from plan c f counts places k here steps)
nothing_quiet plan c f counts places k here [] none = All-nil still
nothing_quiet plan c f counts places k here (s ∷ ss) none =
    let one : List Piece = step_pieces plan c f counts places k here s.op in
    let label = label_of places (leads_to s.op) in
    let count = slice_index counts k in
    let is : one ≡ [] =
    is_coded plan c f here label count s.op (gate_of s.op)
    ∙ ap (λ t. coded plan c here label count s.op (gate_of s.op) t) none
    ∙ none_coded plan c here label count s.op (gate_of s.op) in
    both one (body_from plan c f counts places (k + 1) (here + length one) ss)
    (subst AreQuiet (sym is) (All-nil still))
    (nothing_quiet plan c f counts places (k + 1) (here + length one) ss none)

-- what is pending before the ops from place k on, which the list of all counts has there
abbrev Agree : Plan → List ℕ → List (Option ℕ) → (k count : ℕ) → List Step → Type 0
Agree plan counts marks k count steps =
    (j : ℕ) → slice_index counts (k + j)
    ≡ slice_index (pending_from plan.at marks k count steps) j

body_quiet : (x : Known) (plan : Plan) (c f : ℕ) (t : FrameTable) (counts places : List ℕ)
    (marks : List (Option ℕ)) (k here count : ℕ) (steps : List Step)
    → slice_get plan.at.frames f ≡ Some t → ArePlain plan.at → AreWithin here marks → count ≤ here
    → Agree plan counts marks k count steps
    → here + length (body_from plan c f counts places k here steps) ≤ 1048576
    → HasRegisters steps → AreQuiet (body_from plan c f counts places k here steps)
body_quiet x plan c f t counts places marks k here count [] there plain within less agree short
    has =
    All-nil still
body_quiet x plan c f t counts places marks k here count (s ∷ ss) there plain within less agree
    short has =
    let before = pending_at marks k count in
    let one : List Piece = step_pieces plan c f counts places k here s.op in
    let rest : List Piece = body_from plan c f counts places (k + 1) (here + length one) ss in
    let label = label_of places (leads_to s.op) in
    let pending = slice_index counts k in
    let few : before ≤ here = at_within here marks k count within less in
    let first : k + 0 ≡ k = omega arith in
    let same : pending ≡ before = ap (slice_index counts) (sym first) ∙ agree 0 in
    let long : length (one ++ rest) ≡ length one + length rest = length-append one rest in
    let is : one ≡ coded plan c here label pending s.op (gate_of s.op) (Some t) =
    is_coded plan c f here label pending s.op (gate_of s.op)
    ∙ ap (λ o. coded plan c here label pending s.op (gate_of s.op) o) there in
    let size : length one ≡ length (coded plan c here label pending s.op (gate_of s.op) (Some t)) =
    ap length is in
    let more = grown plan c here label pending before s.op t in
    let left : behind plan.at before s.op ≤ here + length one = omega (arith, more, few, size) in
    let further : here ≤ here + length one = omega arith in
    both one rest
    (step_quiet x plan c f counts places k here s.op plain has.0 (omega (arith, same, few, short)))
    (body_quiet x plan c f t counts places
    (with_mark marks (behind plan.at before s.op) (leads_to s.op)) (k + 1) (here + length one)
    (behind plan.at before s.op) ss there plain
    (mark_within (here + length one) marks (behind plan.at before s.op) (leads_to s.op)
    (more_within here (here + length one) marks further within) left)
    left
    (λ j. let next : k + 1 + j ≡ k + suc j = omega arith in ap (slice_index counts) next ∙ agree
    (suc j))
    (omega (arith, long, short)) has.1)

-- ---- functions

function_quiet : (x : Known) (plan : Plan) (c f here : ℕ) (steps : List Step) → ArePlain plan.at
    → c ≤ 16 → here + length (function_pieces plan c f here steps) ≤ 1048576 → HasRegisters steps
    → AreQuiet (function_pieces plan c f here steps)
function_quiet x plan c f here steps plain few short has = by (slice_get plan.at.frames f) refl
  where
    enter : List Piece
    enter = pieces_of_enter plan.at c f here

    counts : List ℕ
    counts = pending_before plan.at steps

    places : List ℕ
    places = places_from plan c f counts 0 (here + length enter) steps

    body : List Piece
    body = body_from plan c f counts places 0 (here + length enter) steps

    long : length (enter ++ body) ≡ length enter + length body
    long = length-append enter body

    agree : Agree plan counts (no_marks (length steps)) 0 0 steps
    agree j = let zeroth : 0 + j ≡ j = omega arith in ap (slice_index counts) zeroth

    by : (t : Option FrameTable) → slice_get plan.at.frames f ≡ t → AreQuiet (enter ++ body)
    by None none =
        both enter body (x.beginnings plan.at c f here plain few)
        (nothing_quiet plan c f counts places 0 (here + length enter) steps none)
    by (Some t) there =
        both enter body (x.beginnings plan.at c f here plain few)
        (body_quiet x plan c f t counts places (no_marks (length steps)) 0 (here + length enter) 0
        steps there plain (none_within (here + length enter) (length steps)) (omega arith) agree
        (omega (arith, long, short)) has)

own_quiet : (x : Known) (plan : Plan) (c f here : ℕ) (steps : List Step) → ArePlain plan.at
    → c ≤ 16 → here + length (own_pieces plan c f here steps) ≤ 1048576 → HasRegisters steps
    → AreQuiet (own_pieces plan c f here steps)
own_quiet x plan c f here steps plain few short has =
    by (slice_index (homes plan.spots) f == c) short
  where
    by : (b : Bool)
        → here + length (if b then function_pieces plan c f here steps else []) ≤ 1048576
        → AreQuiet (if b then function_pieces plan c f here steps else [])
    by true fits = function_quiet x plan c f here steps plain few fits has
    by false fits = All-nil still

functions_quiet : (x : Known) (plan : Plan) (c f here : ℕ) (code : List (List Step))
    → ArePlain plan.at → c ≤ 16 → here + length (functions_from plan c f here code) ≤ 1048576
    → All HasRegisters code → AreQuiet (functions_from plan c f here code)
functions_quiet x plan c f here [] plain few short has = All-nil still
functions_quiet x plan c f here (steps ∷ more) plain few short has =
    let own : List Piece = own_pieces plan c f here steps in
    let rest : List Piece = functions_from plan c (f + 1) (here + length own) more in
    let long : length (own ++ rest) ≡ length own + length rest = length-append own rest in
    both own rest
    (own_quiet x plan c f here steps plain few (omega (arith, long, short))
    (All-head HasRegisters steps more has))
    (functions_quiet x plan c (f + 1) (here + length own) more plain few
    (omega (arith, long, short)) (All-tail HasRegisters steps more has))

-- ---- compartments

table_quiet : (entries : List ℕ) → AreQuiet (table_pieces entries)
table_quiet [] = All-nil still
table_quiet (f ∷ fs) =
    both (entry_pieces f) (table_pieces fs) (quiet (entry_pieces f) refl) (table_quiet fs)

range_quiet : (x : Known) (p : TProgram) (plan : Plan) (code : List (List Step)) (c : ℕ)
    → ArePlain plan.at → c ≤ 16 → length (range_of p plan code c) ≤ 1048576 → All HasRegisters code
    → AreQuiet (range_of p plan code c)
range_quiet x p plan code c plain few short has =
    let table : List Piece = entry_table p plan c in
    let rest : List Piece = functions_from plan c 0 (length table) code in
    let long : length (table ++ rest) ≡ length table + length rest = length-append table rest in
    both table rest (table_quiet (entries_of p plan.spots c))
    (functions_quiet x plan c 0 (length table) code plain few (omega (arith, long, short)) has)

pub ranges_quiet : (x : Known) (p : TProgram) (plan : Plan) (code : List (List Step)) (c : ℕ)
    (comps : List Compartment) → ArePlain plan.at → c + length comps ≤ 16
    → All (λ (r : List Piece). length r ≤ 1048576) (ranges_from p plan code c comps)
    → All HasRegisters code → All AreQuiet (ranges_from p plan code c comps)
ranges_quiet x p plan code c [] plain few short has = All-nil AreQuiet
ranges_quiet x p plan code c (k ∷ ks) plain few short has =
    let one : List Piece = range_of p plan code c in
    let rest : List (List Piece) = ranges_from p plan code (c + 1) ks in
    All-cons AreQuiet one rest
    (range_quiet x p plan code c plain (omega arith)
    (All-head (λ (r : List Piece). length r ≤ 1048576) one rest short) has)
    (ranges_quiet x p plan code (c + 1) ks plain (omega arith)
    (All-tail (λ (r : List Piece). length r ≤ 1048576) one rest short) has)
