-- The machine code of a function.
--
-- A jump names the piece at which the op begins to which it leads. How many pieces an op becomes
-- doesn't depend on that; so ops are placed first.
use Rattle.std.specs.Prelude.{ℕ, ◌+◌, ◌%◌, ◌^◌, List, [], ◌∷◌, ◌++◌, length, slice_index, Option}
use Rattle.std.specs.Prelude.{Some, None}
use Rattle.fx_x64_forms.specs.declared.piece.Piece.{Piece}
use Rattle.fx_c_lin.specs.Ops.{Op, Step}
use Rattle.fx_c_lin.specs.Ops as op
use Rattle.fx_linker.specs.Entries.{homes}
use Rattle.fx_match_rel.specs.declared.context.GateSite.{GateSite}
use Rattle.fx_templates.specs.Ops.{pieces_of}
use Rattle.fx_templates.specs.Beginnings.{pieces_of_enter}
use Rattle.fx_gates_call.specs.Gates.{pieces_of_gate}
use Rattle.fx_build_parts.specs.declared.plan.Plan.{Plan}
use Rattle.fx_build_parts.specs.Pending.{leads_to, pending_before}

-- ---- ops

-- a gate from a compartment to an entry function
abbrev pub site_of : Plan → (c f : ℕ) → GateSite
site_of plan c f = record {
  from = c;
  to = slice_index (homes plan.spots) f;
  function = f;
  entry = slice_index plan.numbers f % 2 ^ 16;
}

-- the entry function to which an op is a gate
abbrev pub gate_of : Op → Option ℕ
gate_of (op.Gate f) = Some f
gate_of o = None

-- The code of an op of function f in compartment c, which begins at the piece `here` and leads to
-- the piece `label`.
abbrev pub gate_or_op : Plan → (c f here label count : ℕ) → Op → Option ℕ → List Piece
gate_or_op plan c f here label count o None = pieces_of plan.at f here label count o
gate_or_op plan c f here label count o (Some to) =
    pieces_of_gate plan.at f count (site_of plan c to)

abbrev pub op_pieces : Plan → (c f here label count : ℕ) → Op → List Piece
op_pieces plan c f here label count o = gate_or_op plan c f here label count o (gate_of o)

-- the piece of a place among those at which ops begin
abbrev pub label_of : List ℕ → Option ℕ → ℕ
label_of places None = 0
label_of places (Some to) = slice_index places to

-- the code of the op at place k
abbrev pub step_pieces : Plan → (c f : ℕ) → (counts places : List ℕ) → (k here : ℕ) → Op
    → List Piece
step_pieces plan c f counts places k here o =
    op_pieces plan c f here (label_of places (leads_to o)) (slice_index counts k) o

-- ---- bodies

-- the pieces at which the ops from place k on begin, and the one behind them
abbrev pub places_from : Plan → (c f : ℕ) → (counts : List ℕ) → (k here : ℕ) → List Step → List ℕ
places_from plan c f counts k here [] = here ∷ []
places_from plan c f counts k here (x ∷ xs) =
    here ∷ places_from plan c f counts (k + 1)
    (here + length (step_pieces plan c f counts [] k here x.op)) xs

-- the code of the ops from place k on
abbrev pub body_from : Plan → (c f : ℕ) → (counts places : List ℕ) → (k here : ℕ) → List Step
    → List Piece
body_from plan c f counts places k here [] = []
body_from plan c f counts places k here (x ∷ xs) =
    step_pieces plan c f counts places k here x.op
    ++ body_from plan c f counts places (k + 1)
    (here + length (step_pieces plan c f counts places k here x.op)) xs

abbrev pub body_with : Plan → (c f : ℕ) → (counts : List ℕ) → (here : ℕ) → List Step → List Piece
body_with plan c f counts here steps =
    body_from plan c f counts (places_from plan c f counts 0 here steps) 0 here steps

-- the code of a function's ops, which begins at the piece `here`
abbrev pub body_pieces : Plan → (c f here : ℕ) → List Step → List Piece
body_pieces plan c f here steps = body_with plan c f (pending_before plan.at steps) here steps

-- The code of function f in compartment c, which begins at the piece `here`: its beginning, and its
-- ops.
abbrev pub function_pieces : Plan → (c f here : ℕ) → List Step → List Piece
function_pieces plan c f here steps =
    pieces_of_enter plan.at c f here
    ++ body_pieces plan c f (here + length (pieces_of_enter plan.at c f here)) steps
