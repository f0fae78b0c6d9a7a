-- Plain gates: a call, with room for 16 bytes where it leads to another compartment.
use Rattle.std.specs.Prelude.{ℕ, ◌==◌, if◌then◌else◌, pos, List, [], ◌∷◌, ◌++◌, slice_get, Option}
use Rattle.std.specs.Prelude.{Some, None}
use Rattle.fx_x64_forms.specs.declared.operand.Reg.TheVariants.{Rsp}
use Rattle.fx_x64_forms.specs.declared.inst.AluOp.TheVariants.{Add, Sub}
use Rattle.fx_x64_forms.specs.declared.piece.Piece.{Piece}
use Rattle.fx_match_rel.specs.declared.addresses.Addresses.{Addresses}
use Rattle.fx_match_rel.specs.declared.frames.FrameTable.{FrameTable}
use Rattle.fx_match_rel.specs.declared.context.GateSite.{GateSite}
use Rattle.fx_templates_core.specs.Pieces.{alu_number}
use Rattle.fx_templates_core.specs.Cores.{cut_to}
use Rattle.fx_templates_core.specs.Functions.{result_width_at, called}

-- The two words above the return address stay unused; the result is cut to the entry's type.
abbrev pub between : Addresses → (locals count f : ℕ) → List Piece
between a locals count f =
    (alu_number Sub Rsp (pos 16) ∷ called a locals count f)
    ++ alu_number Add Rsp (pos 16) ∷ cut_to (result_width_at a f)

-- within a compartment it is the call alone
abbrev pub gate : Addresses → (locals count : ℕ) → GateSite → List Piece
gate a locals count site =
    if site.from == site.to
    then called a locals count site.function
    else between a locals count site.function

abbrev pub gate_in : Addresses → (count : ℕ) → GateSite → Option FrameTable → List Piece
gate_in a count site None = []
gate_in a count site (Some t) = gate a t.locals count site

-- The code of a gate in a function, with so many operands pending; a function that isn't there has
-- none.
abbrev pub pieces_of_gate : Addresses → (function count : ℕ) → GateSite → List Piece
pieces_of_gate a function count site = gate_in a count site (slice_get a.frames function)
