-- Code of which each piece is an instruction of the subset, as the linker takes it.
use Rattle.std.specs.Prelude.{ℕ}
use Rattle.fx_c_ast.specs.declared.checked.TProgram.{TProgram}
use Rattle.fx_config.specs.declared.configuration.Config.{Config}
use Rattle.fx_sections.specs.declared.placement.Placement.{Placement}
use Rattle.fx_match_rel.specs.declared.addresses.Addresses.{Addresses}
use Rattle.fx_match_rel.specs.declared.context.GateSite.{GateSite}
use Rattle.fx_linker.specs.Linked.{AreRows}
use Rattle.fx_gates_call.specs.Gates.{pieces_of_gate}
use Rattle.fx_gates_call.specs.Runtime.{runtime_pieces}

abbrev pub GatesAreRows : Type 0
GatesAreRows =
    (a : Addresses) (function count : ℕ) (site : GateSite)
    → AreRows (pieces_of_gate a function count site)

abbrev pub RuntimesAreRows : Type 0
RuntimesAreRows =
    (p : TProgram) (at : Placement) (k : Config) (here : ℕ) → AreRows (runtime_pieces p at k here)
