-- The pieces of ops and of beginnings are instructions of the subset, wherever they stand.
use Rattle.std.specs.Prelude.{ℕ}
use Rattle.fx_c_lin.specs.Ops.{Op}
use Rattle.fx_match_rel.specs.declared.addresses.Addresses.{Addresses}
use Rattle.fx_linker.specs.Linked.{AreRows}
use Rattle.fx_templates.specs.Ops.{pieces_of}
use Rattle.fx_templates.specs.Beginnings.{pieces_of_enter}

abbrev pub OpsAreRows : Type 0
OpsAreRows =
    (a : Addresses) (function here label count : ℕ) (o : Op)
    → AreRows (pieces_of a function here label count o)

abbrev pub BeginningsAreRows : Type 0
BeginningsAreRows =
    (a : Addresses) (compartment function here : ℕ)
    → AreRows (pieces_of_enter a compartment function here)
