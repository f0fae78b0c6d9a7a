use Rattle.std.specs.Prelude.{◌≡◌, ℕ, List, [], ◌∷◌, Option, Some, None, Result, Ok, Err}
use Rattle.fx_base.specs.declared.source.SourceFailed.{SourceFailed}

-- One reading of a source that holds these bytes: it gives the next byte, and None at their end. One that
-- fails takes nothing.
abbrev pub GivesByte : Result (Option ℕ) SourceFailed → List ℕ → List ℕ → Type 0
GivesByte (Ok None) left after = (left ≡ []) × (after ≡ [])
GivesByte (Ok (Some byte)) left after = left ≡ byte ∷ after
GivesByte (Err _) left after = after ≡ left
