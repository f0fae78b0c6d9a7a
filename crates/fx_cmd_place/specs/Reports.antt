-- How the command ends: its status, and what the error stream took.
use Rattle.std.specs.Prelude.{◌≡◌, ℕ, [], ◌∷◌, ◌++◌, Result, Ok, Err}
use Rattle.fx_base.specs.Told.{Told}
use Rattle.fx_cmd_base.specs.Streams.{TookNothing}
use Rattle.fx_cmd_base.specs.Ends.{ErrorStream, EndedOrWanted}
use Rattle.fx_cmd_place.specs.declared.failure.PlaceFailure.{PlaceFailure}
use Rattle.fx_cmd_place.specs.Failures.{failure_status, failure_words}

-- Status 0 has no line. Each failure has its status and its line; or there was no memory for the line.
abbrev pub Reports : Result (Unit {0}) PlaceFailure → ℕ → ErrorStream → Type 0
Reports (Ok x) result err = (result ≡ 0) × Told TookNothing err.told err.printed
Reports (Err failure) result err = EndedOrWanted (failure_status failure) (failure_words failure ++ 10 ∷ []) result err
