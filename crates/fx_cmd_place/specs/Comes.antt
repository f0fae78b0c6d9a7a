-- What the command comes to.
use Rattle.std.specs.Prelude.{ℕ, List, Option, Result, Ok, Err}
use Rattle.fx_base.specs.Told.{Told}
use Rattle.fx_base.specs.Files.{Held}
use Rattle.fx_config.specs.declared.configuration.Config.{Config}
use Rattle.fx_c_ast.specs.declared.checked.TProgram.{TProgram}
use Rattle.fx_cmd_base.specs.Streams.{TookNothing}
use Rattle.fx_cmd_load.specs.Reading.{LeavesCount}
use Rattle.fx_cmd_load.specs.Programs.{IsProgramOf, ProgramCause, ProgramLeaves}
use Rattle.fx_cmd_place.specs.Placing.{WasPut, PlacingCause}
use Rattle.fx_cmd_place.specs.declared.failure.PlaceFailure.{PlaceFailure}
use Rattle.fx_cmd_place.specs.declared.failure.PlaceFailure.TheVariants.{Program, Placing}

-- the output gained exactly the lines of the placement of the program of the configuration under this name
abbrev pub PlacesProgram : List ℕ → Option Held → Option (List ℕ) → Option (List ℕ) → Type 0
PlacesProgram name held taken gained = (k : Config) × (p : TProgram) × IsProgramOf name held k p × WasPut p k taken gained

-- Why it did not, by the first step that failed: there is no checked program, and the output took nothing; or
-- there is one, and it is not placed, or the output failed. `before` and `now` are the files' counts of
-- faults, `fine` and `failed` the output's.
abbrev pub FailureCause : List ℕ → Option Held → ℕ → ℕ → Option (List ℕ) → Option (List ℕ) → ℕ → ℕ → PlaceFailure → Type 0
FailureCause name held before now taken gained fine failed (Program error) = ProgramCause name held before now error × Told TookNothing taken gained
FailureCause name held before now taken gained fine failed (Placing error) = (k : Config) × (p : TProgram) × IsProgramOf name held k p × PlacingCause p k taken gained fine failed error

abbrev pub Comes : List ℕ → Option Held → ℕ → ℕ → Option (List ℕ) → Option (List ℕ) → ℕ → ℕ → Result (Unit {0}) PlaceFailure → Type 0
Comes name held before now taken gained fine failed (Ok x) = PlacesProgram name held taken gained
Comes name held before now taken gained fine failed (Err failure) = FailureCause name held before now taken gained fine failed failure

-- nothing but a file that failed changes the files' count of faults
abbrev pub FailureLeaves : Option Held → ℕ → ℕ → PlaceFailure → Type 0
FailureLeaves held before now (Program error) = ProgramLeaves held before now error
FailureLeaves held before now (Placing error) = LeavesCount held before now

abbrev pub CameLeaves : Option Held → ℕ → ℕ → Result (Unit {0}) PlaceFailure → Type 0
CameLeaves held before now (Ok x) = LeavesCount held before now
CameLeaves held before now (Err failure) = FailureLeaves held before now failure

-- there is no checked program, for its cause
abbrev pub IsUnloaded : List ℕ → Option Held → ℕ → ℕ → PlaceFailure → Type 0
IsUnloaded name held before now (Program error) = ProgramCause name held before now error
IsUnloaded name held before now (Placing error) = ⊥

-- the placement was not put, for its cause
abbrev pub IsUnput : TProgram → Config → Option (List ℕ) → Option (List ℕ) → ℕ → ℕ → PlaceFailure → Type 0
IsUnput p k taken gained fine failed (Program error) = ⊥
IsUnput p k taken gained fine failed (Placing error) = PlacingCause p k taken gained fine failed error
