-- The status and the line of a placement that was not put.
use Rattle.std.specs.Prelude.{ℕ, List, codes}
use Rattle.fx_cmd_base.specs.ProgramWords.{program_status, program_words}
use Rattle.fx_cmd_base.specs.RefusalWords.{grants_refusal, place_refusal}
use Rattle.fx_cmd_place.specs.declared.placing.Unplaced.{Unplaced}
use Rattle.fx_cmd_place.specs.declared.placing.Unplaced.TheVariants as unplaced
use Rattle.fx_cmd_place.specs.declared.failure.PlaceFailure.{PlaceFailure}
use Rattle.fx_cmd_place.specs.declared.failure.PlaceFailure.TheVariants.{Program, Placing}

abbrev pub placing_status : Unplaced → ℕ
placing_status (unplaced.Grants error) = 3
placing_status (unplaced.Place error) = 3
placing_status unplaced.WriteFault = 5
placing_status unplaced.OutOfMemory = 6

abbrev pub failure_status : PlaceFailure → ℕ
failure_status (Program error) = program_status error
failure_status (Placing error) = placing_status error

abbrev pub placing_words : Unplaced → List ℕ
placing_words (unplaced.Grants error) = grants_refusal error
placing_words (unplaced.Place error) = place_refusal error
placing_words unplaced.WriteFault = codes "write fault"
placing_words unplaced.OutOfMemory = codes "out of memory"

abbrev pub failure_words : PlaceFailure → List ℕ
failure_words (Program error) = program_words error
failure_words (Placing error) = placing_words error
