-- What the command comes to, from its steps, and what its status says.
use Rattle.std.proofs.Common.{◌≡◌, ℕ, ◌<◌, List, inl, inr, Option, Some, None, Result, Ok, Err, refl, arith}
use Rattle.fx_base.specs.Told.{Told}
use Rattle.fx_base.specs.Files.{Held}
use Rattle.fx_config.specs.declared.configuration.Config.{Config}
use Rattle.fx_c_ast.specs.declared.checked.TProgram.{TProgram}
use Rattle.fx_cmd_base.specs.Streams.{TookNothing}
use Rattle.fx_cmd_base.specs.Ends.{ErrorStream, Ended}
use Rattle.fx_cmd_base.specs.ProgramWords.{program_status}
use Rattle.fx_cmd_place.specs.declared.placing.Unplaced.{Unplaced}
use Rattle.fx_cmd_place.specs.declared.placing.Unplaced.TheVariants as unplaced
use Rattle.fx_cmd_load.specs.declared.program_error.ProgramError.{ProgramError}
use Rattle.fx_cmd_load.specs.declared.program_error.ProgramError.TheVariants as program
use Rattle.fx_cmd_load.specs.Programs.{IsProgramOf}
use Rattle.fx_cmd_place.specs.declared.failure.PlaceFailure.{PlaceFailure}
use Rattle.fx_cmd_place.specs.declared.failure.PlaceFailure.TheVariants.{Program, Placing}
use Rattle.fx_cmd_place.specs.Failures.{placing_status, failure_status}
use Rattle.fx_cmd_place.specs.Comes.{IsUnloaded, IsUnput, FailureCause, PlacesProgram, Comes}
use Rattle.fx_cmd_place.specs.Reports.{Reports}

told_same : (taken : Option (List ℕ)) → Told TookNothing taken taken
told_same None = tt
told_same (Some bytes) = refl

pub unloaded_came : (name : List ℕ) (held : Option Held) (before now : ℕ) (taken : Option (List ℕ)) (fine : ℕ) (failure : PlaceFailure) → IsUnloaded name held before now failure → FailureCause name held before now taken taken fine fine failure
unloaded_came name held before now taken fine (Program error) cause = (cause, told_same taken)
unloaded_came name held before now taken fine (Placing error) cause = absurd cause

pub unput_came : (name : List ℕ) (held : Option Held) (before now : ℕ) (taken gained : Option (List ℕ)) (fine failed : ℕ) (k : Config) (p : TProgram) (failure : PlaceFailure) → IsProgramOf name held k p
    → IsUnput p k taken gained fine failed failure → FailureCause name held before now taken gained fine failed failure
unput_came name held before now taken gained fine failed k p (Program error) is cause = absurd cause
unput_came name held before now taken gained fine failed k p (Placing error) is cause = (k, p, is, cause)

program_some : (error : ProgramError) → 0 < program_status error
program_some (program.File name error) = omega arith
program_some (program.Config error) = omega arith
program_some (program.Parse file error) = omega arith
program_some (program.Types kind declaration) = omega arith
program_some program.OutOfMemory = omega arith

placing_some : (error : Unplaced) → 0 < placing_status error
placing_some (unplaced.Grants error) = omega arith
placing_some (unplaced.Place error) = omega arith
placing_some unplaced.WriteFault = omega arith
placing_some unplaced.OutOfMemory = omega arith

failure_some : (failure : PlaceFailure) → 0 < failure_status failure
failure_some (Program error) = program_some error
failure_some (Placing error) = placing_some error

not_ended : (status : ℕ) (line : List ℕ) (result : ℕ) (err : ErrorStream) → 0 < status → Ended status line result err → result ≡ 0 → ⊥
not_ended status line result err some (inl own) none = omega (arith, own.0)
not_ended status line result err some (inr fault) none = omega (arith, fault.0)

-- only a placement that was put has status 0
pub done : (name : List ℕ) (held : Option Held) (before now : ℕ) (taken gained : Option (List ℕ)) (fine failed : ℕ) (came : Result (Unit {0}) PlaceFailure) (result : ℕ) (err : ErrorStream)
    → Comes name held before now taken gained fine failed came → Reports came result err → result ≡ 0 → PlacesProgram name held taken gained × Told TookNothing err.told err.printed
done name held before now taken gained fine failed (Ok x) result err comes reports none = (comes, reports.1)
done name held before now taken gained fine failed (Err failure) result err comes (inl own) none = absurd (not_ended (failure_status failure) _ result err (failure_some failure) own none)
done name held before now taken gained fine failed (Err failure) result err comes (inr memory) none = absurd (not_ended 6 _ result err (omega arith) memory none)
