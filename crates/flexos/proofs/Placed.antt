-- What the command `place` came to, seen from the top call.
use Rattle.std.proofs.Common.{◌≡◌, ℕ, Result, Ok, Err, inl, inr, sym, ◌∙◌, arith}
use Rattle.fx_cmd_base.specs.Ends.{ErrorStream}
use Rattle.fx_cmd_place.specs.declared.placing.Unplaced.TheVariants as unplaced
use Rattle.fx_cmd_load.specs.declared.program_error.ProgramError.TheVariants as program
use Rattle.fx_cmd_place.specs.Failures.{failure_status}
use Rattle.fx_cmd_place.specs.Reports.{Reports}
use Rattle.fx_cmd_place.specs.declared.failure.PlaceFailure.{PlaceFailure}
use Rattle.fx_cmd_place.specs.declared.failure.PlaceFailure.TheVariants.{Program, Placing}

-- a placement isn't usage
failure_usage : (failure : PlaceFailure) → failure_status failure ≡ 2 → ⊥
failure_usage (Program (program.File name error)) status = omega arith
failure_usage (Program (program.Config error)) status = omega arith
failure_usage (Program (program.Parse file error)) status = omega arith
failure_usage (Program (program.Types kind declaration)) status = omega arith
failure_usage (Program program.OutOfMemory) status = omega arith
failure_usage (Placing (unplaced.Grants error)) status = omega arith
failure_usage (Placing (unplaced.Place error)) status = omega arith
failure_usage (Placing unplaced.WriteFault) status = omega arith
failure_usage (Placing unplaced.OutOfMemory) status = omega arith

pub place_is_no_usage : (came : Result (Unit {0}) PlaceFailure) (result : ℕ) (err : ErrorStream) → Reports came result err → result ≡ 2 → ⊥
place_is_no_usage (Ok x) result err done two = omega (arith, done.0)
place_is_no_usage (Err failure) result err (inl (inl own)) two = failure_usage failure (sym own.0 ∙ two)
place_is_no_usage (Err failure) result err (inl (inr fault)) two = omega (arith, fault.0)
place_is_no_usage (Err failure) result err (inr (inl memory)) two = omega (arith, memory.0)
place_is_no_usage (Err failure) result err (inr (inr fault)) two = omega (arith, fault.0)
