-- Answers of the check of a program.
use Rattle.std.specs.Prelude.{◌≡◌, ◌≢◌, Result, Ok, Err, MatchResult}
use Rattle.fx_c_types.specs.declared.fault.TypeError.{TypeError}
use Rattle.fx_c_types.specs.declared.fault.TypeError.TheVariants.{OutOfMemory}

-- an answer that is this check's, unless memory ran out
abbrev pub Answers : {A B : Type 0} → (A → B) → Result A TypeError → Result B TypeError → Type 0
Answers shown answer check = MatchResult answer (λ x. check ≡ Ok (shown x)) (λ e. e ≢ OutOfMemory → check ≡ Err e)
