-- What a sink took of a line that was put.
use Rattle.std.proofs.Common.{◌≡◌, ◌≢◌, ℕ, ◌<◌, ◌⊎◌, inl, inr, List, [], ◌∷◌, ◌++◌, length, take, Option, Some, None, Result, Ok, Err, IfErr, OnErr, refl, ap, ◌∙◌}
use Rattle.fx_base.specs.Faults.{Rose}
use Rattle.fx_base.specs.Told.{Told}
use Rattle.fx_base.specs.Sink.{Gains, taken_count}
use Rattle.fx_base.specs.declared.sink.WriteFault.{WriteFault}
use Rattle.fx_cmd_base.specs.Streams.{Gained}
use Rattle.fx_cmd_base.specs.Ends.{ErrorStream, GainedPart, TookLine, Failed, write_fault_line, Ended}

told_map : {A : Type 0} (R Q : A → A → Type 0) → ((x y : A) → R x y → Q x y) → (a b : Option A) → Told R a b → Told Q a b
told_map R Q f None None h = tt
told_map R Q f None (Some y) h = h
told_map R Q f (Some x) None h = h
told_map R Q f (Some x) (Some y) h = f x y h

take-all : (line : List ℕ) → take (length line) line ≡ line
take-all [] = refl
take-all (b ∷ line) = ap (λ l. b ∷ l) (take-all line)

pub took : (line : List ℕ) (err : ErrorStream) → Told (Gains line (length line)) err.told err.printed → TookLine line err
took line err taken = told_map (Gains line (length line)) (Gained line) (λ x y q. q ∙ ap (λ l. x ++ l) (take-all line)) err.told err.printed taken

pub failed : (line : List ℕ) (n : ℕ) (err : ErrorStream) → n < length line → Told (Gains line n) err.told err.printed → Rose err.quiet err.loud → Failed line err
failed line n err less taken rose = record { part = told_map (Gains line n) (GainedPart line) (λ x y q. (n, less, q)) err.told err.printed taken; rose = rose }

-- the line was tried
pub tried : {A : Type 0} (line : List ℕ) (r : Result A WriteFault) (err : ErrorStream) → Told (Gains line (taken_count r line)) err.told err.printed → IfErr r (λ fault. fault.taken < length line) → OnErr r (Rose err.quiet err.loud) → TookLine line err ⊎ Failed line err
tried line (Ok x) err taken part rose = inl (took line err taken)
tried line (Err fault) err taken part rose = inr (failed line fault.taken err part taken rose)

-- the line of a write fault was tried, behind a line that failed
pub again : (status : ℕ) (line : List ℕ) (told cut printed : Option (List ℕ)) (quiet count loud : ℕ) → status ≢ 5 → Failed line (record { told = told; printed = cut; quiet = quiet; loud = count })
    → TookLine write_fault_line (record { told = cut; printed = printed; quiet = count; loud = loud }) ⊎ Failed write_fault_line (record { told = cut; printed = printed; quiet = count; loud = loud })
    → Ended status line 5 (record { told = told; printed = printed; quiet = quiet; loud = loud })
again status line told cut printed quiet count loud other first second =
    inr (refl, record { cut = cut; count = count; failed = first; retried = inr (other, second) })

-- it wasn't, since that was the line
pub once : (status : ℕ) (line : List ℕ) (told printed : Option (List ℕ)) (quiet loud : ℕ) → status ≡ 5 → Failed line (record { told = told; printed = printed; quiet = quiet; loud = loud })
    → Ended status line 5 (record { told = told; printed = printed; quiet = quiet; loud = loud })
once status line told printed quiet loud same first =
    inr (refl, record { cut = printed; count = loud; failed = first; retried = inl (same, refl, refl) })
