-- What one step of a run comes to, with the input and the output.
use Rattle.std.specs.Prelude.{ℕ, ◌≡◌, ◌⊎◌, List, [], ◌∷◌, Option}
use Rattle.fx_base.specs.Faults.{Rose}
use Rattle.fx_base.specs.Told.{Told}
use Rattle.fx_c_mean.specs.declared.runner.Walk.{Walk}
use Rattle.fx_c_mean.specs.declared.runner.Walk.TheVariants as walk
use Rattle.fx_c_mean.specs.Walks.{Run, GoesOn, Finishes, Faults, AsksInput}
use Rattle.fx_cmd_base.specs.Streams.{Gained}
use Rattle.fx_cmd_single.specs.Streams.{outputs, inputs, Reads, Same, LostOne}
use Rattle.fx_cmd_single.specs.declared.outcome.Outcome.{Outcome}
use Rattle.fx_cmd_single.specs.declared.outcome.Outcome.TheVariants.{Ended, Spent, Device, ReadFault, WriteFault, OutOfMemory}

-- The step went on. `taken` and `gained` are what the output took before and after, `left` and `lost` what the
-- input has.
abbrev pub WentOn : Run → Run → Option (List ℕ) → Option (List ℕ) → Option (List ℕ) → Option (List ℕ) → Type 0
WentOn old new taken gained left lost =
    (answer : ℕ) × (said : Walk) × (went : GoesOn old answer said new) × Told (Gained (outputs went.made)) taken gained × Told (Reads (inputs went.made)) left lost

-- The step ended the run, or was not made; behind them come the counts of faults of input and output.
abbrev pub EndsBy : Run → Run → Option (List ℕ) → Option (List ℕ) → Option (List ℕ) → Option (List ℕ) → ℕ → ℕ → ℕ → ℕ → Outcome → Type 0
EndsBy old new taken gained left lost input read out put (Ended e) =
    (said : Walk) × (ends : Finishes old said new) × (ends.with_end ≡ e) × Told Same taken gained × Told Same left lost
EndsBy old new taken gained left lost input read out put Spent = ⊥
EndsBy old new taken gained left lost input read out put (Device i) = Faults old i new × Told Same taken gained × Told Same left lost
EndsBy old new taken gained left lost input read out put ReadFault =
    AsksInput old.state × Rose input read × (new ≡ old) × Told Same taken gained × Told Same left lost
EndsBy old new taken gained left lost input read out put WriteFault =
    (answer : ℕ) × (said : Walk) × (went : GoesOn old answer said new) × (inputs went.made ≡ [])
    × (byte : ℕ) × (outputs went.made ≡ byte ∷ []) × Rose out put × Told Same taken gained
    × Told Same left lost
EndsBy old new taken gained left lost input read out put OutOfMemory =
    (new ≡ old) × Told Same taken gained × (Told Same left lost ⊎ Told LostOne left lost)

-- The load of the console that waited was made, with an answer that the input gave.
abbrev pub Taken : Run → Run → Option (List ℕ) → Option (List ℕ) → Type 0
Taken old new left lost = (answer : ℕ) × GoesOn old answer walk.Went new × Told (Reads (answer ∷ [])) left lost

-- It was not made: the input failed, or memory was wanting once its byte was taken.
abbrev pub NotTaken : Run → Run → Option (List ℕ) → Option (List ℕ) → ℕ → ℕ → Outcome → Type 0
NotTaken old new left lost input read ReadFault = Rose input read × (new ≡ old) × Told Same left lost
NotTaken old new left lost input read OutOfMemory = (new ≡ old) × Told LostOne left lost
NotTaken old new left lost input read _ = ⊥

-- A byte was not put.
abbrev pub NotPut : Option (List ℕ) → Option (List ℕ) → ℕ → ℕ → Outcome → Type 0
NotPut taken gained out put WriteFault = Rose out put × Told Same taken gained
NotPut taken gained out put _ = ⊥
