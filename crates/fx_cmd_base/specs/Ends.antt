-- How a command ends: its status, and what the error stream took. The lines are this project's own.
use Rattle.std.specs.Prelude.{ℕ, ◌≡◌, ◌≢◌, ◌<◌, ◌⊎◌, List, ◌++◌, length, take, Option, codes}
use Rattle.fx_base.specs.Faults.{Rose}
use Rattle.fx_base.specs.Told.{Told}
use Rattle.fx_cmd_base.specs.Streams.{Gained}

-- What the error stream took before and after, where it tells it, and its counts of faults.
pub record ErrorStream : Type 0 where
  pub told : Option (List ℕ)
  pub printed : Option (List ℕ)
  pub quiet : ℕ
  pub loud : ℕ

-- A sink gained the first of these bytes, but not all.
abbrev pub GainedPart : List ℕ → List ℕ → List ℕ → Type 0
GainedPart bytes start now = (n : ℕ) × (n < length bytes) × (now ≡ start ++ take n bytes)

-- A sink that was given a line took it, or it failed and took a part of it.
abbrev pub TookLine : List ℕ → ErrorStream → Type 0
TookLine line err = Told (Gained line) err.told err.printed

pub record Failed (line : List ℕ) (err : ErrorStream) : Type 0 where
  pub part : Told (GainedPart line) err.told err.printed
  pub rose : Rose err.quiet err.loud

-- the status of a write fault, and its line
abbrev pub write_fault : ℕ
write_fault = 5

abbrev pub write_fault_line : List ℕ
write_fault_line = codes "write fault\n"

-- A stream that failed at a line of this status: the line of a write fault is tried once, where it isn't that
-- line that failed.
abbrev pub Retried : ℕ → ErrorStream → Type 0
Retried status err =
    ((status ≡ write_fault) × (err.printed ≡ err.told) × (err.loud ≡ err.quiet))
    ⊎ ((status ≢ write_fault) × (TookLine write_fault_line err ⊎ Failed write_fault_line err))

-- The stream failed at the line: it took a part of it, and then, where the line was not a write fault's, that line
-- or a part of it.
pub record CutOff (status : ℕ) (line : List ℕ) (err : ErrorStream) : Type 0 where
  pub cut : Option (List ℕ)
  pub count : ℕ
  pub failed : Failed line (record err { printed = cut; loud = count })
  pub retried : Retried status (record err { told = cut; quiet = count })

-- The line was put and the status is its own; or the stream failed, and the status is that of a write fault.
abbrev pub Ended : ℕ → List ℕ → ℕ → ErrorStream → Type 0
Ended status line result err =
    ((result ≡ status) × TookLine line err) ⊎ ((result ≡ write_fault) × CutOff status line err)

-- The same, or there was no memory for the line.
abbrev pub EndedOrWanted : ℕ → List ℕ → ℕ → ErrorStream → Type 0
EndedOrWanted status line result err =
    Ended status line result err ⊎ Ended 6 (codes "out of memory\n") result err
