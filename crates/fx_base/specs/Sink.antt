use Rattle.std.specs.Prelude.{◌≡◌, ℕ, List, ◌++◌, take, length, Result, Ok, Err}
use Rattle.fx_base.specs.declared.sink.SinkFailed.{SinkFailed}
use Rattle.fx_base.specs.declared.sink.WriteFault.{WriteFault}

-- How many bytes of a piece one call took: a call that fails takes none.
abbrev pub put_count : Result ℕ SinkFailed → ℕ
put_count (Ok n) = n
put_count (Err _) = 0

-- How many of the bytes were taken in the end: all of them, or as many as the fault says.
abbrev pub taken_count : {A : Type 0} → Result A WriteFault → List ℕ → ℕ
taken_count (Ok _) bytes = length bytes
taken_count (Err fault) bytes = fault.taken

-- A sink has gained the first n of the bytes at its end.
abbrev pub Gains : List ℕ → ℕ → List ℕ → List ℕ → Type 0
Gains bytes n before now = now ≡ before ++ take n bytes
