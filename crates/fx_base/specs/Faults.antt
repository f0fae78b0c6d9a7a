use Rattle.std.specs.Prelude.{ℕ, ◌+◌, ◌-◌, ◌^◌, ◌≤◌, min}

-- One more, for a count of 64 bits that stands still at its end.
abbrev pub counted : ℕ → ℕ
counted n = min (n + 1) (2 ^ 64 - 1)

-- The count of faults rose in a call; one that stands at its end counts as risen.
abbrev pub Rose : ℕ → ℕ → Type 0
Rose before now = counted before ≤ now
