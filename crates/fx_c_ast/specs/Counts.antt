-- Counts that may not fit 64 bits, and a statement that may be there.
use Rattle.std.specs.Prelude.{◌≡◌, ℕ, ◌≤◌, ◌^◌, Box, Option, Some, None, MatchOption}
use Rattle.std.specs.declared.alloc.Global.{Global}
use Rattle.fx_c_ast.specs.declared.checked.TStmt.{TStmt}
use Rattle.fx_c_ast.specs.CheckedTrees.{MaybeTStmt, NoTStmt, OneTStmt, tstmt_tree}

-- the count, if it is below 2^64
abbrev pub IsCounted : Option ℕ → ℕ → Type 0
IsCounted r count = MatchOption r (2 ^ 64 ≤ count) (λ n. n ≡ count)

abbrev pub held : Option (Box TStmt Global) → MaybeTStmt
held None = NoTStmt
held (Some s) = OneTStmt (tstmt_tree s.value)
