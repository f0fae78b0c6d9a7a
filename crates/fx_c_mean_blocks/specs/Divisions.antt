-- A division's two answers.
use Rattle.std.specs.Prelude.{ℕ, ℤ, Option, Some, None, if◌then◌else◌}
use Rattle.fx_c_ast.specs.declared.operator.IntType.{IntType}
use Rattle.fx_c_mean_blocks.specs.Integers.{width_of, word, has_quotient}

-- the words of a quotient and a remainder, where the division is defined
abbrev pub both_of : IntType → ℕ → ℤ → ℤ → Option (ℕ × ℕ)
both_of i b quotient remainder = if has_quotient i b quotient then Some (word (width_of i) quotient, word (width_of i) remainder) else None
