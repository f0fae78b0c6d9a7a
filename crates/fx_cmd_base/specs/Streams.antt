-- What a command reads and writes, seen before and after.
use Rattle.std.specs.Prelude.{ℕ, ◌≡◌, List, ◌++◌, Option}
use Rattle.fx_base.specs.Files.{Held}

-- What the files hold, what the input has left and what the output took, where they tell it, each with its count
-- of faults.
pub record Streams : Type 0 where
  pub held : Option Held
  pub file_faults : ℕ
  pub left : Option (List ℕ)
  pub input_faults : ℕ
  pub taken : Option (List ℕ)
  pub output_faults : ℕ

-- Neither input nor output was touched.
pub record Untouched (before after : Streams) : Type 0 where
  pub input : after.left ≡ before.left
  pub input_faults : after.input_faults ≡ before.input_faults
  pub output : after.taken ≡ before.taken
  pub output_faults : after.output_faults ≡ before.output_faults

-- A sink gained these bytes, or nothing.
abbrev pub Gained : List ℕ → List ℕ → List ℕ → Type 0
Gained bytes start now = now ≡ start ++ bytes

abbrev pub TookNothing : List ℕ → List ℕ → Type 0
TookNothing start now = now ≡ start
