use Rattle.std.specs.Prelude.{ℕ, ◌&&◌, if◌then◌else◌, List, length, Option, Some, None, nat_eq}
use Rattle.std.specs.List.{starts_with}
use Rattle.fx_x64_forms.specs.declared.inst.Inst.{Inst}
use Rattle.fx_x64_code.specs.Spelling.{spelling, has_row}
use Rattle.fx_x64_code.specs.Guess.{guess}

-- What is guessed, where it is a row and its spelling begins the bytes, with that spelling's length.
abbrev pub confirmed : List ℕ → Option Inst → Option (Inst × ℕ)
confirmed b None = None
confirmed b (Some i) = if has_row i && starts_with nat_eq b (spelling i) then Some (i, length (spelling i)) else None

-- The instruction whose spelling begins the bytes, with its length. That it is this is said by the laws of this crate; to compute with it, unfold it.
unfoldable pub decoded : List ℕ → Option (Inst × ℕ)
decoded b = confirmed b (guess b)
