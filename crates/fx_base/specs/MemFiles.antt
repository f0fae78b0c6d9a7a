use Rattle.std.specs.Prelude.{ℕ, List, [], ◌∷◌, Option, Some, None, if◌then◌else◌}
use Rattle.std.specs.Str.{bytes_eq}
use Rattle.fx_base.specs.FaultPlan.{Plan}

-- Files in memory: each file's name and bytes, and the plan of faults.
pub record FilesState : Type 0 where
  pub files : List (List ℕ × List ℕ)
  pub plan : Plan

-- What stands under a name.
abbrev pub content_of : List (List ℕ × List ℕ) → List ℕ → Option (List ℕ)
content_of [] name = None
content_of (file ∷ files) name = if bytes_eq name file.0 then Some file.1 else content_of files name
