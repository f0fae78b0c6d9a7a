use Rattle.std.specs.Prelude.{ℕ, Bool, ◌==◌, if◌then◌else◌, List}
use Rattle.std.specs.List.{list_any}
use Rattle.fx_base.specs.Faults.{counted}

-- Which calls fail, by their numbers from 1; how many were made; how many faults came.
pub record Plan : Type 0 where
  pub failing : List ℕ
  pub calls : ℕ
  pub faults : ℕ

-- Whether the next call is one that fails.
abbrev pub fails_next : Plan → Bool
fails_next plan = list_any (λ number. number == counted plan.calls) plan.failing

-- The plan behind a call, told whether a fault came.
abbrev pub behind : Plan → Bool → Plan
behind plan fault = record plan { calls = counted plan.calls; faults = if fault then counted plan.faults else plan.faults }

-- The plan behind a call that has no faults but those planned.
abbrev pub next_plan : Plan → Plan
next_plan plan = behind plan (fails_next plan)
