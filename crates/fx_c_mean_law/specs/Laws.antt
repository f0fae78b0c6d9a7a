-- What the laws of runs say.
use Rattle.std.specs.Prelude.{◌≡◌, ℕ, ◌+◌, ◌^◌, ◌<◌, false, List, [], ◌++◌, Some, None, IfSome}
use Rattle.fx_device.specs.Bus.{BusState}
use Rattle.fx_c_mean_model.specs.declared.rights.Rights.{Rights}
use Rattle.fx_c_mean_model.specs.Laws.{IsNoDenial}
use Rattle.fx_c_mean_model.specs.Programs.{Program}
use Rattle.fx_c_mean_model.specs.Steps.{extra}
use Rattle.fx_c_mean_model.specs.Expected.{expected}
use Rattle.fx_c_mean.specs.declared.runner.Walk.{Walk}
use Rattle.fx_c_mean.specs.Walks.{Run, GoesOn, Finishes, first_run}
use Rattle.fx_c_mean_law.specs.Reached.{Reached, BegunBelow, Came}

-- a runner that was made has reached its program's start
abbrev pub BeginsAtStart : Type 0
BeginsAtStart = (p : Program) (r : Rights) (bus : BusState) → bus.transcript ≡ [] → Reached p r (first_run p r bus) 0 0

-- a step that goes on is the next of the program's run, and its operations are written down behind the others
pub record Advances (p : Program) (r : Rights) (old new : Run) (n spent budget : ℕ) (answer : ℕ) (walk : Walk) (went : GoesOn old answer walk new) : Type 0 where
  pub reached : Reached p r new (n + 1) (spent + (extra p old.state + 1))
  pub transcript : new.bus.transcript ≡ old.bus.transcript ++ went.made
  pub begun : old.cost < budget → budget < 2 ^ 64 → BegunBelow p r budget old.bus.transcript n → BegunBelow p r budget new.bus.transcript (n + 1)

abbrev pub GoesOnByRun : Type 0
GoesOnByRun =
    (p : Program) (r : Rights) (old new : Run) (n spent budget answer : ℕ) (walk : Walk)
    → Reached p r old n spent → (went : GoesOn old answer walk new)
    → Advances p r old new n spent budget answer walk went

-- a run that stands still has come to what it made; one that ends has come to its end with its last step
abbrev pub StandsByRun : Type 0
StandsByRun = (p : Program) (r : Rights) (run : Run) (n spent : ℕ) → Reached p r run n spent → Came p r n spent (record { made = run.bus.transcript; finish = None })

abbrev pub EndsByRun : Type 0
EndsByRun = (p : Program) (r : Rights) (old new : Run) (n spent : ℕ) (walk : Walk) → Reached p r old n spent → (ends : Finishes old walk new)
    → Came p r (n + 1) (spent + (extra p old.state + 1)) (record { made = old.bus.transcript; finish = Some ends.with_end })

-- where gates are plain calls no run ends denied
abbrev pub NeverDenied : Type 0
NeverDenied = (p : Program) (r : Rights) (answers : List ℕ) (k : ℕ) → r.guarded ≡ false → IfSome (expected p r answers k).finish IsNoDenial
