-- What a runner has reached of the run that its program has.
use Rattle.std.specs.Prelude.{◌≡◌, ℕ, ◌+◌, ◌-◌, ◌^◌, ◌<◌, min, true, List, ◌++◌, None}
use Rattle.fx_base.specs.declared.device_op.DeviceOp.{DeviceOp}
use Rattle.fx_outcomes.specs.Runs.{before}
use Rattle.fx_outcomes.specs.Runs as runs
use Rattle.fx_c_mean_model.specs.declared.end.End.{End}
use Rattle.fx_c_mean_model.specs.declared.rights.Rights.{Rights}
use Rattle.fx_c_mean_model.specs.Programs.{Program}
use Rattle.fx_c_mean_model.specs.Steps.{extra}
use Rattle.fx_c_mean_model.specs.Expected.{Run as SourceRun, run_step, started, run_after, expected}
use Rattle.fx_c_mean.specs.Walks.{Run}
use Rattle.fx_c_mean_law.specs.Counting.{answers_of, cost_of, is_fed}

-- a runner's state with answers for the loads that come
abbrev pub here : Run → List ℕ → SourceRun
here run answers = record { state = run.state; answers = answers }

-- the operations and the end of the source within a cost, from a state on
abbrev pub onward : Program → Rights → ℕ → SourceRun → runs.Outcome DeviceOp End
onward p r k x = runs.expected (run_step p r) (λ (y : SourceRun). extra p y.state) k x

-- n steps of this summed cost were made without an end, and the program's run, where its loads get the answers
-- that they got here and then any others, goes on as it does from here.
pub record Reached (p : Program) (r : Rights) (run : Run) (n spent : ℕ) : Type 0 where
  pub program_is : run.program ≡ p
  pub rights_is : run.rights ≡ r
  pub going : run.finish ≡ None
  -- the cost told stays at 2 ^ 64 - 1 once it is there
  pub cost_is : run.cost ≡ min spent (2 ^ 64 - 1)
  pub expected_is : (answers : List ℕ) (k : ℕ) → expected p r (answers_of run.bus.transcript ++ answers) (spent + k) ≡ before run.bus.transcript (onward p r k (here run answers))
  pub spent_is : (answers : List ℕ) (m : ℕ) → cost_of p r (n + m) (started p (answers_of run.bus.transcript ++ answers)) ≡ spent + cost_of p r m (here run answers)
  pub fed_is : (answers : List ℕ) (m : ℕ) → is_fed p r (n + m) (started p (answers_of run.bus.transcript ++ answers)) ≡ is_fed p r m (here run answers)
  pub after_is : (answers : List ℕ) (m : ℕ) → run_after p r (n + m) (started p (answers_of run.bus.transcript ++ answers)) ≡ run_after p r m (here run answers)

-- Each of the first n steps was begun while the cost so far was below a budget, whatever loads behind them get.
abbrev pub BegunBelow : Program → Rights → ℕ → List DeviceOp → ℕ → Type 0
BegunBelow p r budget made n = (answers : List ℕ) (m : ℕ) → m < n → cost_of p r m (started p (answers_of made ++ answers)) < budget

-- n steps of this summed cost, with the answers that these operations' loads got, make these operations, and
-- they come to this: each load found its answer.
pub record Came (p : Program) (r : Rights) (n spent : ℕ) (outcome : runs.Outcome DeviceOp End) : Type 0 where
  pub expected_is : expected p r (answers_of outcome.made) spent ≡ outcome
  pub spent_is : cost_of p r n (started p (answers_of outcome.made)) ≡ spent
  pub fed_is : is_fed p r n (started p (answers_of outcome.made)) ≡ true
