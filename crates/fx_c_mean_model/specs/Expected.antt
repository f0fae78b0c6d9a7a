-- What a program does within a cost: its operations, and its end.
use Rattle.std.specs.Prelude.{ℕ, zero, suc, Bool, true, false, List, [], ◌∷◌}
use Rattle.fx_outcomes.specs.Runs.{Next, Goes, Stops, later}
use Rattle.fx_outcomes.specs.Runs as runs
use Rattle.fx_base.specs.declared.device_op.DeviceOp.{DeviceOp}
use Rattle.fx_c_mean_model.specs.declared.end.End.{End}
use Rattle.fx_c_mean_model.specs.declared.rights.Rights.{Rights}
use Rattle.fx_c_mean_model.specs.Programs.{Program}
use Rattle.fx_c_mean_model.specs.States.{Spot, Does, Ask}
use Rattle.fx_c_mean_model.specs.Steps.{State, Outcome, step, extra, first_state}

-- a state with the answers that loads of devices still get
pub record Run : Type 0 where
  pub state : State
  pub answers : List ℕ

abbrev pub with_answers : List ℕ → Outcome → Next DeviceOp Run End
with_answers answers (Goes made s) = Goes made (record { state = s; answers = answers })
with_answers answers (Stops made e) = Stops made e

abbrev pub is_ask : Spot → Bool
is_ask (Does (Ask device register) rest) = true
is_ask (Does _ rest) = false

-- the step is a load of a device
abbrev pub asks : State → Bool
asks s = is_ask s.spot

-- a load takes the next answer; without one it isn't made, and the run stays where it is
abbrev pub advance : Program → Rights → Bool → State → List ℕ → Next DeviceOp Run End
advance p r false s answers = with_answers answers (step p r 0 s)
advance p r true s [] = Goes [] (record { state = s; answers = [] })
advance p r true s (answer ∷ answers) = with_answers answers (step p r answer s)

abbrev pub run_step : Program → Rights → Run → Next DeviceOp Run End
run_step p r x = advance p r (asks x.state) x.state x.answers

-- a run before its first step
abbrev pub started : Program → List ℕ → Run
started p answers = record { state = first_state p; answers = answers }

-- where the first n steps lead; a run that ended stays before its last step
abbrev pub run_after : Program → Rights → ℕ → Run → Run
run_after p r zero x = x
run_after p r (suc n) x = later (run_step p r x) x (λ y. run_after p r n y)

-- the state after n steps of the program's run
abbrev pub state_at : Program → Rights → List ℕ → ℕ → State
state_at p r answers n = (run_after p r n (started p answers)).state

-- the operations and the end of the steps from the start whose summed cost is at most k
abbrev pub expected : Program → Rights → List ℕ → ℕ → runs.Outcome DeviceOp End
expected p r answers k = runs.expected (run_step p r) (λ x. extra p x.state) k (started p answers)
