-- A run of the source by the number of its steps: what they cost, and whether each load finds an answer.
use Rattle.std.specs.Prelude.{ℕ, zero, suc, ◌+◌, Bool, true, false, not, ◌&&◌, if◌then◌else◌, List, [], ◌∷◌, ◌++◌}
use Rattle.fx_base.specs.declared.device_op.DeviceOp.{DeviceOp}
use Rattle.fx_outcomes.specs.Runs.{later}
use Rattle.fx_c_mean_model.specs.declared.rights.Rights.{Rights}
use Rattle.fx_c_mean_model.specs.Programs.{Program}
use Rattle.fx_c_mean_model.specs.Steps.{extra}
use Rattle.fx_c_mean_model.specs.Expected.{Run as SourceRun, asks, run_step}

-- the answers that the loads of these operations got, in order
abbrev pub answers_of : List DeviceOp → List ℕ
answers_of [] = []
answers_of (op ∷ ops) = (if op.write then [] else op.value ∷ []) ++ answers_of ops

-- the summed cost of the first n steps; behind an end there are none
abbrev pub cost_of : Program → Rights → ℕ → SourceRun → ℕ
cost_of p r zero x = 0
cost_of p r (suc n) x = extra p x.state + 1 + later (run_step p r x) 0 (λ y. cost_of p r n y)

abbrev pub lacks : List ℕ → Bool
lacks [] = true
lacks (answer ∷ answers) = false

-- the next step is a load for which no answer is left
abbrev pub is_starved : SourceRun → Bool
is_starved x = asks x.state && lacks x.answers

-- none of the first n steps is
abbrev pub is_fed : Program → Rights → ℕ → SourceRun → Bool
is_fed p r zero x = true
is_fed p r (suc n) x = not (is_starved x) && later (run_step p r x) true (λ y. is_fed p r n y)
