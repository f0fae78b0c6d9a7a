-- How a run of a program within a budget of cost ends, what it takes in and what it puts out.
use Rattle.std.specs.Prelude.{ℕ, ◌≡◌, ◌≢◌, ◌⊎◌, ◌+◌, ◌-◌, ◌^◌, ◌≤◌, ◌<◌, min, true, List, [], ◌∷◌, ◌++◌, Option, Some, None}
use Rattle.fx_base.specs.declared.device_op.DeviceOp.{DeviceOp}
use Rattle.fx_base.specs.Faults.{Rose}
use Rattle.fx_outcomes.specs.Runs.{Goes}
use Rattle.fx_device.specs.Rules.{Meaning, Held, Request, Failed}
use Rattle.fx_device.specs.Bus.{box_of, operations_of, Leads}
use Rattle.fx_c_mean_model.specs.declared.end.End.{End}
use Rattle.fx_c_mean_model.specs.declared.rights.Rights.{Rights}
use Rattle.fx_c_mean_model.specs.Programs.{Program}
use Rattle.fx_c_mean_model.specs.Steps.{State, step}
use Rattle.fx_c_mean_model.specs.Expected.{started, state_at}
use Rattle.fx_c_mean.specs.Walks.{Requests, AsksInput}
use Rattle.fx_c_mean_law.specs.Counting.{answers_of, cost_of}
use Rattle.fx_c_mean_law.specs.Reached.{Came}
use Rattle.fx_cmd_single.specs.Streams.{outputs, inputs, Reads, ReadsMore, GainedButLast}
use Rattle.fx_cmd_base.specs.Streams.{Gained}
use Rattle.fx_cmd_single.specs.Devices.{AllOnes, console_others, Part}
use Rattle.fx_cmd_single.specs.declared.outcome.Outcome.{Outcome}
use Rattle.fx_cmd_single.specs.declared.outcome.Outcome.TheVariants.{Ended, Spent, Device, ReadFault, WriteFault, OutOfMemory}

-- the end that the program came to, if the run went so far
abbrev pub end_of : Outcome → Option End
end_of (Ended end) = Some end
end_of _ = None

-- a run that no memory was there for
abbrev pub no_memory : Outcome
no_memory = OutOfMemory

-- the state after n steps that made these operations, whatever later loads get
abbrev pub state_after : Program → Rights → ℕ → List DeviceOp → List ℕ → State
state_after p r n made answers = state_at p r (answers_of made ++ answers) n

-- The last of n steps put a byte out: behind those before it the step made a store to the console's register 0,
-- whatever later loads get, and that store is the last operation made.
pub record PutsLast (p : Program) (r : Rights) (n : ℕ) (made : List DeviceOp) : Type 0 where
  pub before : ℕ
  pub earlier : List DeviceOp
  pub last : DeviceOp
  pub steps : n ≡ before + 1
  pub order : made ≡ earlier ++ last ∷ []
  pub console : (last.device ≡ 0) × (last.reg ≡ 0)
  pub store : last.write ≡ true
  pub makes : (answers : List ℕ) → (answer : ℕ) × (next : State) × (step p r answer (state_after p r before earlier answers) ≡ Goes (last ∷ []) next)

-- Why a run of n steps went no further, where it neither ended nor spent its budget. `input` and `lost` are the
-- input's counts of faults before and after, `out` and `failed` the output's.
abbrev pub HasCause : Program → Rights → List (Option Meaning) → ℕ → List DeviceOp → ℕ → ℕ → ℕ → ℕ → Outcome → Type 0
HasCause p r boxes n made input lost out failed (Device i) =
    (request : Request) × ((answers : List ℕ) → Requests (state_after p r n made answers) i request)
    × (b : Meaning) × (box_of i boxes ≡ Some b) × (c : Meaning) × Leads b (operations_of i made) c × (now : Held) × Failed c request now
HasCause p r boxes n made input lost out failed ReadFault =
    ((answers : List ℕ) → AsksInput (state_after p r n made answers)) × Rose input lost
HasCause p r boxes n made input lost out failed WriteFault = PutsLast p r n made × Rose out failed
HasCause p r boxes n made input lost out failed _ = Unit {0}

-- A step whose operation failed was one that the budget left.
abbrev pub HasStepLeft : Outcome → ℕ → ℕ → Type 0
HasStepLeft (Device i) cost budget = cost < budget
HasStepLeft ReadFault cost budget = cost < budget
HasStepLeft _ cost budget = Unit {0}

-- A run of a program with these rights and these devices in their boxes: steps one after the other, each begun
-- while the cost so far was below the budget, made these operations and cost so much, and ended so.
pub record RunsTo (p : Program) (r : Rights) (budget : ℕ) (boxes : List (Option Meaning)) (input lost out failed : ℕ) (outcome : Outcome) (cost : ℕ) (made : List DeviceOp) : Type 0 where
  pub steps : ℕ
  pub spent : ℕ
  -- With the answers that the loads were given, the steps of the program that cost so much make these operations
  -- and come to this end, where there is one; each load found its answer.
  pub came : Came p r steps spent (record { made = made; finish = end_of outcome })
  pub cost_is : cost ≡ min spent (2 ^ 64 - 1)
  pub begun : (m : ℕ) → m < steps → cost_of p r m (started p (answers_of made)) < budget
  pub over : outcome ≡ Spent → budget ≤ cost
  pub left : HasStepLeft outcome cost budget
  pub devices : (device : ℕ) → device ≢ 0 → Part (box_of device boxes) (operations_of device made)
  pub console : AllOnes (console_others made)
  pub cause : HasCause p r boxes steps made input lost out failed outcome

-- what the output gained of the operations, and what the input lost
abbrev pub Output : Outcome → List DeviceOp → List ℕ → List ℕ → Type 0
Output WriteFault made start now = GainedButLast (outputs made) start now
Output _ made start now = Gained (outputs made) start now

abbrev pub Input : Outcome → List DeviceOp → List ℕ → List ℕ → Type 0
Input OutOfMemory made start left = Reads (inputs made) start left ⊎ ReadsMore (inputs made) start left
Input _ made start left = Reads (inputs made) start left
