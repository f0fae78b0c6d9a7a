-- What a step of the runner may answer, and what it leaves.
use Rattle.std.specs.Prelude.{◌≡◌, ℕ, ◌+◌, ◌-◌, ◌^◌, ◌%◌, min, Bool, true, false, not, ◌&&◌, nat_eq, List, [], ◌∷◌, ◌++◌, Option, Some, None, MatchOption, Ok, Err}
use Rattle.fx_outcomes.specs.Runs.{Goes, Stops}
use Rattle.fx_base.specs.declared.device_op.DeviceOp.{DeviceOp}
use Rattle.fx_device.specs.Rules.{Request, load, store}
use Rattle.fx_device.specs.Bus.{BusState, Carries}
use Rattle.fx_device.specs.declared.bus_error.BusError.{BusError}
use Rattle.fx_device.specs.declared.bus_error.BusError.TheVariants.{Device, OutOfMemory}
use Rattle.fx_c_mean_blocks.specs.declared.block.Object.{Object}
use Rattle.fx_c_mean_blocks.specs.declared.value.Value.TheVariants.{Number}
use Rattle.fx_c_mean_blocks.specs.Blocks.{declared_at}
use Rattle.fx_c_mean_model.specs.declared.end.End.{End}
use Rattle.fx_c_mean_model.specs.declared.end.End.TheVariants as end
use Rattle.fx_c_mean_model.specs.declared.rights.Rights.{Rights}
use Rattle.fx_c_mean_model.specs.Programs.{Program, program_of}
use Rattle.fx_c_mean_model.specs.States.{Frame, Spot, Does, Ask, Tell}
use Rattle.fx_c_mean_model.specs.Steps.{State, step, extra, first_state}
use Rattle.fx_c_mean_acts.specs.Cores.{state_of}
use Rattle.fx_c_mean_acts.specs.declared.state.Core.{Core}
use Rattle.fx_c_mean_acts.specs.declared.source.Source.{Source}
use Rattle.fx_c_mean.specs.declared.runner.Walk.{Walk}
use Rattle.fx_c_mean.specs.declared.runner.Walk.TheVariants as walk

-- A run, as contracts see it: the program with its rights, its state, the bus with the operations made,
-- the cost of the steps made, and the end, if it came.
pub record Run : Type 0 where
  pub program : Program
  pub rights : Rights
  pub state : State
  pub bus : BusState
  pub cost : ℕ
  pub finish : Option End

-- The answer that an end is; of the object of a denial it tells the declaration, which stands in memory.
abbrev pub walk_of : List Object → End → Walk
walk_of memory (end.Exit v) = walk.Exit v
walk_of memory (end.Denied compartment object offset write) = walk.Denied compartment (declared_at memory object) offset write
walk_of memory (end.StackFull thread stack) = walk.StackFull thread stack
walk_of memory end.Divide = walk.Divide
walk_of memory end.BadThread = walk.BadThread
walk_of memory end.ThreadsFull = walk.ThreadsFull
walk_of memory end.Undefined = walk.Undefined

-- A cost with that of one step more; it stays at 2 ^ 64 - 1 once it is there.
abbrev pub more_cost : ℕ → ℕ → ℕ
more_cost cost extra = min (cost + extra + 1) (2 ^ 64 - 1)

abbrev pub is_console : ℕ → ℕ → Bool
is_console device register = nat_eq device 0 && nat_eq register 0

-- The request that an operation is.
abbrev pub request_of : DeviceOp → Request
request_of op = elim op.write as (λ _. Request) [ true ↦ store op.reg op.value | false ↦ load op.reg ]

-- What one operation or none makes of the bus. The console's register 0 has no device: its operations are
-- written down.
abbrev pub Notes : Bool → DeviceOp → BusState → BusState → Type 0
Notes true op old new = new ≡ record old { transcript = old.transcript ++ op ∷ [] }
Notes false op old new = Carries op.device (request_of op) (Ok op.value) old new

abbrev pub Makes : List DeviceOp → BusState → BusState → Type 0
Makes [] old new = new ≡ old
Makes (op ∷ ops) old new = Notes (is_console op.device op.reg) op old new

-- What the answer says of the operations made: a store to the console's register 0 is output.
abbrev pub says : List DeviceOp → Walk
says [] = walk.Went
says (op ∷ ops) = elim (is_console op.device op.reg && op.write) as (λ _. Walk) [ true ↦ walk.Output (op.value % 256) | false ↦ walk.Went ]

-- The step was made, where a load got this answer, and the run goes on.
pub record GoesOn (before : Run) (answer : ℕ) (result : Walk) (after : Run) : Type 0 where
  pub made : List DeviceOp
  pub step : step before.program before.rights answer before.state ≡ Goes made after.state
  pub bus : Makes made before.bus after.bus
  pub says : result ≡ says made
  pub same : after ≡ record before { state = after.state; bus = after.bus; cost = more_cost before.cost (extra before.program before.state) }

-- The step was made and ended the run. Of the state only that is looked at any more which the answer tells.
pub record Finishes (before : Run) (result : Walk) (after : Run) : Type 0 where
  pub with_end : End
  pub step : (answer : ℕ) → step before.program before.rights answer before.state ≡ Stops [] with_end
  pub says : result ≡ walk_of before.state.memory with_end
  pub again : walk_of after.state.memory with_end ≡ result
  pub same : after ≡ record before { state = after.state; cost = more_cost before.cost (extra before.program before.state); finish = Some with_end }

-- What a request of a device asks for, and where.
abbrev pub register_of : Request → ℕ
register_of (load reg) = reg
register_of (store reg v) = reg

abbrev pub asks_for : ℕ → Request → List Frame → Spot
asks_for device (load reg) rest = Does (Ask device reg) rest
asks_for device (store reg v) rest = Does (Tell device reg (Number v)) rest

-- The next step is this request of a device, which is not the console's register 0.
pub record Requests (s : State) (device : ℕ) (request : Request) : Type 0 where
  pub rest : List Frame
  pub other : is_console device (register_of request) ≡ false
  pub at : s.spot ≡ asks_for device request rest

-- The device failed at the step's operation, so its count rose; nothing else changed.
pub record Faults (before : Run) (device : ℕ) (after : Run) : Type 0 where
  pub request : Request
  pub asked : Requests before.state device request
  pub failed : Carries device request (Err (Device device)) before.bus after.bus
  pub same : after ≡ record before { bus = after.bus }

-- The next step is a load of the console's register 0.
abbrev pub AsksInput : State → Type 0
AsksInput s = (rest : List Frame) × (s.spot ≡ Does (Ask 0 0) rest)

-- The answer where the bus carried an operation out not.
abbrev pub refusal : BusError → Walk
refusal (Device device) = walk.DeviceFault device
refusal OutOfMemory = walk.OutOfMemory

-- Whether operations took input: a load of the console's register 0, which `give` alone makes.
abbrev pub takes_input : List DeviceOp → Bool
takes_input [] = false
takes_input (op ∷ ops) = is_console op.device op.reg && not op.write

-- What a step may answer and leave where the run hasn't ended. A step that goes on took no input: a load of the
-- console answers that it waits. For want of memory all is as it was.
abbrev pub MakesStep : Run → Walk → Run → Type 0
MakesStep before walk.Went after = (answer : ℕ) × (went : GoesOn before answer walk.Went after) × (takes_input went.made ≡ false)
MakesStep before (walk.Output byte) after = (answer : ℕ) × GoesOn before answer (walk.Output byte) after
MakesStep before walk.Input after = AsksInput before.state × (after ≡ before)
MakesStep before (walk.DeviceFault device) after = Faults before device after
MakesStep before walk.OutOfMemory after = after ≡ before
MakesStep before result after = Finishes before result after

-- An end is answered again.
abbrev pub Walked : Run → Walk → Run → Type 0
Walked before result after = MatchOption before.finish (MakesStep before result after) (λ e. (result ≡ walk_of before.state.memory e) × (after ≡ before))

-- The run waits for an answer to a load of the console.
pub record Waits (run : Run) : Type 0 where
  pub going : run.finish ≡ None
  pub asks : AsksInput run.state

-- The load that waits was answered, or memory was wanting.
abbrev pub Gave : Run → ℕ → Walk → Run → Type 0
Gave before answer walk.Went after = GoesOn before answer walk.Went after
Gave before answer walk.OutOfMemory after = after ≡ before
Gave before answer _ after = ⊥

-- A run of a program before its first step.
abbrev pub first_run : Program → Rights → BusState → Run
first_run p r bus = record { program = p; rights = r; state = first_state p; bus = bus; cost = 0; finish = None }

-- The runner's parts as a run.
abbrev pub run_of : Source → Core → BusState → ℕ → Option End → Run
run_of source core bus cost finish = record { program = program_of source.program.now; rights = source.rights; state = state_of core; bus = bus; cost = cost; finish = finish }
