-- What a turn of a machine may answer, and what it leaves.
use Rattle.std.specs.Prelude.{ℕ, ◌≡◌, ◌%◌, false, if◌then◌else◌, List, [], ◌∷◌, ◌++◌, length, ◌≤◌, Option, Some, None, MatchOption, Ok, Err, slice_index_or}
use Rattle.fx_outcomes.specs.Runs.{Next, Goes, Stops}
use Rattle.fx_outcomes.specs.Many.{Many, turn}
use Rattle.fx_base.specs.declared.device_op.DeviceOp.{DeviceOp}
use Rattle.fx_device.specs.Rules.{Request, load, store}
use Rattle.fx_device.specs.Bus.{BusState, Carries}
use Rattle.fx_device.specs.declared.bus_error.BusError.TheVariants.{Device}
use Rattle.fx_cpu.specs.declared.registers.Regs.{Regs}
use Rattle.fx_image.specs.declared.forms.Image.{Image}
use Rattle.fx_machine_model.specs.Boot.{boot_byte, boot_regs, vcpus}
use Rattle.fx_machine_model.specs.Moves.{World, move}
use Rattle.fx_machine_model.specs.Turns.{answer_to}
use Rattle.fx_machine_model.specs.declared.stop.Stop.{Stop}
use Rattle.fx_machine_model.specs.declared.stop.Turn.{Turn}
use Rattle.fx_machine_model.specs.declared.stop.Turn.TheVariants as turns
use Rattle.fx_machine.specs.Acting.{world, answered}
use Rattle.fx_machine.specs.Memory.{memory_of}
use Rattle.fx_machine.specs.declared.memory.Memory.{Memory}

-- A machine, as contracts see it: its image, the registers of each vCPU, the byte at each address, the
-- bus with the operations made, and why it stopped, if it did.
pub record Running : Type 0 where
  pub image : Image
  pub cpus : ℕ → Regs
  pub memory : ℕ → ℕ
  pub bus : BusState
  pub stop : Option Stop

-- The registers of each vCPU that the machine has.
abbrev pub cpus_of : Image → List Regs → ℕ → Regs
cpus_of image cpus = λ c. slice_index_or cpus c (boot_regs image c)

abbrev pub running_of : Image → Memory → List Regs → BusState → Option Stop → Running
running_of image memory cpus bus stop = record { image = image; cpus = cpus_of image cpus; memory = memory_of image memory; bus = bus; stop = stop }

abbrev pub booted : Image → BusState → Running
booted image bus = record { image = image; cpus = boot_regs image; memory = boot_byte image; bus = bus; stop = None }

-- Its state, with the answers that are left for loads of devices, and what a vCPU does then.
abbrev pub state_of : Running → List ℕ → Many Regs World
state_of m answers = record { cpus = m.cpus; world = world m.memory answers }

abbrev pub next_of : Running → ℕ → List ℕ → Next DeviceOp (Many Regs World) Stop
next_of m c answers = turn (move m.image) c (state_of m answers)

-- The answers that operations took: the values of the loads.
abbrev pub taken_by : List DeviceOp → List ℕ
taken_by [] = []
taken_by (op ∷ rest) = (if op.write then [] else op.value ∷ []) ++ taken_by rest

-- The request that an operation is.
abbrev pub request_of : DeviceOp → Request
request_of op = if op.write then store op.reg op.value else load op.reg

-- What a turn may make of the bus, that made one operation or none.
abbrev pub Makes : List DeviceOp → BusState → BusState → Type 0
Makes [] old new = new ≡ old
Makes (op ∷ rest) old new = Carries op.device (request_of op) (Ok op.value) old new

-- What a vCPU asks for: the operation that it makes, where a load is answered so.
abbrev pub asked : DeviceOp → ℕ → DeviceOp
asked op answer = if op.write then op else answered op answer

abbrev pub made_of : Next DeviceOp (Many Regs World) Stop → List DeviceOp
made_of (Goes made n) = made
made_of (Stops made stop) = made

abbrev pub Asks : Running → ℕ → DeviceOp → Type 0
Asks m c op = (answer : ℕ) (rest : List ℕ) → made_of (next_of m c (answer ∷ rest)) ≡ asked op answer ∷ []

-- It asks for the next byte of input: a load of the console's register 0.
abbrev pub console_load : ℕ → DeviceOp
console_load answer = record { device = 0; reg = 0; write = false; value = answer }

abbrev pub AsksInput : Running → ℕ → Type 0
AsksInput m c = (answer : ℕ) (rest : List ℕ) → made_of (next_of m c (answer ∷ rest)) ≡ console_load answer ∷ []

-- The turn of a vCPU made these operations and went on, whatever answers are left behind those that it took.
pub record GoesOn (before : Running) (c : ℕ) (made : List DeviceOp) (after : Running) : Type 0 where
  pub moves : (rest : List ℕ) → next_of before c (taken_by made ++ rest) ≡ Goes made (state_of after rest)
  pub one : length made ≤ 1
  pub image : after.image ≡ before.image
  pub stop : after.stop ≡ before.stop

-- What a turn may answer and leave where the machine hasn't stopped.
abbrev pub MakesTurn : Running → ℕ → Turn → Running → Type 0
MakesTurn before c (turns.Stopped stop) after = ((answers : List ℕ) → next_of before c answers ≡ Stops [] stop) × (after ≡ record before { stop = Some stop })
MakesTurn before c turns.Input after = AsksInput before c × (after ≡ before)
MakesTurn before c (turns.DeviceFault i) after =
    (op : DeviceOp) × Asks before c op × (op.device ≡ i) × Carries i (request_of op) (Err (Device i)) before.bus after.bus × (after ≡ record before { bus = after.bus })
MakesTurn before c turns.OutOfMemory after = (op : DeviceOp) × Asks before c op × (after ≡ before)
MakesTurn before c went after = (made : List DeviceOp) × GoesOn before c made after × (answer_to made ≡ went) × Makes made before.bus after.bus

-- The turn of a vCPU number, which is taken modulo the number of vCPUs. Once the machine has stopped,
-- nothing changes.
abbrev pub Turned : Running → ℕ → Turn → Running → Type 0
Turned before v result after =
    MatchOption before.stop
    (MakesTurn before (v % vcpus before.image) result after)
    (λ stop. (result ≡ turns.Stopped stop) × (after ≡ before))

-- The machine waits for an answer to a vCPU's load of the console.
pub record Waits (m : Running) (v : ℕ) : Type 0 where
  pub going : m.stop ≡ None
  pub asks : AsksInput m (v % vcpus m.image)

-- The load that waits was answered.
abbrev pub Gave : Running → ℕ → ℕ → Turn → Running → Type 0
Gave before v answer turns.Went after =
    GoesOn before (v % vcpus before.image) (console_load answer ∷ []) after
    × (after.bus ≡ record before.bus { transcript = before.bus.transcript ++ console_load answer ∷ [] })
Gave before v answer turns.OutOfMemory after = after ≡ before
Gave before v answer _ after = ⊥
