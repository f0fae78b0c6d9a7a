-- How a run of an image by a schedule ends, what it takes in and what it puts out.
use Rattle.std.specs.Prelude.{ℕ, zero, suc, ◌≡◌, ◌≢◌, ◌⊎◌, ◌+◌, ◌-◌, ◌≤◌, ◌<◌, ◌%◌, ◌==◌, ◌&&◌}
use Rattle.std.specs.Prelude.{Bool, true, false, not, nat_lt, if◌then◌else◌, List, [], ◌∷◌, ◌++◌}
use Rattle.std.specs.Prelude.{length, filter, take, drop, slice_index, Option, Some, None}
use Rattle.std.specs.List.{flat_map, AllByRecursion}
use Rattle.fx_base.specs.declared.device_op.DeviceOp.{DeviceOp}
use Rattle.fx_base.specs.Faults.{Rose}
use Rattle.fx_outcomes.specs.Runs.{later}
use Rattle.fx_outcomes.specs.Many.{Many, turn}
use Rattle.fx_device.specs.Rules.{Meaning, Held, Failed}
use Rattle.fx_device.specs.Bus.{box_of, operations_of, Leads}
use Rattle.fx_cpu.specs.declared.registers.Regs.{Regs}
use Rattle.fx_image.specs.declared.forms.Image.{Image}
use Rattle.fx_machine_model.specs.Boot.{vcpus}
use Rattle.fx_machine_model.specs.Moves.{all_ones, World, move}
use Rattle.fx_machine_model.specs.Running.{boot, run_image, image_turns, image_after}
use Rattle.fx_machine_model.specs.declared.stop.Stop.{Stop}
use Rattle.fx_machine.specs.Turns.{made_of, taken_by, request_of, asked, console_load}
use Rattle.fx_machine_model.specs.declared.outcome.Outcome.{Outcome}
use Rattle.fx_machine_model.specs.declared.outcome.Outcome.TheVariants.{Stopped, Spent, Device, ReadFault, WriteFault, OutOfMemory}

-- ---- the schedule

-- The vCPU number that turn i names: byte i of the schedule while there is one, and then i less their number.
abbrev pub named : List ℕ → ℕ → ℕ
named schedule i = if nat_lt i (length schedule) then slice_index schedule i else i - length schedule

-- The numbers that the first n turns name.
abbrev pub names : List ℕ → ℕ → List ℕ
names schedule zero = []
names schedule (suc n) = names schedule n ++ named schedule n ∷ []

-- ---- answers

-- Whether a turn made a load.
abbrev pub loads : List DeviceOp → Bool
loads [] = false
loads (op ∷ rest) = not op.write

-- Whether a turn of a vCPU loads from a device where no answer is left.
abbrev pub is_starved : Image → ℕ → Many Regs World → List ℕ → Bool
is_starved image c m [] = loads (made_of (turn (move image) c (record { cpus = m.cpus; world = record m.world { answers = all_ones ∷ [] } })))
is_starved image c m (answer ∷ rest) = false

-- No turn of a schedule does.
abbrev pub is_fed : Image → List ℕ → Many Regs World → Bool
is_fed image [] m = true
is_fed image (u ∷ us) m =
    not (is_starved image (u % vcpus image) m m.world.answers) && later (turn (move image) (u % vcpus image) m) true (λ n. is_fed image us n)

-- ---- input and output

-- The byte that an operation puts out: the lowest of a store to the console's register 0.
abbrev pub output_of : DeviceOp → List ℕ
output_of op = if (op.device == 0) && (op.reg == 0) && op.write then (op.value % 256) ∷ [] else []

abbrev pub outputs : List DeviceOp → List ℕ
outputs ops = flat_map output_of ops

-- What an operation took of the input: the value of a load of that register.
abbrev pub input_of : DeviceOp → List ℕ
input_of op = if (op.device == 0) && (op.reg == 0) && not op.write then op.value ∷ [] else []

abbrev pub inputs : List DeviceOp → List ℕ
inputs ops = flat_map input_of ops

-- The values are the bytes that a source lost, in order, and all ones after its end.
abbrev pub Reads : List ℕ → List ℕ → List ℕ → Type 0
Reads [] start left = left ≡ start
Reads (v ∷ vs) [] left = (v ≡ all_ones) × Reads vs [] left
Reads (v ∷ vs) (b ∷ bs) left = (v ≡ b) × Reads vs bs left

-- What a load of the console is answered, by what the source had and has; one that fails takes nothing.
abbrev pub Answers : Option ℕ → List ℕ → List ℕ → Type 0
Answers None left after = after ≡ left
Answers (Some answer) left after = Reads (answer ∷ []) left after

-- It may have lost one more.
abbrev pub ReadsMore : List ℕ → List ℕ → List ℕ → Type 0
ReadsMore values start left = (middle : List ℕ) × Reads values start middle × (left ≡ drop 1 middle)

-- A sink gained these bytes.
abbrev pub Gained : List ℕ → List ℕ → List ℕ → Type 0
Gained bytes start now = now ≡ start ++ bytes

-- It gained these without the last one.
abbrev pub GainedButLast : List ℕ → List ℕ → List ℕ → Type 0
GainedButLast bytes start now = (front : List ℕ) × (last : ℕ) × (bytes ≡ front ++ last ∷ []) × (now ≡ start ++ front)

-- ---- devices

-- Loads that no box answers are all ones.
abbrev pub AllOnes : List DeviceOp → Type 0
AllOnes ops = AllByRecursion (λ op. op.write ≡ false → op.value ≡ all_ones) ops

-- The operations on the console's other registers.
abbrev pub console_others : List DeviceOp → List DeviceOp
console_others ops = filter (λ (op : DeviceOp). (op.device == 0) && not (op.reg == 0)) ops

-- After how many of its operations a device is unplugged, if it is.
abbrev pub plug_of : Option (ℕ × ℕ) → ℕ → Option ℕ
plug_of None device = None
plug_of (Some (d, n)) device = if d == device then Some n else None

-- The operations of a device are a run of its rules from what it held when it was handed in, up to its
-- unplugging; loads after that, or where no box was handed in, are all ones.
abbrev pub Part : Option Meaning → Option ℕ → List DeviceOp → Type 0
Part None plug ops = AllOnes ops
Part (Some b) None ops = (c : Meaning) × Leads b ops c
Part (Some b) (Some n) ops = ((c : Meaning) × Leads b (take n ops) c) × AllOnes (drop n ops)

-- A device is in its box.
abbrev pub IsPlugged : Option ℕ → List DeviceOp → Type 0
IsPlugged None ops = Unit {0}
IsPlugged (Some n) ops = length ops < n

-- ---- the end of a run

abbrev pub stop_of : Outcome → Option Stop
stop_of (Stopped stop) = Some stop
stop_of _ = None

-- A run that no memory was there for.
abbrev pub no_memory : Outcome
no_memory = OutOfMemory

-- The turns that count of a run that ended in the turn after n: one whose operation wasn't made doesn't.
abbrev pub counted : Outcome → ℕ → ℕ
counted (Stopped stop) n = n + 1
counted WriteFault n = n + 1
counted _ n = n

-- What the turn after n turns asks for.
abbrev pub NextAsks : Image → List ℕ → ℕ → List DeviceOp → DeviceOp → Type 0
NextAsks image schedule n made op =
    (answer : ℕ) (rest : List ℕ) → made_of (turn (move image) (named schedule n % vcpus image) (image_after image (taken_by made ++ answer ∷ rest) (names schedule n))) ≡ asked op answer ∷ []

-- The last of n turns put a byte out: the turn after those before it asks for a store to the console's register
-- 0, and that store is the last operation made.
pub record PutsLast (image : Image) (schedule : List ℕ) (n : ℕ) (made : List DeviceOp) : Type 0 where
  pub before : ℕ
  pub earlier : List DeviceOp
  pub last : DeviceOp
  pub turn : n ≡ before + 1
  pub order : made ≡ earlier ++ last ∷ []
  pub asks : NextAsks image schedule before earlier last
  pub console : (last.device ≡ 0) × (last.reg ≡ 0)
  pub store : last.write ≡ true

-- Why a run ended that neither stopped nor spent its budget. `input` and `lost` are the input's counts of
-- faults before and after, `out` and `failed` the output's.
abbrev pub HasCause : Image → List ℕ → Option (ℕ × ℕ) → List (Option Meaning) → ℕ → List DeviceOp → ℕ → ℕ → ℕ → ℕ → Outcome → Type 0
HasCause image schedule unplug boxes n made input lost out failed (Device i) =
    (op : DeviceOp) × NextAsks image schedule n made op × (op.device ≡ i) × IsPlugged (plug_of unplug i) (operations_of i made)
    × (b : Meaning) × (box_of i boxes ≡ Some b) × (c : Meaning) × Leads b (operations_of i made) c × (now : Held) × Failed c (request_of op) now
HasCause image schedule unplug boxes n made input lost out failed ReadFault =
    ((answer : ℕ) (rest : List ℕ) → made_of (turn (move image) (named schedule n % vcpus image) (image_after image (taken_by made ++ answer ∷ rest) (names schedule n))) ≡ console_load answer ∷ [])
    × Rose input lost
HasCause image schedule unplug boxes n made input lost out failed WriteFault = PutsLast image schedule n made × Rose out failed
HasCause image schedule unplug boxes n made input lost out failed _ = Unit {0}

-- A turn whose operation failed was one that the budget left.
abbrev pub HasTurnLeft : Outcome → ℕ → ℕ → Type 0
HasTurnLeft (Device i) n budget = n < budget
HasTurnLeft ReadFault n budget = n < budget
HasTurnLeft _ n budget = Unit {0}

-- What the output gained of the operations, and what the input lost.
abbrev pub Output : Outcome → List DeviceOp → List ℕ → List ℕ → Type 0
Output WriteFault made start now = GainedButLast (outputs made) start now
Output _ made start now = Gained (outputs made) start now

abbrev pub Input : Outcome → List DeviceOp → List ℕ → List ℕ → Type 0
Input OutOfMemory made start left = Reads (inputs made) start left ⊎ ReadsMore (inputs made) start left
Input _ made start left = Reads (inputs made) start left

-- A run of an image with these devices in their boxes: it made these operations in n turns, and ended so.
pub record RunsTo (image : Image) (schedule : List ℕ) (budget : ℕ) (unplug : Option (ℕ × ℕ)) (boxes : List (Option Meaning)) (outcome : Outcome) (n : ℕ) (made : List DeviceOp) : Type 0 where
  -- Run, with the answers that the loads were given, has these operations, and the stop where there is one.
  pub operations : (run_image image (taken_by made) (names schedule n)).made ≡ made
  pub stop : (run_image image (taken_by made) (names schedule n)).finish ≡ stop_of outcome
  pub turns : image_turns image (taken_by made) (names schedule n) ≡ n
  -- No turn finds a load for which no answer is left.
  pub fed : is_fed image (names schedule n) (boot image (taken_by made)) ≡ true
  pub within : n ≤ budget
  pub spent : outcome ≡ Spent → n ≡ budget
  pub left : HasTurnLeft outcome n budget
  pub devices : (device : ℕ) → device ≢ 0 → Part (box_of device boxes) (plug_of unplug device) (operations_of device made)
  pub console : AllOnes (console_others made)
