-- A moment of a run, and what a turn does to it.
use Rattle.std.specs.Prelude.{ℕ, ◌≡◌, ◌≢◌, ◌⊎◌, ◌+◌, ◌≤◌, ◌<◌, List, ◌++◌, length, take, drop, Option, Some, None}
use Rattle.fx_base.specs.declared.device_op.DeviceOp.{DeviceOp}
use Rattle.fx_outcomes.specs.Runs.{run, before, turns, after}
use Rattle.fx_outcomes.specs.Many.{turn}
use Rattle.fx_device.specs.Rules.{Meaning}
use Rattle.fx_device.specs.Bus.{BusState, box_of, with_box, operations_of, Leads}
use Rattle.fx_image.specs.declared.forms.Image.{Image}
use Rattle.fx_machine_model.specs.Boot.{vcpus}
use Rattle.fx_machine_model.specs.Moves.{move}
use Rattle.fx_machine_model.specs.Running.{boot}
use Rattle.fx_machine.specs.Turns.{Running, state_of, taken_by}
use Rattle.fx_run_core.specs.Ran.{names, is_fed, plug_of, AllOnes, console_others, IsPlugged}
use Rattle.fx_run_core.specs.declared.watch.Watch.{Watch}

-- n turns were made without a stop, and what a schedule goes on with is what it goes on with from here,
-- whatever answers are left.
pub record Reached (image : Image) (schedule : List ℕ) (m : Running) (n : ℕ) : Type 0 where
  pub image_is : m.image ≡ image
  pub going : m.stop ≡ None
  pub run_is : (answers rest : List ℕ)
      → run (turn (move image)) (vcpus image) (names schedule n ++ rest)
      (boot image (taken_by m.bus.transcript ++ answers))
      ≡ before m.bus.transcript (run (turn (move image)) (vcpus image) rest (state_of m answers))
  pub turns_is : (answers rest : List ℕ)
      → turns (turn (move image)) (vcpus image) (names schedule n ++ rest)
      (boot image (taken_by m.bus.transcript ++ answers))
      ≡ n + turns (turn (move image)) (vcpus image) rest (state_of m answers)
  pub fed_is : (answers rest : List ℕ) → is_fed image (names schedule n ++ rest) (boot image (taken_by m.bus.transcript ++ answers)) ≡ is_fed image rest (state_of m answers)
  pub after_is : (answers rest : List ℕ)
      → after (turn (move image)) (vcpus image) (names schedule n ++ rest)
      (boot image (taken_by m.bus.transcript ++ answers))
      ≡ after (turn (move image)) (vcpus image) rest (state_of m answers)

-- A device's box, and its operations so far: it is in its box and its operations led to what it holds, or
-- it was unplugged after the first so many.
abbrev pub Served : Option Meaning → Option ℕ → List DeviceOp → Option Meaning → Type 0
Served None plug ops now = (now ≡ None) × AllOnes ops
Served (Some b) plug ops (Some c) = Leads b ops c × IsPlugged plug ops
Served (Some b) plug ops None = (n : ℕ) × (plug ≡ Some n) × (n ≤ length ops) × ((c : Meaning) × Leads b (take n ops) c) × AllOnes (drop n ops)

-- The same of a device's operations, before it is seen whether it is to be unplugged now: the last of them
-- was made since there were these before.
abbrev pub ServedOrDue : Option Meaning → Option ℕ → List DeviceOp → List DeviceOp → Option Meaning → Type 0
ServedOrDue None plug before ops now = (now ≡ None) × AllOnes ops
ServedOrDue (Some b) plug before ops (Some c) = Leads b ops c × (IsPlugged plug ops ⊎ ((plug ≡ Some (length ops)) × (length before < length ops)))
ServedOrDue (Some b) plug before ops None = (n : ℕ) × (plug ≡ Some n) × (n ≤ length ops) × ((c : Meaning) × Leads b (take n ops) c) × AllOnes (drop n ops)

-- All devices, from the boxes that were handed in.
pub record Devices (boxes : List (Option Meaning)) (unplug : Option (ℕ × ℕ)) (bus : BusState) : Type 0 where
  pub each : (device : ℕ) → device ≢ 0 → Served (box_of device boxes) (plug_of unplug device) (operations_of device bus.transcript) (box_of device bus.boxes)
  pub console : AllOnes (console_others bus.transcript)

pub record DevicesDue (boxes : List (Option Meaning)) (unplug : Option (ℕ × ℕ)) (before : List DeviceOp) (bus : BusState) : Type 0 where
  pub each : (device : ℕ) → device ≢ 0 → ServedOrDue (box_of device boxes) (plug_of unplug device) (operations_of device before) (operations_of device bus.transcript) (box_of device bus.boxes)
  pub console : AllOnes (console_others bus.transcript)

-- ---- who is to be unplugged

-- A device is watched that is to be unplugged after so many more of its operations; none is where none is to
-- be, or it was unplugged.
abbrev pub Watching : Option (ℕ × ℕ) → Option Watch → List DeviceOp → Type 0
Watching None None ops = Unit {0}
Watching None (Some w) ops = ⊥
Watching (Some u) None ops = u.1 ≤ length (operations_of u.0 ops)
Watching (Some u) (Some w) ops = (w.device ≡ u.0) × (length (operations_of u.0 ops) + w.left ≡ u.1) × (0 < w.left)

-- The box of a device was dropped.
abbrev pub Unplugged : ℕ → Running → Running → Type 0
Unplugged device old new =
    new ≡ record old { bus = record { boxes = with_box device None old.bus.boxes; transcript = old.bus.transcript } }

-- Nothing but boxes changed.
abbrev pub Rebox : Running → Running → Type 0
Rebox old new = (boxes : List (Option Meaning)) × (new ≡ record old { bus = record { boxes = boxes; transcript = old.bus.transcript } })

-- What watching comes to over a turn that made the operations from number `count` on, one at most: who is
-- watched then, and that each device that was due is unplugged.
abbrev pub Watched : ℕ → Option Watch → Option Watch → BusState → BusState → Type 0
Watched count watch result old new =
    (unplug : Option (ℕ × ℕ)) (before made : List DeviceOp) → old.transcript ≡ before ++ made → length made ≤ 1 → count ≡ length before → Watching unplug watch before
    → Watching unplug result (before ++ made) × ((boxes : List (Option Meaning)) → DevicesDue boxes unplug before old → Devices boxes unplug new)
