-- The bus: what its boxes hold, what an operation does to it, and what ties its boxes to its transcript.
use Rattle.std.specs.Prelude.{◌≡◌, ℕ, ◌^◌, ◌-◌, ◌==◌, zero, suc, true, false, nat_eq, List, [], ◌∷◌}
use Rattle.std.specs.Prelude.{◌++◌, filter, map, option_map, slice_index_or, slice_set, Option}
use Rattle.std.specs.Prelude.{Some, None, Result, Ok, Err, if◌then◌else◌}
use Rattle.fx_base.specs.declared.device_op.DeviceOp.{DeviceOp}
use Rattle.fx_device.specs.Rules.{Held, Meaning, left_in, Request, load, store, Answered, Failed}
use Rattle.fx_device.specs.declared.bus_error.BusError.{BusError}
use Rattle.fx_device.specs.declared.bus_error.BusError.TheVariants.{Device, OutOfMemory}

-- what the boxes of device 1 and on hold, and the operations so far
pub record BusState : Type 0 where
  pub boxes : List (Option Meaning)
  pub transcript : List DeviceOp

-- a bus of these boxes, each with a device of that meaning, and these operations
abbrev pub bus_state : {A : Type 0} → (A → Meaning) → List (Option A) → List DeviceOp → BusState
bus_state meaning boxes transcript = record { boxes = map (option_map meaning) boxes; transcript = transcript }

-- the box of a device's number; the console, device 0, has none
abbrev pub box_of : ℕ → List (Option Meaning) → Option Meaning
box_of device boxes = if device == 0 then None else slice_index_or boxes (device - 1) None

-- the boxes with another content of a device's number
abbrev pub with_box : ℕ → Option Meaning → List (Option Meaning) → List (Option Meaning)
with_box device content boxes = if device == 0 then boxes else slice_set boxes (device - 1) content

-- n boxes, of which the first hold these devices
abbrev pub plugged : {A : Type 0} → ℕ → List A → List (Option A)
plugged zero devices = []
plugged (suc n) [] = None ∷ plugged n []
plugged (suc n) (d ∷ devices) = Some d ∷ plugged n devices

-- the operation that a request answered with a value is
abbrev pub operation : ℕ → Request → ℕ → DeviceOp
operation device (load reg) value = record { device = device; reg = reg; write = false; value = value }
operation device (store reg v) value = record { device = device; reg = reg; write = true; value = v }

-- what a number without a box answers: a load gives all ones
abbrev pub silence : Request → ℕ
silence (load reg) = 2 ^ 64 - 1
silence (store reg v) = v

-- how a request ends at a box, and what the box holds then: it answers, or it fails
abbrev pub Ends : ℕ → Request → Result ℕ BusError → Option Meaning → Option Meaning → Type 0
Ends device request (Ok value) None after = (value ≡ silence request) × (after ≡ None)
Ends device request (Ok value) (Some b) after = (now : Held) × Answered b request value now × (after ≡ Some (left_in b now))
Ends device request (Err (Device failed)) None after = ⊥
Ends device request (Err (Device failed)) (Some b) after = (failed ≡ device) × ((now : Held) × Failed b request now × (after ≡ Some (left_in b now)))
Ends device request (Err OutOfMemory) before after = ⊥

-- what a request does to the boxes
pub record Lands (device : ℕ) (request : Request) (result : Result ℕ BusError) (old new : List (Option Meaning)) : Type 0 where
  pub content : Option Meaning
  pub ends : Ends device request result (box_of device old) content
  pub boxes : new ≡ with_box device content old

-- what is written down of a request: its operation, if it was answered
abbrev pub written : ℕ → Request → Result ℕ BusError → List DeviceOp
written device request (Ok value) = operation device request value ∷ []
written device request (Err e) = []

-- what a request does to the bus
pub record Reaches (device : ℕ) (request : Request) (result : Result ℕ BusError) (old new : BusState) : Type 0 where
  pub boxes : Lands device request result old.boxes new.boxes
  pub transcript : new.transcript ≡ old.transcript ++ written device request result

-- a request is carried out, or all is as it was for want of memory
abbrev pub Carries : ℕ → Request → Result ℕ BusError → BusState → BusState → Type 0
Carries device request (Ok value) old new = Reaches device request (Ok value) old new
Carries device request (Err (Device failed)) old new = Reaches device request (Err (Device failed)) old new
Carries device request (Err OutOfMemory) old new = new ≡ old

-- ---- the law of the bus

-- from one state of a device, these operations of its transcript lead to another; calls that failed may stand between them
pub data Leads (b : Meaning) : List DeviceOp → Meaning → Type 0 where
  none : Leads b [] b
  answered : (device : ℕ) (request : Request) (value : ℕ) (now : Held) (ops : List DeviceOp)
      (c : Meaning)
      → Leads b ops c → Answered c request value now
      → Leads b (ops ++ operation device request value ∷ []) (left_in c now)
  failed : (request : Request) (now : Held) (ops : List DeviceOp) (c : Meaning) → Leads b ops c → Failed c request now → Leads b ops (left_in c now)

-- the operations of one device, in order
abbrev pub operations_of : ℕ → List DeviceOp → List DeviceOp
operations_of device ops = filter (λ (op : DeviceOp). nat_eq op.device device) ops

-- a device that is in its box is one that was handed in, in the state that its operations led to
abbrev pub IsLed : List DeviceOp → Option Meaning → Option Meaning → Type 0
IsLed ops first None = Unit {0}
IsLed ops None (Some c) = ⊥
IsLed ops (Some b) (Some c) = Leads b ops c

-- the bus follows its law from the boxes that were handed in
pub record BusLaw (first : List (Option Meaning)) (bus : BusState) : Type 0 where
  pub each : (device : ℕ) → IsLed (operations_of device bus.transcript) (box_of device first) (box_of device bus.boxes)
