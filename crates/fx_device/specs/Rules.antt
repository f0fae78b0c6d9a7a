-- What a device is to contracts: its state, its count of faults, and the rules of its operations.
use Rattle.std.specs.Prelude.{◌≡◌, ℕ, Bool, true, false, IsTrue, List, Option, Some, None}
use Rattle.fx_base.specs.Faults.{Rose}

-- a device's state, as a list of numbers, and its count of faults
pub record Held : Type 0 where
  pub state : List ℕ
  pub faults : ℕ

abbrev pub held : List ℕ → ℕ → Held
held state faults = record { state = state; faults = faults }

-- whether a load of a register may give this value, or fail where there is none, and leave this
abbrev pub LoadRule : Type 0
LoadRule = Held → ℕ → Option ℕ → Held → Bool

-- whether a store of this value to a register may succeed, or fail, and leave this
abbrev pub StoreRule : Type 0
StoreRule = Held → ℕ → ℕ → Bool → Held → Bool

-- a device: what it holds now, and its rules, which no call changes
pub record Meaning : Type 0 where
  pub now : Held
  pub loads : LoadRule
  pub stores : StoreRule

-- the device, holding this
abbrev pub left_in : Meaning → Held → Meaning
left_in device after = record device { now = after }

-- what is asked of a device: the load of a register, or the store of a value to it
pub data Request : Type 0 where
  load : ℕ → Request
  store : ℕ → ℕ → Request

-- whether the device may answer the request with this value, and be left so; a store's answer is its value
abbrev pub may_answer : Meaning → Request → ℕ → Held → Bool
may_answer device (load reg) value after = device.loads device.now reg (Some value) after
may_answer device (store reg v) value after = device.stores device.now reg v true after

-- whether the device may fail at the request, and be left so
abbrev pub may_fail : Meaning → Request → Held → Bool
may_fail device (load reg) after = device.loads device.now reg None after
may_fail device (store reg v) after = device.stores device.now reg v false after

-- the device answered: by its rule, and its count of faults stayed
pub record Answered (device : Meaning) (request : Request) (value : ℕ) (after : Held) : Type 0 where
  pub rule : IsTrue (may_answer device request value after)
  pub count : after.faults ≡ device.now.faults

-- the device failed: by its rule, its state stayed, and its count of faults rose
pub record Failed (device : Meaning) (request : Request) (after : Held) : Type 0 where
  pub rule : IsTrue (may_fail device request after)
  pub state : after.state ≡ device.now.state
  pub count : Rose device.now.faults after.faults
