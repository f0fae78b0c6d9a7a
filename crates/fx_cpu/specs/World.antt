use Rattle.std.specs.Prelude.{ℕ, ◌+◌, ◌-◌, ◌^◌, ◌<◌, ◌≤◌, ◌≡◌, Bool, true, false, List, [], ◌∷◌, ◌++◌, Option, Some, None, IsSome, Result, Ok, Err, min}
use Rattle.fx_x64_forms.specs.declared.operand.Width.{Width}
use Rattle.fx_x64_forms.specs.declared.operand.Width.TheVariants.{W8}
use Rattle.fx_vm_pages.specs.declared.entry.Pkru.{Pkru}
use Rattle.fx_vm_pages.specs.declared.access.Access.{Access}
use Rattle.fx_vm_pages.specs.declared.access.Access.TheVariants.{Read, Write, Fetch}
use Rattle.fx_vm_pages.specs.declared.access.Refusal.{Refusal}
use Rattle.fx_word_ops.specs.Words.{size}
use Rattle.fx_cpu.specs.Memory.{word_at, stored}
use Rattle.fx_cpu.specs.declared.port.Place.{Place}
use Rattle.fx_cpu.specs.declared.trap.PortStop.{PortStop}
use Rattle.fx_cpu.specs.declared.trap.PortStop.TheVariants.{Refused, Outside}
use Rattle.fx_cpu.specs.declared.trap.Why.TheVariants.{Device, Input, OutOfMemory}

-- What stays the same under every call of a port.
--   refuses        what it refuses of a load or a store: the first refused byte's address, and why
--   refuses_fetch  the same of a fetch
--   device         which loads and stores are operations on which device
--   waits          which loads wait for an answer
pub record Rules : Type 0 where
  pub refuses : Pkru → Access → Width → ℕ → Option (ℕ × Refusal)
  pub refuses_fetch : ℕ → Option (ℕ × Refusal)
  pub device : Access → Width → ℕ → Option ℕ
  pub waits : Width → ℕ → Bool

-- What a port holds: its rules, a byte for each address, a count of faults for each device number,
-- and the accesses that it carried out, each with the value given or taken.
pub record World : Type 0 where
  pub rules : Rules
  pub bytes : ℕ → ℕ
  pub counts : ℕ → ℕ
  pub notes : List (Place × ℕ)

-- The accesses with one more at the end.
abbrev pub noted : World → Access → Width → ℕ → ℕ → List (Place × ℕ)
noted o access w a v = o.notes ++ (record { access = access; width = w; address = a }, v) ∷ []

-- A count of faults rose; one that stands at its greatest value counts as risen.
abbrev pub Rose : ℕ → ℕ → Type 0
Rose before now = min (before + 1) (2 ^ 64 - 1) ≤ now

-- A device failed: its count rose, no count fell, and nothing else changed.
abbrev pub Failed : World → ℕ → World → Type 0
Failed o i n = (n ≡ record o { counts = n.counts }) × Rose (o.counts i) (n.counts i) × ((j : ℕ) → o.counts j ≤ n.counts j)

-- An access that wasn't carried out, by what refuses it, on which device it is an operation, and
-- whether it waits. A refusal comes first, then a wait. Nothing changes but a failed device's count.
abbrev pub NotDone : World → Option (ℕ × Refusal) → Option ℕ → Bool → PortStop → World → Type 0
NotDone o refusal device waits (Refused address why) n = (refusal ≡ Some (address, why)) × (n ≡ o)
NotDone o refusal device waits (Outside (Device i)) n = (refusal ≡ None) × (waits ≡ false) × (device ≡ Some i) × Failed o i n
NotDone o refusal device waits (Outside Input) n = (refusal ≡ None) × (waits ≡ true) × (n ≡ o)
NotDone o refusal device waits (Outside OutOfMemory) n = (refusal ≡ None) × (waits ≡ false) × IsSome device × (n ≡ o)

-- A load: it gives the word there, or a device's answer, and is noted.
abbrev pub Loaded : World → Pkru → Width → ℕ → Result ℕ PortStop → World → Type 0
Loaded o p w a (Ok v) n =
    (o.rules.refuses p Read w a ≡ None) × (o.rules.waits w a ≡ false) × (v < size w)
    × (o.rules.device Read w a ≡ None → v ≡ word_at o.bytes w a) × (n ≡ record o { notes = noted o Read w a v })
Loaded o p w a (Err e) n = NotDone o (o.rules.refuses p Read w a) (o.rules.device Read w a) (o.rules.waits w a) e n

-- The bytes after a store: an operation on a device leaves them.
abbrev pub bytes_after : Option ℕ → (ℕ → ℕ) → Width → ℕ → ℕ → ℕ → ℕ
bytes_after None m w a v = stored m w a v
bytes_after (Some i) m w a v = m

-- A store.
abbrev pub Stored : World → Pkru → Width → ℕ → ℕ → Result (Unit {0}) PortStop → World → Type 0
Stored o p w a v (Ok done) n =
    (o.rules.refuses p Write w a ≡ None)
    × (n ≡ record o { bytes = bytes_after (o.rules.device Write w a) o.bytes w a v; notes = noted o Write w a v })
Stored o p w a v (Err e) n = NotDone o (o.rules.refuses p Write w a) (o.rules.device Write w a) false e n

-- The fetch of a byte: it is no operation, and it doesn't wait.
abbrev pub Fetched : World → ℕ → Result ℕ PortStop → World → Type 0
Fetched o a (Ok v) n = (o.rules.refuses_fetch a ≡ None) × (v ≡ o.bytes a) × (n ≡ record o { notes = noted o Fetch W8 a v })
Fetched o a (Err e) n = NotDone o (o.rules.refuses_fetch a) None false e n
