-- What an access comes to.
use Rattle.std.specs.Prelude.{ℕ, ◌≡◌, false, Option, Some, None}
use Rattle.fx_vm_pages.specs.Entries.{is_device}
use Rattle.fx_vm_pages.specs.Access.{access_check, page_of}
use Rattle.fx_vm_pages.specs.declared.entry.Entry.{Entry}
use Rattle.fx_vm_pages.specs.declared.entry.Pkru.{Pkru}
use Rattle.fx_vm_pages.specs.declared.access.Access.{Access}
use Rattle.fx_vm_pages.specs.declared.access.Refusal.{Refusal}
use Rattle.fx_machine_model.specs.Moves.{device_at}
use Rattle.fx_machine.specs.declared.check.Reach.{Reach}
use Rattle.fx_machine.specs.declared.check.Reach.TheVariants.{Memory, Device, Refused}

abbrev pub unless_device : Option ℕ → Reach
unless_device None = Memory
unless_device (Some device) = Device device

abbrev pub reach_by : Option (ℕ × Refusal) → Option ℕ → Reach
reach_by None device = unless_device device
reach_by (Some first) device = Refused first

-- It is refused, or it is to memory or to a device.
abbrev pub reach_of : (ℕ → Option Entry) → Pkru → Access → ℕ → ℕ → Reach
reach_of entries pkru access address bytes =
    reach_by (access_check entries pkru access address bytes) (device_at (entries (page_of address)) address)

-- A page that isn't a device's.
abbrev pub IsPlain : Option Entry → Type 0
IsPlain None = Unit {0}
IsPlain (Some e) = is_device e.flags ≡ false
