use Rattle.std.specs.Prelude.{ℕ, ◌+◌, ◌-◌, List, slice_index, ◌&&◌, nat_le, nat_lt, if◌then◌else◌, Some, None, length, max, false, Result, Ok, Err}
use Rattle.fx_x64_forms.specs.declared.operand.Width.{Width}
use Rattle.fx_cpu.specs.declared.trap.PortStop.{PortStop}
use Rattle.fx_cpu.specs.declared.trap.PortStop.TheVariants.{Refused}
use Rattle.fx_x64_forms.specs.Numbers.{width_bytes}
use Rattle.fx_vm_pages.specs.declared.access.Refusal.TheVariants.{Unmapped}
use Rattle.fx_cpu.specs.Memory.{byte_of}
use Rattle.fx_cpu.specs.World.{World, Rules}
use Rattle.fx_cpu.specs.declared.port.Place.{Place}

-- A list of bytes as memory from address 0 up.
abbrev pub bytes_of : List ℕ → ℕ → ℕ
bytes_of bytes = λ a. slice_index bytes a

-- The low n bytes of v at a.
abbrev pub written : (ℕ → ℕ) → ℕ → ℕ → ℕ → ℕ → ℕ
written m n a v = λ k. if nat_le a k && nat_lt k (a + n) then byte_of v (k - a) else m k

-- An access lies in memory of a size, or its first byte beyond it is unmapped.
abbrev pub checked : ℕ → ℕ → Width → Result (Unit {0}) PortStop
checked size a w = if nat_lt size (a + width_bytes w) then Err (Refused (max size a) Unmapped) else Ok tt

-- All below the size is permitted, and the first byte beyond it is unmapped.
abbrev pub flat_rules : ℕ → Rules
flat_rules size = record {
  refuses = λ p k w a. if nat_lt size (a + width_bytes w) then Some (max size a, Unmapped) else None;
  refuses_fetch = λ a. if nat_lt a size then None else Some (a, Unmapped);
  device = λ k w a. None;
  waits = λ w a. false;
}

abbrev pub flat_world : List ℕ → List (Place × ℕ) → World
flat_world bytes notes = record { rules = flat_rules (length bytes); bytes = bytes_of bytes; counts = λ i. 0; notes = notes }
