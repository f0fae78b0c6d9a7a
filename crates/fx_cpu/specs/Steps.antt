use Rattle.std.specs.Prelude.{ℕ, ◌≡◌, Ok, Err}
use Rattle.fx_vm_pages.specs.declared.access.Access.{Access}
use Rattle.fx_vm_pages.specs.declared.access.Access.TheVariants.{Read, Write}
use Rattle.fx_x64_forms.specs.declared.inst.Inst.{Inst}
use Rattle.fx_cpu.specs.Registers.{past}
use Rattle.fx_cpu.specs.Does.{need, finish}
use Rattle.fx_cpu.specs.World.{World, Loaded, Stored}
use Rattle.fx_cpu.specs.declared.registers.Regs.{Regs}
use Rattle.fx_cpu.specs.declared.need.Need.{Need}
use Rattle.fx_cpu.specs.declared.need.Need.TheVariants.{Quiet, Reads, Writes, Stops}
use Rattle.fx_cpu.specs.declared.trap.PortStop.{PortStop}
use Rattle.fx_cpu.specs.declared.trap.PortStop.TheVariants.{Refused, Outside}
use Rattle.fx_cpu.specs.declared.trap.Trap.{Trap}
use Rattle.fx_cpu.specs.declared.trap.Trap.TheVariants as traps
use Rattle.fx_cpu.specs.declared.trap.Stepped.{Stepped}
use Rattle.fx_cpu.specs.declared.trap.Stepped.TheVariants.{Went, Fault}

-- The trap for an access that a port didn't carry out.
abbrev pub trap_of : Access → PortStop → Trap
trap_of access (Refused address refusal) = traps.Page address access refusal
trap_of access (Outside why) = traps.Outside why

-- What an instruction may do, by what it asks of memory. `next` are the registers with RIP behind it;
-- r and o are the registers and the port as it begins, s and n after it. A trap leaves the registers.
abbrev pub Does_by : Need → Inst → Regs → Regs → World → Stepped → Regs → World → Type 0
Does_by Quiet i next r o Went s n = (s ≡ finish i next 0) × (n ≡ o)
Does_by Quiet i next r o (Fault t) s n = ⊥
Does_by (Reads w a) i next r o Went s n = (v : ℕ) × (s ≡ finish i next v) × Loaded o r.pkru w a (Ok v) n
Does_by (Reads w a) i next r o (Fault t) s n = (e : PortStop) × (t ≡ trap_of Read e) × (s ≡ r) × Loaded o r.pkru w a (Err e) n
Does_by (Writes w a v) i next r o Went s n = (s ≡ finish i next 0) × Stored o r.pkru w a v (Ok tt) n
Does_by (Writes w a v) i next r o (Fault t) s n = (e : PortStop) × (t ≡ trap_of Write e) × (s ≡ r) × Stored o r.pkru w a v (Err e) n
Does_by (Stops trap) i next r o Went s n = ⊥
Does_by (Stops trap) i next r o (Fault t) s n = (t ≡ trap) × (s ≡ r) × (n ≡ o)

-- What an instruction of a length may do.
abbrev pub Does : Inst → ℕ → Regs → World → Stepped → Regs → World → Type 0
Does i len r o t s n = Does_by (need i (past r len)) i (past r len) r o t s n
