-- One turn of a vCPU: it executes one whole instruction.
use Rattle.std.specs.Prelude.{ℕ, zero, suc, ◌+◌, ◌-◌, ◌/◌, ◌%◌, ◌^◌, Bool, true, false, ◌==◌, if◌then◌else◌, List, [], ◌∷◌, ◌++◌, length, Option, Some, None}
use Rattle.std.specs.Int.{w64, cast_signed}
use Rattle.fx_outcomes.specs.Runs.{Next, Goes, Stops}
use Rattle.fx_base.specs.declared.device_op.DeviceOp.{DeviceOp}
use Rattle.fx_x64_forms.specs.Numbers.{width_bytes}
use Rattle.fx_x64_forms.specs.declared.operand.Width.{Width}
use Rattle.fx_x64_forms.specs.declared.operand.Reg.TheVariants.{Rax, Rdi, Rsi}
use Rattle.fx_x64_forms.specs.declared.inst.Inst.{Inst}
use Rattle.fx_x64_code.specs.Decoded.{decoded}
use Rattle.fx_vm_pages.specs.Entries.{is_device}
use Rattle.fx_vm_pages.specs.Access.{access_check, page_of}
use Rattle.fx_vm_pages.specs.declared.entry.Entry.{Entry}
use Rattle.fx_vm_pages.specs.declared.entry.Pkru.{Pkru}
use Rattle.fx_vm_pages.specs.declared.access.Access.{Access}
use Rattle.fx_vm_pages.specs.declared.access.Access.TheVariants.{Read, Write, Fetch}
use Rattle.fx_vm_pages.specs.declared.access.Refusal.{Refusal}
use Rattle.fx_cpu.specs.Registers.{reg, past}
use Rattle.fx_cpu.specs.Memory.{on, word_at, stored}
use Rattle.fx_cpu.specs.Does.{need, finish}
use Rattle.fx_cpu.specs.declared.registers.Regs.{Regs}
use Rattle.fx_cpu.specs.declared.need.Need.{Need}
use Rattle.fx_cpu.specs.declared.need.Need.TheVariants as needs
use Rattle.fx_cpu.specs.declared.trap.Trap.{Trap}
use Rattle.fx_cpu.specs.declared.trap.Trap.TheVariants as traps
use Rattle.fx_image.specs.Keys.{is_keyed}
use Rattle.fx_image.specs.declared.forms.Image.{Image}
use Rattle.fx_image.specs.declared.forms.Comp.{Comp}
use Rattle.fx_machine_model.specs.Layout.{page_entry, is_ept}
use Rattle.fx_machine_model.specs.declared.fetched.Fetched.{Fetched}
use Rattle.fx_machine_model.specs.declared.fetched.Fetched.TheVariants.{Found, RefusedAt, Unspelled}
use Rattle.fx_machine_model.specs.declared.stop.Stop.{Stop}
use Rattle.fx_machine_model.specs.declared.stop.Stop.TheVariants.{Exit, Page, Invalid, Protection, Divide, StackFull, BadThread, ThreadsFull, Aborted}

-- What all vCPUs share: the byte at each address, and the answers that are left for loads of devices.
pub record World : Type 0 where
  pub memory : ℕ → ℕ
  pub answers : List ℕ

-- What a load of a device that no box stands for is answered.
abbrev pub all_ones : ℕ
all_ones = 2 ^ 64 - 1

abbrev pub Move : Type 0
Move = Next DeviceOp (Regs × World) Stop

-- ---- stops

-- The compartment whose PKRU value is held, of the compartments from number c on.
abbrev pub holder : List Comp → ℕ → ℕ → ℕ
holder [] c pkru = 255
holder (comp ∷ rest) c pkru = if comp.pkru == pkru then c else holder rest (c + 1) pkru

-- Who acts: under `ept` the space of the vCPU, under keys the compartment whose PKRU value is held,
-- else 255.
abbrev pub domain_of : Image → ℕ → Pkru → ℕ
domain_of image vcpu pkru = if is_ept image then vcpu else if is_keyed image.mechanism then holder image.compartments 0 pkru.0 else 255

-- HLT stops by RAX.
abbrev pub halted : ℕ → ℕ → ℕ → Stop
halted rax rdi rsi =
    if rax == 0 then Exit (cast_signed w64 rdi)
    else if rax == 1 then StackFull rdi rsi
    else if rax == 2 then BadThread
    else if rax == 3 then ThreadsFull
    else Aborted

-- The stop of an instruction that isn't done whatever memory says.
abbrev pub trapped : Trap → Regs → Stop
trapped traps.Halt r = halted (reg r Rax) (reg r Rdi) (reg r Rsi)
trapped traps.Protection r = Protection
trapped traps.Divide r = Divide
trapped _ r = Invalid

-- The stop of a refused access: the first refused byte, with its refusal.
abbrev pub refused : Image → ℕ → Pkru → Access → ℕ × Refusal → Stop
refused image vcpu pkru access first = Page vcpu (domain_of image vcpu pkru) first.0 access first.1

-- ---- fetching

abbrev pub unless_refused : Option (ℕ × Refusal) → Fetched → Fetched
unless_refused None rest = rest
unless_refused (Some first) rest = RefusedAt first

abbrev pub unless_found : Option (Inst × ℕ) → Fetched → Fetched
unless_found None rest = rest
unless_found (Some found) rest = Found found.0 found.1

-- Bytes are fetched one at a time from RIP until they are a spelling; at most so many more, where
-- `text` was fetched.
unfoldable pub fetched : (ℕ → Option Entry) → Pkru → (ℕ → ℕ) → ℕ → ℕ → List ℕ → Fetched
fetched entries pkru memory rip zero text = Unspelled
fetched entries pkru memory rip (suc left) text =
    let place = on rip (length text) in
    let longer = text ++ memory place ∷ [] in
    unless_refused (access_check entries pkru Fetch place 1) (unless_found (decoded longer) (fetched entries pkru memory rip left longer))

-- ---- accesses

-- The device that an address belongs to: page 0xf100 + i is that of device i.
abbrev pub device_at : Option Entry → ℕ → Option ℕ
device_at None address = None
device_at (Some entry) address = if is_device entry.flags then Some (page_of address - 0xf100) else None

-- The operation of an access to a device: register r stands at 8 * r in the device's page.
abbrev pub operation : ℕ → ℕ → Bool → ℕ → DeviceOp
operation device address write value = record { device = device; reg = address % 4096 / 8; write = write; value = value }

abbrev pub checked : Image → ℕ → Pkru → Access → Option (ℕ × Refusal) → Move → Move
checked image vcpu pkru access None go = go
checked image vcpu pkru access (Some first) go = Stops [] (refused image vcpu pkru access first)

-- A load of a device takes the next answer; where none is left it changes nothing.
abbrev pub read_device : Inst → ℕ → Regs → World → ℕ → ℕ → List ℕ → Move
read_device i len r w device address [] = Goes [] (r, w)
read_device i len r w device address (answer ∷ rest) =
    Goes (operation device address false answer ∷ []) (finish i (past r len) answer, record w { answers = rest })

abbrev pub read : Inst → ℕ → Regs → World → Width → ℕ → Option ℕ → Move
read i len r w width address None = Goes [] (finish i (past r len) (word_at w.memory width address), w)
read i len r w width address (Some device) = read_device i len r w device address w.answers

abbrev pub write : Inst → ℕ → Regs → World → Width → ℕ → ℕ → Option ℕ → Move
write i len r w width address value None = Goes [] (finish i (past r len) 0, record w { memory = stored w.memory width address value })
write i len r w width address value (Some device) = Goes (operation device address true value ∷ []) (finish i (past r len) 0, w)

-- ---- one instruction

-- What an instruction of a length does, by what it asks of memory.
abbrev pub perform_need : Image → ℕ → Need → Inst → ℕ → Regs → World → Move
perform_need image vcpu needs.Quiet i len r w = Goes [] (finish i (past r len) 0, w)
perform_need image vcpu (needs.Reads width address) i len r w =
    checked image vcpu r.pkru Read (access_check (page_entry image vcpu) r.pkru Read address (width_bytes width))
    (read i len r w width address (device_at (page_entry image vcpu (page_of address)) address))
perform_need image vcpu (needs.Writes width address value) i len r w =
    checked image vcpu r.pkru Write (access_check (page_entry image vcpu) r.pkru Write address (width_bytes width))
    (write i len r w width address value (device_at (page_entry image vcpu (page_of address)) address))
perform_need image vcpu (needs.Stops trap) i len r w = Stops [] (trapped trap r)

abbrev pub perform : Image → ℕ → Inst → ℕ → Regs → World → Move
perform image vcpu i len r w = perform_need image vcpu (need i (past r len)) i len r w

-- What a vCPU does: it fetches an instruction in its own address space, whose number is the vCPU's,
-- and executes it.
abbrev pub move_by : Image → ℕ → Fetched → Regs → World → Move
move_by image vcpu (Found i len) r w = perform image vcpu i len r w
move_by image vcpu (RefusedAt first) r w = Stops [] (refused image vcpu r.pkru Fetch first)
move_by image vcpu Unspelled r w = Stops [] Invalid

unfoldable pub move : Image → ℕ → Regs → World → Move
move image vcpu r w = move_by image vcpu (fetched (page_entry image vcpu) r.pkru w.memory r.rip 15 []) r w
