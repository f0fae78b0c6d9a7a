-- What one instruction does to the registers of its vCPU and to memory, before its operation is made.
use Rattle.std.specs.Prelude.{ℕ, ◌≡◌, true, false, List, [], ◌∷◌}
use Rattle.fx_outcomes.specs.Runs.{Goes, Stops}
use Rattle.fx_base.specs.declared.device_op.DeviceOp.{DeviceOp}
use Rattle.fx_x64_forms.specs.declared.inst.Inst.{Inst}
use Rattle.fx_x64_forms.specs.Numbers.{width_bytes}
use Rattle.fx_vm_pages.specs.declared.entry.Pkru.{Pkru}
use Rattle.fx_vm_pages.specs.declared.access.Access.TheVariants.{Read, Write}
use Rattle.fx_cpu.specs.Memory.{word_at, stored}
use Rattle.fx_cpu.specs.declared.need.Need.{Need}
use Rattle.fx_cpu.specs.declared.need.Need.TheVariants.{Quiet, Reads, Writes, Stops as NeedStops}
use Rattle.fx_image.specs.declared.forms.Image.{Image}
use Rattle.fx_cpu.specs.Registers.{past}
use Rattle.fx_cpu.specs.Does.{finish}
use Rattle.fx_cpu.specs.declared.registers.Regs.{Regs}
use Rattle.fx_machine_model.specs.Layout.{page_entry}
use Rattle.fx_machine_model.specs.Moves.{World, Move}
use Rattle.fx_machine.specs.Reaching.{reach_of}
use Rattle.fx_machine.specs.declared.check.Reach.TheVariants.{Memory}
use Rattle.fx_machine.specs.declared.act.Act.{Act}
use Rattle.fx_machine.specs.declared.act.Act.TheVariants.{Done, Operation, Halts}

-- Memory, with the answers that are left for loads of devices.
abbrev pub world : (ℕ → ℕ) → List ℕ → World
world memory answers = record { memory = memory; answers = answers }

-- An operation with the value that its load was answered.
abbrev pub answered : DeviceOp → ℕ → DeviceOp
answered op answer = record { device = op.device; reg = op.reg; write = false; value = answer }

-- The instruction is an operation: a store is made whatever answers are left, a load takes the next one.
pub record Operates (go : List ℕ → Move) (r : Regs) (memory : ℕ → ℕ) (i : Inst) (len : ℕ) (op : DeviceOp) : Type 0 where
  pub stores : op.write ≡ true → (answers : List ℕ) → go answers ≡ Goes (op ∷ []) (finish i (past r len) 0, world memory answers)
  pub loads : op.write ≡ false → (answer : ℕ) (rest : List ℕ) → go (answer ∷ rest) ≡ Goes (answered op answer ∷ []) (finish i (past r len) answer, world memory rest)

-- What is done of a move, by the answers that are left. An operation isn't made yet.
abbrev pub ActsBy : (List ℕ → Move) → Regs → (ℕ → ℕ) → Act → Regs → (ℕ → ℕ) → Type 0
ActsBy go r memory Done after new = (answers : List ℕ) → go answers ≡ Goes [] (after, world new answers)
ActsBy go r memory (Operation i len op) after new = Operates go r memory i len op × (after ≡ r) × (new ≡ memory)
ActsBy go r memory (Halts stop) after new = ((answers : List ℕ) → go answers ≡ Stops [] stop) × (after ≡ r) × (new ≡ memory)

-- An access to memory was made for what an instruction asks for: the value that was read, 0 where none was,
-- and memory after it.
abbrev pub Accesses : Image → ℕ → Pkru → (ℕ → ℕ) → Need → ℕ → (ℕ → ℕ) → Type 0
Accesses image vcpu pkru memory Quiet value new = (value ≡ 0) × (new ≡ memory)
Accesses image vcpu pkru memory (Reads w a) value new = (reach_of (page_entry image vcpu) pkru Read a (width_bytes w) ≡ Memory) × (value ≡ word_at memory w a) × (new ≡ memory)
Accesses image vcpu pkru memory (Writes w a v) value new = (reach_of (page_entry image vcpu) pkru Write a (width_bytes w) ≡ Memory) × (value ≡ 0) × (new ≡ stored memory w a v)
Accesses image vcpu pkru memory (NeedStops trap) value new = ⊥
