use Rattle.std.specs.Prelude.{ℕ, List, [], ◌∷◌}
use Rattle.fx_x64_forms.specs.declared.inst.Inst.{Inst}
use Rattle.fx_cpu.specs.Registers.{past}
use Rattle.fx_cpu.specs.Memory.{word_at, stored}
use Rattle.fx_cpu.specs.Does.{need, finish}
use Rattle.fx_cpu.specs.declared.registers.Regs.{Regs}
use Rattle.fx_cpu.specs.declared.need.Need.{Need}
use Rattle.fx_cpu.specs.declared.need.Need.TheVariants.{Quiet, Reads, Writes, Stops}

-- Registers and memory alone.
pub record State : Type 0 where
  pub regs : Regs
  pub mem : ℕ → ℕ

-- An instruction whose access is to memory and not refused, by what it asks; one that stops does
-- nothing.
abbrev pub run_by : Need → Inst → Regs → State → State
run_by Quiet i next s = record { regs = finish i next 0; mem = s.mem }
run_by (Reads w a) i next s = record { regs = finish i next (word_at s.mem w a); mem = s.mem }
run_by (Writes w a v) i next s = record { regs = finish i next 0; mem = stored s.mem w a v }
run_by (Stops trap) i next s = s

-- An instruction of a length.
abbrev pub run_one : Inst → ℕ → State → State
run_one i len s = run_by (need i (past s.regs len)) i (past s.regs len) s

-- Instructions with their lengths, one after the other.
abbrev pub run_all : List (Inst × ℕ) → State → State
run_all [] s = s
run_all (i ∷ rest) s = run_all rest (run_one i.0 i.1 s)
