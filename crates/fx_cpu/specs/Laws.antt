use Rattle.std.specs.Prelude.{ℕ, ◌≡◌, ◌≢◌, ◌<◌, ◌≤◌, ◌+◌, ◌^◌, ◌⊎◌, false, None, List, [], ◌∷◌, ◌++◌, length, All}
use Rattle.fx_x64_forms.specs.Numbers.{width_bytes}
use Rattle.fx_x64_forms.specs.declared.operand.Width.{Width}
use Rattle.fx_x64_forms.specs.declared.inst.Inst.{Inst}
use Rattle.fx_vm_pages.specs.declared.entry.Pkru.{Pkru}
use Rattle.fx_vm_pages.specs.declared.access.Access.TheVariants.{Read, Write, Fetch}
use Rattle.fx_word_ops.specs.Words.{size}
use Rattle.fx_cpu.specs.Registers.{past}
use Rattle.fx_cpu.specs.Memory.{word_at, stored}
use Rattle.fx_cpu.specs.Does.{need}
use Rattle.fx_cpu.specs.World.{World}
use Rattle.fx_cpu.specs.Steps.{Does}
use Rattle.fx_cpu.specs.Fetches.{StepDoes}
use Rattle.fx_cpu.specs.Runs.{State, run_one}
use Rattle.fx_cpu.specs.declared.registers.Regs.{Regs}
use Rattle.fx_cpu.specs.declared.port.Place.{Place}
use Rattle.fx_cpu.specs.declared.need.Need.{Need}
use Rattle.fx_cpu.specs.declared.need.Need.TheVariants.{Quiet, Reads, Writes, Stops}
use Rattle.fx_cpu.specs.declared.trap.Trap.{Trap}
use Rattle.fx_cpu.specs.declared.trap.Stepped.{Stepped}
use Rattle.fx_cpu.specs.declared.trap.Stepped.TheVariants.{Went, Fault}

-- ---- Memory

-- Two words apart, of n and of k bytes: neither goes past the last address into the other.
abbrev pub Apart : ℕ → ℕ → ℕ → ℕ → Type 0
Apart a n b k = ((a + n ≤ b) × (b + k ≤ 2 ^ 64)) ⊎ ((b + k ≤ a) × (a + n ≤ 2 ^ 64))

-- A store leaves the words apart from it.
abbrev pub StoresLeaveOthers : Type 0
StoresLeaveOthers =
    (m : ℕ → ℕ) (w : Width) (a v : ℕ) (u : Width) (b : ℕ) →
    Apart a (width_bytes w) b (width_bytes u) → word_at (stored m w a v) u b ≡ word_at m u b

-- A load gives what was stored there.
abbrev pub LoadsGiveStored : Type 0
LoadsGiveStored = (m : ℕ → ℕ) (w : Width) (a v : ℕ) → a < 2 ^ 64 → v < size w → word_at (stored m w a v) w a ≡ v

-- Words of bytes have their width, and a store leaves bytes.
abbrev pub WordsFit : Type 0
WordsFit = (m : ℕ → ℕ) (w : Width) (a : ℕ) → ((k : ℕ) → m k < 256) → word_at m w a < size w

abbrev pub StoresKeepBytes : Type 0
StoresKeepBytes = (m : ℕ → ℕ) (w : Width) (a v : ℕ) → ((k : ℕ) → m k < 256) → (k : ℕ) → stored m w a v k < 256

-- ---- Instructions

-- The access is to memory, and nothing refuses it.
abbrev pub IsFree : World → Pkru → Need → Type 0
IsFree o p Quiet = Unit {0}
IsFree o p (Reads w a) = (o.rules.refuses p Read w a ≡ None) × (o.rules.waits w a ≡ false) × (o.rules.device Read w a ≡ None)
IsFree o p (Writes w a v) = (o.rules.refuses p Write w a ≡ None) × (o.rules.device Write w a ≡ None)
IsFree o p (Stops trap) = ⊥

abbrev pub state : Regs → World → State
state r o = record { regs = r; mem = o.bytes }

-- An instruction whose access is free goes, and does what `run_one` says.
abbrev pub FreeStepsRun : Type 0
FreeStepsRun =
    (i : Inst) (len : ℕ) (r : Regs) (o : World) (t : Stepped) (s : Regs) (n : World) →
    IsFree o r.pkru (need i (past r len)) → Does i len r o t s n →
    (t ≡ Went) × (state s n ≡ run_one i len (state r o)) × (n.rules ≡ o.rules) × (n.counts ≡ o.counts)

-- A trap changes no register and no memory.
abbrev pub TrapsKeep : Type 0
TrapsKeep =
    (i : Inst) (len : ℕ) (r : Regs) (o : World) (trap : Trap) (s : Regs) (n : World) →
    Does i len r o (Fault trap) s n → (s ≡ r) × (n.bytes ≡ o.bytes) × (n.notes ≡ o.notes)

-- The same of a whole step.
abbrev pub StepTrapsKeep : Type 0
StepTrapsKeep =
    (r : Regs) (o : World) (trap : Trap) (s : Regs) (n : World) →
    StepDoes r o (Fault trap) s n → (s ≡ r) × (n.bytes ≡ o.bytes)

-- ---- Accesses

abbrev pub IsFetch : Place × ℕ → Type 0
IsFetch note = note.0.access ≡ Fetch

abbrev pub IsData : Place × ℕ → Type 0
IsData note = note.0.access ≢ Fetch

-- The accesses carried out are the earlier ones, with at most one data access behind them.
abbrev pub AtMostOne : List (Place × ℕ) → List (Place × ℕ) → Type 0
AtMostOne before after = (after ≡ before) ⊎ ((note : Place × ℕ) × IsData note × (after ≡ before ++ note ∷ []))

-- An instruction makes at most one data access.
abbrev pub OneAccess : Type 0
OneAccess =
    (i : Inst) (len : ℕ) (r : Regs) (o : World) (t : Stepped) (s : Regs) (n : World) →
    Does i len r o t s n → AtMostOne o.notes n.notes

-- A step fetches at most fifteen bytes, and then makes at most one data access.
abbrev pub StepOneAccess : Type 0
StepOneAccess =
    (r : Regs) (o : World) (t : Stepped) (s : Regs) (n : World) → StepDoes r o t s n →
    (fetches : List (Place × ℕ)) × All IsFetch fetches × (length fetches ≤ 15) × AtMostOne (o.notes ++ fetches) n.notes
