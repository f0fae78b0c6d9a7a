use Rattle.std.proofs.Common.{◌≡◌, ℕ, suc, zero, None, Some, Option, Bool, true, false, refl, ap, Err, Ok, Result, List, [], ◌∷◌, ◌++◌, ◌∙◌}
use Rattle.std.specs.Prelude.{MatchResult, MatchOption}
use Rattle.fx_x64_forms.specs.declared.inst.Inst.{Inst}
use Rattle.fx_vm_pages.specs.declared.access.Refusal.{Refusal}
use Rattle.fx_vm_pages.specs.declared.access.Access.TheVariants.{Fetch}
use Rattle.fx_x64_code.specs.Decoded.{decoded}
use Rattle.fx_cpu.specs.Registers.{past}
use Rattle.fx_cpu.specs.Does.{need}
use Rattle.fx_cpu.specs.World.{World, NotDone, Fetched}
use Rattle.fx_cpu.specs.Steps.{Does, Does_by, trap_of}
use Rattle.fx_cpu.specs.Fetches.{Fetches}
use Rattle.fx_cpu.specs.Runs.{State, run_by}
use Rattle.fx_cpu.specs.Laws.{IsFree, state, FreeStepsRun, TrapsKeep, StepTrapsKeep}
use Rattle.fx_cpu.specs.declared.registers.Regs.{Regs}
use Rattle.fx_cpu.specs.declared.need.Need.{Need}
use Rattle.fx_cpu.specs.declared.need.Need.TheVariants.{Quiet, Reads, Writes, Stops}
use Rattle.fx_cpu.specs.declared.trap.PortStop.{PortStop}
use Rattle.fx_cpu.specs.declared.trap.PortStop.TheVariants.{Refused, Outside}
use Rattle.fx_cpu.specs.declared.trap.Why.TheVariants.{Device, Input, OutOfMemory}
use Rattle.fx_cpu.specs.declared.trap.Trap.{Trap}
use Rattle.fx_cpu.specs.declared.trap.Stepped.{Stepped}
use Rattle.fx_cpu.specs.declared.trap.Stepped.TheVariants.{Went, Fault}

-- ---- an access that is free is carried out

no_stop : (o n : World) (refusal : Option (ℕ × Refusal)) (device : Option ℕ) (waits : Bool) (e : PortStop) → refusal ≡ None → device ≡ None → waits ≡ false → NotDone o refusal device waits e n → ⊥
no_stop o n refusal device waits (Refused at why) p q w h = let x = h.0 in cc
no_stop o n refusal device waits (Outside (Device i)) p q w h = let x = h.2 in cc
no_stop o n refusal device waits (Outside Input) p q w h = let x = h.1 in cc
no_stop o n refusal device waits (Outside OutOfMemory) p q w h = let x : false ≡ true = rw q at h.2 in cc

states : (r s : Regs) (m k : ℕ → ℕ) → r ≡ s → m ≡ k → ◌≡◌ {A = State} (record { regs = r; mem = m }) (record { regs = s; mem = k })
states r s m k p q = rw (p, q)

by_need : (d : Need) (i : Inst) (next r : Regs) (o : World) (t : Stepped) (s : Regs) (n : World) → IsFree o r.pkru d → Does_by d i next r o t s n →
    (t ≡ Went) × (state s n ≡ run_by d i next (state r o)) × (n.rules ≡ o.rules) × (n.counts ≡ o.counts)
by_need Quiet i next r o Went s n f h = (refl, states _ _ _ _ h.0 (ap (λ w. w.bytes) h.1), ap (λ w. w.rules) h.1, ap (λ w. w.counts) h.1)
by_need Quiet i next r o (Fault t) s n f h = absurd h
by_need (Reads w a) i next r o Went s n f (v, e, h) =
    (refl, states _ _ _ _ (rw (← h.3 f.2) e) (ap (λ w. w.bytes) h.4), ap (λ w. w.rules) h.4, ap (λ w. w.counts) h.4)
by_need (Reads w a) i next r o (Fault t) s n f h = absurd (no_stop o n _ _ _ h.0 f.0 f.2 f.1 h.3)
by_need (Writes w a v) i next r o Went s n f h = let z = rw f.1 at h.1.1 in (refl, states _ _ _ _ h.0 (ap (λ w. w.bytes) z), ap (λ w. w.rules) z, ap (λ w. w.counts) z)
by_need (Writes w a v) i next r o (Fault t) s n f h = absurd (no_stop o n _ _ false h.0 f.0 f.1 refl h.3)
by_need (Stops trap) i next r o t s n f h = absurd f

pub free_steps_run : FreeStepsRun
free_steps_run i len r o t s n f h = by_need (need i (past r len)) i (past r len) r o t s n f h

-- ---- a trap keeps

pub not_done_keeps : (o n : World) (refusal : Option (ℕ × Refusal)) (device : Option ℕ) (waits : Bool) (e : PortStop) → NotDone o refusal device waits e n → (n.bytes ≡ o.bytes) × (n.notes ≡ o.notes)
not_done_keeps o n refusal device waits (Refused at why) h = (ap (λ w. w.bytes) h.1, ap (λ w. w.notes) h.1)
not_done_keeps o n refusal device waits (Outside (Device i)) h = let z = h.3.0 in (ap (λ w. w.bytes) z, ap (λ w. w.notes) z)
not_done_keeps o n refusal device waits (Outside Input) h = (ap (λ w. w.bytes) h.2, ap (λ w. w.notes) h.2)
not_done_keeps o n refusal device waits (Outside OutOfMemory) h = (ap (λ w. w.bytes) h.3, ap (λ w. w.notes) h.3)

keeps_by : (d : Need) (i : Inst) (next r : Regs) (o : World) (trap : Trap) (s : Regs) (n : World) → Does_by d i next r o (Fault trap) s n → (s ≡ r) × (n.bytes ≡ o.bytes) × (n.notes ≡ o.notes)
keeps_by Quiet i next r o trap s n h = absurd h
keeps_by (Reads w a) i next r o trap s n h = let k = not_done_keeps o n _ _ _ h.0 h.3 in (h.2, k.0, k.1)
keeps_by (Writes w a v) i next r o trap s n h = let k = not_done_keeps o n _ _ false h.0 h.3 in (h.2, k.0, k.1)
keeps_by (Stops stop) i next r o trap s n h = (h.1, ap (λ w. w.bytes) h.2, ap (λ w. w.notes) h.2)

pub traps_keep : TrapsKeep
traps_keep i len r o trap s n h = keeps_by (need i (past r len)) i (past r len) r o trap s n h

-- ---- the same of a step

by_decoded : (d : Option (Inst × ℕ)) (F : Type 0) (r : Regs) (mid : World) (trap : Trap) (s : Regs) (n : World) → (F → (s ≡ r) × (n.bytes ≡ mid.bytes)) →
    MatchOption d F (λ x. Does x.0 x.1 r mid (Fault trap) s n) → (s ≡ r) × (n.bytes ≡ mid.bytes)
by_decoded None F r mid trap s n rest h = rest h
by_decoded (Some x) F r mid trap s n rest h = let k = traps_keep x.0 x.1 r mid trap s n h in (k.0, k.1)

by_fetched : (x : Result ℕ PortStop) (a : ℕ) (F : ℕ → Type 0) (r : Regs) (o mid : World) (trap : Trap) (s : Regs) (n : World) → Fetched o a x mid → ((b : ℕ) → F b → (s ≡ r) × (n.bytes ≡ mid.bytes)) →
    MatchResult x F (λ e. (Fault trap ≡ Fault (trap_of Fetch e)) × (s ≡ r) × (n ≡ mid)) → (s ≡ r) × (n.bytes ≡ o.bytes)
by_fetched (Ok b) a F r o mid trap s n f rest h = let k = rest b h in (k.0, k.1 ∙ ap (λ w. w.bytes) f.2)
by_fetched (Err e) a F r o mid trap s n f rest h = let k = not_done_keeps o mid _ _ false e f in (h.1, ap (λ w. w.bytes) h.2 ∙ k.0)

step_by : (more : ℕ) (text : List ℕ) (r : Regs) (o : World) (trap : Trap) (s : Regs) (n : World) → Fetches more text r o (Fault trap) s n → (s ≡ r) × (n.bytes ≡ o.bytes)
unfolding Fetches
step_by zero text r o trap s n h = (h.1, ap (λ w. w.bytes) h.2)
step_by (suc more) text r o trap s n h =
    by_fetched h.0 _ _ r o h.1 trap s n h.2
    (λ b g. by_decoded (decoded (text ++ b ∷ [])) _ r h.1 trap s n (λ q. step_by more (text ++ b ∷ []) r h.1 trap s n q) g)
    h.3

pub step_traps_keep : StepTrapsKeep
step_traps_keep r o trap s n h = step_by 15 [] r o trap s n h
