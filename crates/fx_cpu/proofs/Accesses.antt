use Rattle.std.proofs.Common.{◌≡◌, ◌≤◌, ℕ, suc, zero, None, Some, Option, Ok, Err, Result, List, [], ◌∷◌, ◌++◌, length, refl, ap, arith, inl, inr, ◌∙◌}
use Rattle.std.specs.Prelude.{MatchResult, MatchOption, All}
use Rattle.std.proofs.lemmas.List.Elements.{All-nil, All-cons}
use mathlib.Core.List.{append-nil, append_assoc}
use Rattle.fx_x64_forms.specs.declared.inst.Inst.{Inst}
use Rattle.fx_vm_pages.specs.declared.access.Access.TheVariants.{Fetch}
use Rattle.fx_x64_code.specs.Decoded.{decoded}
use Rattle.fx_cpu.specs.Registers.{past}
use Rattle.fx_cpu.specs.Does.{need}
use Rattle.fx_cpu.specs.World.{World, Fetched}
use Rattle.fx_cpu.specs.Steps.{Does, Does_by, trap_of}
use Rattle.fx_cpu.specs.Fetches.{Fetches}
use Rattle.fx_cpu.specs.Laws.{IsFetch, AtMostOne, OneAccess, StepOneAccess}
use Rattle.fx_cpu.specs.declared.port.Place.{Place}
use Rattle.fx_cpu.specs.declared.registers.Regs.{Regs}
use Rattle.fx_cpu.specs.declared.need.Need.{Need}
use Rattle.fx_cpu.specs.declared.need.Need.TheVariants.{Quiet, Reads, Writes, Stops}
use Rattle.fx_cpu.specs.declared.trap.PortStop.{PortStop}
use Rattle.fx_cpu.specs.declared.trap.Stepped.{Stepped}
use Rattle.fx_cpu.specs.declared.trap.Stepped.TheVariants.{Went, Fault}
use Rattle.fx_cpu.proofs.FreeSteps.{not_done_keeps}

-- ---- of an instruction

one_by : (d : Need) (i : Inst) (next r : Regs) (o : World) (t : Stepped) (s : Regs) (n : World) → Does_by d i next r o t s n → AtMostOne o.notes n.notes
one_by Quiet i next r o Went s n h = inl (ap (λ w. w.notes) h.1)
one_by Quiet i next r o (Fault t) s n h = absurd h
one_by (Reads w a) i next r o Went s n (v, e, h) = inr (_, (λ q. cc), ap (λ w. w.notes) h.4)
one_by (Reads w a) i next r o (Fault t) s n h = let k = not_done_keeps o n _ _ _ h.0 h.3 in inl k.1
one_by (Writes w a v) i next r o Went s n h = inr (_, (λ q. cc), ap (λ w. w.notes) h.1.1)
one_by (Writes w a v) i next r o (Fault t) s n h = let k = not_done_keeps o n _ _ _ h.0 h.3 in inl k.1
one_by (Stops trap) i next r o Went s n h = absurd h
one_by (Stops trap) i next r o (Fault t) s n h = inl (ap (λ w. w.notes) h.2)

pub one_access : OneAccess
one_access i len r o t s n h = one_by (need i (past r len)) i (past r len) r o t s n h

-- ---- of a step

-- at most k fetches, and then at most one data access
abbrev StepsTo : ℕ → List (Place × ℕ) → List (Place × ℕ) → Type 0
StepsTo k before after = (fetches : List (Place × ℕ)) × All IsFetch fetches × (length fetches ≤ k) × AtMostOne (before ++ fetches) after

none_fetched : (k : ℕ) (before after : List (Place × ℕ)) → AtMostOne before after → StepsTo k before after
none_fetched k before after h = ([], All-nil IsFetch, omega arith, rw append-nil h)

one_more : (k : ℕ) (note : Place × ℕ) (before mid after : List (Place × ℕ)) → IsFetch note → mid ≡ before ++ note ∷ [] → StepsTo k mid after → StepsTo (suc k) before after
one_more k note before mid after f e (fetches, all, len, h) =
    (note ∷ fetches, All-cons IsFetch note fetches f all, omega arith, rw (e, append_assoc before (note ∷ []) fetches) at h)

by_decoded : (d : Option (Inst × ℕ)) (F : Type 0) (k : ℕ) (r : Regs) (mid : World) (t : Stepped) (s : Regs) (n : World) → (F → StepsTo k mid.notes n.notes) →
    MatchOption d F (λ x. Does x.0 x.1 r mid t s n) → StepsTo k mid.notes n.notes
by_decoded None F k r mid t s n rest h = rest h
by_decoded (Some x) F k r mid t s n rest h = none_fetched k mid.notes n.notes (one_access x.0 x.1 r mid t s n h)

by_fetched : (x : Result ℕ PortStop) (a k : ℕ) (F : ℕ → Type 0) (r : Regs) (o mid : World) (t : Stepped) (s : Regs) (n : World) → Fetched o a x mid →
    ((b : ℕ) → F b → StepsTo k mid.notes n.notes) → MatchResult x F (λ e. (t ≡ Fault (trap_of Fetch e)) × (s ≡ r) × (n ≡ mid)) → StepsTo (suc k) o.notes n.notes
by_fetched (Ok b) a k F r o mid t s n f rest h = one_more k _ o.notes mid.notes n.notes refl (ap (λ w. w.notes) f.2) (rest b h)
by_fetched (Err e) a k F r o mid t s n f rest h =
    let z = not_done_keeps o mid _ _ _ e f in none_fetched (suc k) o.notes n.notes (inl (ap (λ w. w.notes) h.2 ∙ z.1))

step_by : (more : ℕ) (text : List ℕ) (r : Regs) (o : World) (t : Stepped) (s : Regs) (n : World) → Fetches more text r o t s n → StepsTo more o.notes n.notes
unfolding Fetches
step_by zero text r o t s n h = none_fetched 0 o.notes n.notes (inl (ap (λ w. w.notes) h.2))
step_by (suc more) text r o t s n h =
    by_fetched h.0 _ more _ r o h.1 t s n h.2
    (λ b g. by_decoded (decoded (text ++ b ∷ [])) _ more r h.1 t s n (λ q. step_by more (text ++ b ∷ []) r h.1 t s n q) g)
    h.3

pub step_one_access : StepOneAccess
step_one_access r o t s n h = step_by 15 [] r o t s n h
