use Rattle.std.proofs.Common.{◌≡◌, ◌<◌, ◌≤◌, ◌+◌, ◌-◌, ◌%◌, ◌^◌, ℕ, suc, List, [], ◌∷◌, ◌++◌, length, take, Some, None, Ok, Err, refl, arith, length-take}
use Rattle.std.specs.Prelude.{slice_set}
use Rattle.std.proofs.lemmas.Grind.{take-set_at}
use Rattle.fx_x64_forms.specs.declared.inst.Inst.{Inst}
use Rattle.fx_x64_code.specs.Decoded.{decoded}
use Rattle.fx_vm_pages.specs.declared.access.Access.TheVariants.{Fetch}
use Rattle.fx_cpu.specs.World.{World, Fetched}
use Rattle.fx_cpu.specs.Steps.{Does, trap_of}
use Rattle.fx_cpu.specs.Fetches.{Fetches}
use Rattle.fx_cpu.specs.declared.registers.Regs.{Regs}
use Rattle.fx_cpu.specs.declared.trap.PortStop.{PortStop}
use Rattle.fx_cpu.specs.declared.trap.Trap.TheVariants as traps
use Rattle.fx_cpu.specs.declared.trap.Stepped.{Stepped}
use Rattle.fx_cpu.specs.declared.trap.Stepped.TheVariants.{Fault}

-- n bytes are fetched, of at most 15
module _ (n : ℕ) (text : List ℕ) (r : Regs) (o mid : World) (h : n < 15) (l : length text ≡ 15) where
  left : 15 - n ≡ suc (14 - n)
  left = omega arith

  long : length (take n text) ≡ n
  long = simp length-take (omega arith)

  abbrev at : ℕ
  at = (r.rip + n) % 2 ^ 64

  at_is : at ≡ (r.rip + length (take n text)) % 2 ^ 64
  at_is = rw long

  -- the text with one more byte
  more : (b : ℕ) → take (n + 1) (slice_set text n b) ≡ take n text ++ b ∷ []
  more b = take-set_at text n (n + 1) b refl (omega arith)

  pub by_err : (e : PortStop) → Fetched o at (Err e) mid → Fetches (15 - n) (take n text) r o (Fault (trap_of Fetch e)) r mid
  unfolding Fetches
  by_err e p = rw left (Err e, mid, rw at_is at p, (refl, refl, refl))

  pub by_some : (b : ℕ) (i : Inst) (len : ℕ) (t : Stepped) (s : Regs) (w : World) → Fetched o at (Ok b) mid →
      decoded (take (n + 1) (slice_set text n b)) ≡ Some (i, len) → Does i len r mid t s w → Fetches (15 - n) (take n text) r o t s w
  unfolding Fetches
  by_some b i len t s w p d q = rw left (Ok b, mid, rw at_is at p, rw (rw more at d) q)

  pub by_none : (b : ℕ) (t : Stepped) (s : Regs) (w : World) → Fetched o at (Ok b) mid →
      decoded (take (n + 1) (slice_set text n b)) ≡ None → Fetches (15 - (n + 1)) (take (n + 1) (slice_set text n b)) r mid t s w → Fetches (15 - n) (take n text) r o t s w
  unfolding Fetches
  by_none b t s w p d q =
      let k : 15 - (n + 1) ≡ 14 - n = omega arith in
      rw left (Ok b, mid, rw at_is at p, rw (rw more at d) (rw (more, k) at q))

pub at_none : (n : ℕ) (text : List ℕ) (r : Regs) (o : World) → 15 ≤ n → Fetches (15 - n) (take n text) r o (Fault traps.Invalid) r o
unfolding Fetches
at_none n text r o h = let z : 15 - n ≡ 0 = omega arith in rw z (refl, refl, refl)
